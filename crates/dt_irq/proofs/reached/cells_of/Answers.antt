use Rattle.std.proofs.Common.{◌≡◌, suc, ◌+◌, ◌-◌, ◌/◌, ◌++◌, take, drop, length, set, replicate, ap, ◌∙◌, arith}
use Rattle.std.proofs.lemmas.List.{take_all}
use Rattle.dt_irq.specs.Cells.{numbers_of}
use Rattle.dt_irq.proofs.Figures.{next_figure, figure_count}
use Rattle.dt_irq.proofs.Zeros.{filled}
use Rattle.dt_irq.proofs.reached.cells_of.Goals as goal

pub loop-i-preserved : goal.loop-i-preserved
loop-i-preserved c =
    let ns = numbers_of c.args.specifier.now in
    let i = c.loop-i.i in
    let few = c.requires in
    let k = 8 - (i + 1) in
    let room : 8 - i ≡ suc k = omega arith in
    ap (λ cells. set cells i c.cell_at.result) (c.loop-i.invariant ∙ ap (λ n. take i ns ++ replicate n 0) room)
    ∙ filled ns i k c.cell_at.result (drop (i + 1) ns) (next_figure c.args.specifier.now i c.cell_at.result c.cell_at.ensures)
    ∙ ap (λ n. take n ns ++ replicate k 0) (let e : suc i ≡ i + 1 = omega arith in e)

pub returns : goal.returns
returns c =
    let ns = numbers_of c.args.specifier.now in
    let i = c.loop-i.i in
    let all : i ≡ length c.args.specifier.now / 4 = omega arith in
    c.loop-i.invariant
    ∙ ap (λ ms. ms ++ replicate (8 - i) 0) (take_all i ns (omega (arith, figure_count c.args.specifier.now)))
    ∙ ap (λ n. ns ++ replicate (8 - n) 0) all
