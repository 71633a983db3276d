use Rattle.std.proofs.Common.{◌≡◌, suc, ◌+◌, ◌-◌, ◌/◌, ◌++◌, ◌∷◌, take, drop, length, set, replicate, sym, ap, ◌∙◌, arith}
use Rattle.std.proofs.lemmas.List.{take_all}
use Rattle.dt_irq.specs.Cells.{numbers_of}
use Rattle.dt_irq.specs.Merging.{merged_numbers}
use Rattle.dt_irq.proofs.Figures.{next_figure, figure_count}
use Rattle.dt_irq.proofs.Merging.{merged_count, next_merged}
use Rattle.dt_irq.proofs.Zeros.{filled}
use Rattle.dt_irq.proofs.providers.merged.Goals as goal

pub loop-i-preserved : goal.loop-i-preserved
loop-i-preserved c =
    let row = numbers_of c.args.row.now in
    let at_hand = c.args.at_hand.now in
    let mask = numbers_of c.args.mask.now in
    let ns = merged_numbers row at_hand mask in
    let i = c.loop-i.i in
    let few = c.requires.row in
    let k = 8 - (i + 1) in
    let room : 8 - i ≡ suc k = omega arith in
    let next = next_merged i c.cell_at.result row at_hand mask (next_figure c.args.row.now i c.cell_at.result c.cell_at.ensures) in
    ap (λ cells. set cells i c.passed_at.result) (c.loop-i.invariant ∙ ap (λ n. take i ns ++ replicate n 0) room)
    ∙ filled ns i k c.passed_at.result (drop (i + 1) ns) (next ∙ ap (λ x. x ∷ drop (i + 1) ns) (sym c.passed_at.ensures))
    ∙ ap (λ n. take n ns ++ replicate k 0) (let e : suc i ≡ i + 1 = omega arith in e)

pub returns : goal.returns
returns c =
    let row = numbers_of c.args.row.now in
    let at_hand = c.args.at_hand.now in
    let mask = numbers_of c.args.mask.now in
    let ns = merged_numbers row at_hand mask in
    let i = c.loop-i.i in
    let all : i ≡ length c.args.row.now / 4 = omega arith in
    c.loop-i.invariant
    ∙ ap (λ ms. ms ++ replicate (8 - i) 0) (take_all i ns (omega (arith, merged_count row at_hand mask, figure_count c.args.row.now)))
    ∙ ap (λ n. ns ++ replicate (8 - n) 0) all
