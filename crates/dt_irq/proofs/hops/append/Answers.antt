use Rattle.std.proofs.Common.{◌+◌, ◌++◌, [], ◌∷◌, take, drop, length, length-append, append_assoc, sym, ap, ◌∙◌, arith}
use Rattle.std.proofs.lemmas.List.{length-take-le, take_all}
use Rattle.dt_irq.specs.Cells.{numbers_of}
use Rattle.dt_irq.proofs.Figures.{next_figure, figure_count}
use Rattle.dt_irq.proofs.Zeros.{front_more}
use Rattle.dt_irq.proofs.hops.append.Goals as goal

pub push-requires : goal.push-requires
push-requires c =
    let ns = numbers_of c.args.cells.now in
    let i = c.loop-i.i in
    let room = c.requires in
    let count = figure_count c.args.cells.now in
    let front = length-take-le i ns (omega (arith, count)) in
    omega (arith, room, count, front, ap length c.loop-i.invariant, length-append c.args.key.now.items (take i ns))

pub loop-i-preserved : goal.loop-i-preserved
loop-i-preserved c =
    let ns = numbers_of c.args.cells.now in
    let i = c.loop-i.i in
    let x = c.cell_at.result in
    let more = front_more ns i x (drop (i + 1) ns) (next_figure c.args.cells.now i x c.cell_at.ensures) in
    c.push.ensures.items
    ∙ ap (λ ms. ms ++ x ∷ []) c.loop-i.invariant
    ∙ append_assoc c.args.key.now.items (take i ns) (x ∷ [])
    ∙ ap (λ ms. c.args.key.now.items ++ ms) (sym more)

pub returns : goal.returns
returns c =
    let ns = numbers_of c.args.cells.now in
    let i = c.loop-i.i in
    c.loop-i.invariant ∙ ap (λ ms. c.args.key.now.items ++ ms) (take_all i ns (omega (arith, figure_count c.args.cells.now)))
