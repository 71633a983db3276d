use Rattle.std.proofs.Common.{◌≡◌, ◌+◌, [], ◌∷◌, drop, length, get_or, sym, ap, ◌∙◌, arith}
use Rattle.std.proofs.lemmas.Bool.{eqb-true}
use Rattle.dt_irq.specs.Cells.{numbers_of}
use Rattle.dt_irq.specs.Merging.{first_merged}
use Rattle.dt_irq.proofs.Figures.{next_figure, next_number, no_numbers}
use Rattle.dt_irq.proofs.Merging.{none_left, unmasked}
use Rattle.dt_irq.proofs.providers.passed_at.Goals as goal

pub returns-then-is_empty : goal.returns-then-is_empty
returns-then-is_empty c =
    let at_hand = drop c.args.index c.args.at_hand.now in
    let mask = numbers_of c.args.mask.now in
    let none : mask ≡ [] = no_numbers c.args.mask.now (eqb-true (length c.args.mask.now) 0 (sym c.is_empty.ensures ∙ c.if-is_empty.true)) in
    sym (unmasked c.args.row at_hand) ∙ ap (first_merged c.args.row at_hand) (sym (none_left c.args.index [] (omega arith)) ∙ ap (drop c.args.index) (sym none))

pub returns-then-index-at_hand : goal.returns-then-index-at_hand
returns-then-index-at_hand c = ap (λ xs. first_merged c.args.row xs (drop c.args.index (numbers_of c.args.mask.now))) (sym (none_left c.args.index c.args.at_hand.now c.if-index-at_hand.true))

pub returns : goal.returns
returns c =
    let i = c.args.index in
    let x = get_or c.args.at_hand.now i 0 in
    let rest = drop (i + 1) c.args.at_hand.now in
    c.passed.ensures
    ∙ ap (first_merged c.args.row (x ∷ rest)) (sym (next_figure c.args.mask.now i c.cell_at.result c.cell_at.ensures))
    ∙ ap (λ xs. first_merged c.args.row xs (drop i (numbers_of c.args.mask.now))) (sym (next_number c.args.at_hand.now i c.if-index-at_hand.false))
