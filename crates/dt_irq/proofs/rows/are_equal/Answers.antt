use Rattle.std.proofs.Common.{◌≡◌, ◌≢◌, ◌+◌, true, false, ◌&&◌, ◌∷◌, drop, length, get_or, sym, ap, ◌∙◌, arith}
use Rattle.std.proofs.lemmas.List.{drop-drop, length-drop}
use Rattle.dt_resolve_model.specs.Interrupts.{equal_under}
use Rattle.dt_irq.specs.Cells.{agree, numbers_of}
use Rattle.dt_irq.proofs.Comparing.{unequal_lengths, first_equal, nothing_equal}
use Rattle.dt_irq.proofs.Figures.{next_figure, next_number, figure_count}
use Rattle.dt_irq.proofs.rows.are_equal.Goals as goal

pub returns-then-key-count : goal.returns-then-key-count
returns-then-key-count c =
    let compared = c.args.compared.now in
    let ne : length (numbers_of compared) ≢ length c.args.key.now = λ e. c.if-key-count.true (sym e ∙ figure_count compared) in
    sym (unequal_lengths (numbers_of compared) c.args.key.now (numbers_of c.args.mask.now) ne)

pub returns-then-not-agree : goal.returns-then-not-agree
returns-then-not-agree c =
    let i = c.loop-i.i in
    let mask = drop i (numbers_of c.args.mask.now) in
    let x = c.cell_at.result in
    let y = get_or c.args.key.now i 0 in
    let xs = drop (i + 1) (numbers_of c.args.compared.now) in
    let ys = drop (i + 1) c.args.key.now in
    let same : agree x y mask ≡ false = sym c.agree.ensures ∙ c.if-not-agree.true in
    ap (λ b. b && equal_under xs ys (drop 1 mask)) (sym same)
    ∙ sym (first_equal x y xs ys mask)
    ∙ sym (ap (λ ns. equal_under ns (y ∷ ys) mask) (next_figure c.args.compared.now i x c.cell_at.ensures))
    ∙ sym (ap (λ ns. equal_under (drop i (numbers_of c.args.compared.now)) ns mask) (next_number c.args.key.now i (omega (arith, c.if-key-count.false))))
    ∙ c.loop-i.invariant

pub loop-i-preserved : goal.loop-i-preserved
loop-i-preserved c =
    let i = c.loop-i.i in
    let mask = drop i (numbers_of c.args.mask.now) in
    let x = c.cell_at.result in
    let y = get_or c.args.key.now i 0 in
    let xs = drop (i + 1) (numbers_of c.args.compared.now) in
    let ys = drop (i + 1) c.args.key.now in
    let same : agree x y mask ≡ true = sym c.agree.ensures ∙ c.if-not-agree.false in
    ap (equal_under xs ys) (sym (drop-drop 1 i (numbers_of c.args.mask.now)))
    ∙ ap (λ b. b && equal_under xs ys (drop 1 mask)) (sym same)
    ∙ sym (first_equal x y xs ys mask)
    ∙ sym (ap (λ ns. equal_under ns (y ∷ ys) mask) (next_figure c.args.compared.now i x c.cell_at.ensures))
    ∙ sym (ap (λ ns. equal_under (drop i (numbers_of c.args.compared.now)) ns mask) (next_number c.args.key.now i (omega (arith, c.if-key-count.false))))
    ∙ c.loop-i.invariant

pub returns : goal.returns
returns c =
    let i = c.loop-i.i in
    let compared = numbers_of c.args.compared.now in
    let some = figure_count c.args.compared.now in
    sym (nothing_equal (drop i compared) (drop i c.args.key.now) (drop i (numbers_of c.args.mask.now)) (omega (arith, length-drop i compared, some)) (omega (arith, length-drop i c.args.key.now)))
    ∙ c.loop-i.invariant
