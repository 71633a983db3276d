use Rattle.std.proofs.Common.{◌++◌, ◌∙◌, List, ℕ, ap}
use Rattle.dt_model.specs.Printed.{texts_from}
use Rattle.dt_text_writer.proofs.Writing.{puts_then, exits_at, puts_last, cut_last, turned}
use Rattle.dt_decompile.proofs.texts.put_texts_from.Goals as goal

pub returns-in_err-put-clause-refused : goal.returns-in_err-put-clause-refused
returns-in_err-put-clause-refused g c =
    let (front, split, passed) = c.loop-plain.invariant in
    exits_at _ _ _ _ _ c.from_residual.ensures.1 (split ∙ ap (λ (l : List ℕ). front ++ l) c.in-Some.ensures.0) passed c.in_err-put.ensures.refused

pub returns-in_err-put-2-clause-refused : goal.returns-in_err-put-2-clause-refused
returns-in_err-put-2-clause-refused g c =
    let (front, split, passed) = c.loop-plain.invariant in
    let m = c.in-Some in
    let next = split ∙ ap (λ (l : List ℕ). front ++ l) m.ensures.0 in
    exits_at _ _ _ _ _ c.from_residual-in_err-put-2.ensures.1 (turned front m.plain.now (m.mark.now ++ texts_from m.behind.now) next)
    (puts_then passed c.in_ok-put.ensures.written) c.in_err-put-2.ensures.refused

pub loop-plain-preserved : goal.loop-plain-preserved
loop-plain-preserved g c =
    let (front, split, passed) = c.loop-plain.invariant in
    let m = c.in-Some in
    let next = split ∙ ap (λ (l : List ℕ). front ++ l) m.ensures.0 in (
      (front ++ m.plain.now) ++ m.mark.now,
      turned (front ++ m.plain.now) m.mark.now (texts_from m.behind.now) (turned front m.plain.now (m.mark.now ++ texts_from m.behind.now) next),
      puts_then (puts_then passed c.in_ok-put.ensures.written) c.in_ok-put-2.ensures.written,
    )

pub returns-clause-written : goal.returns-clause-written
returns-clause-written g c =
    let (front, split, passed) = c.loop-plain.invariant in
    puts_last _ _ _ _ (split ∙ ap (λ (l : List ℕ). front ++ l) c.in_default.ensures) passed c.put-2.ensures.written

pub returns-clause-refused : goal.returns-clause-refused
returns-clause-refused g c =
    let (front, split, passed) = c.loop-plain.invariant in
    cut_last _ _ _ _ (split ∙ ap (λ (l : List ℕ). front ++ l) c.in_default.ensures) passed c.put-2.ensures.refused
