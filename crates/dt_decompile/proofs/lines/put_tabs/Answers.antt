use Rattle.std.proofs.Common.{◌++◌, ◌∙◌, ◌-◌, List, ℕ, ap}
use Rattle.std.specs.Prelude.{codes}
use Rattle.dt_model.specs.Printed.{tabs}
use Rattle.dt_decompile.proofs.LineTexts.{tabs_more, tabs_last}
use Rattle.dt_text_writer.proofs.Writing.{puts_then, exits_at, puts_last, cut_last, turned}
use Rattle.dt_decompile.proofs.lines.put_tabs.Goals as goal

pub returns-in_err-put-clause-refused : goal.returns-in_err-put-clause-refused
returns-in_err-put-clause-refused g c =
    let (front, split, passed) = c.loop-left.invariant in
    exits_at _ _ _ _ _ c.from_residual.ensures.1 (split ∙ ap (λ (l : List ℕ). front ++ l) (tabs_more c.loop-left.left c.loop-left-test.true)) passed c.in_err-put.ensures.refused

pub loop-left-preserved : goal.loop-left-preserved
loop-left-preserved g c =
    let (front, split, passed) = c.loop-left.invariant in (
      front ++ codes "\t\t\t\t\t\t\t\t",
      turned front (codes "\t\t\t\t\t\t\t\t") (tabs (c.loop-left.left - 8))
          (split ∙ ap (λ (l : List ℕ). front ++ l) (tabs_more c.loop-left.left c.loop-left-test.true)),
      puts_then passed c.in_ok-put.ensures.written,
    )

pub returns-clause-written : goal.returns-clause-written
returns-clause-written g c =
    let (front, split, passed) = c.loop-left.invariant in
    puts_last _ _ _ _ (split ∙ ap (λ (l : List ℕ). front ++ l) (tabs_last c.loop-left.left c.loop-left-test.false)) passed c.put-2.ensures.written

pub returns-clause-refused : goal.returns-clause-refused
returns-clause-refused g c =
    let (front, split, passed) = c.loop-left.invariant in
    cut_last _ _ _ _ (split ∙ ap (λ (l : List ℕ). front ++ l) (tabs_last c.loop-left.left c.loop-left-test.false)) passed c.put-2.ensures.refused
