use Rattle.std.proofs.Common.{◌++◌, ◌∙◌, [], List, ℕ, sym, ap, arith}
use Rattle.dt_read.specs.Walked.{Step}
use Rattle.dt_read.specs.StepsLeft.{step_view}
use Rattle.dt_decompile.specs.Lines.{lines_of, line_of, opened}
use Rattle.dt_decompile.proofs.LineTexts.{depth_fits}
use Rattle.dt_text_writer.proofs.Writing.{puts_none, puts_then, exits_at, turned}
use Rattle.dt_decompile.proofs.steps.put_steps.Goals as goal

pub returns-in_err-put_step-clause-refused : goal.returns-in_err-put_step-clause-refused
returns-in_err-put_step-clause-refused g c =
    let (can, finite, few, front, split, passed) = c.loop-step.invariant in
    exits_at _ _ _ _ _ c.from_residual.ensures.1 (split ∙ ap (λ (l : List Step). front ++ lines_of c.loop-step.depth l) c.in-Some.ensures.steps)
    passed c.in_err-put_step.ensures.refused

pub loop-step-preserved : goal.loop-step-preserved
loop-step-preserved g c =
    let (can, finite, few, front, split, passed) = c.loop-step.invariant in
    let line = line_of c.loop-step.depth (step_view c.in-Some.step) in
    let next = sym c.depth_behind-depth.ensures in (
      tt,
      tt,
      depth_fits (opened c.args.steps) c.loop-step.depth _ (step_view c.in-Some.step) _ c.next.new.self c.depth_behind-depth.ensures c.in-Some.ensures.steps few,
      front ++ line,
      turned front line (lines_of c.depth_behind-depth.result c.next.new.self)
          (split ∙ ap (λ (l : List Step). front ++ lines_of c.loop-step.depth l) c.in-Some.ensures.steps
          ∙ ap (λ (depth : ℕ). front ++ (line ++ lines_of depth c.next.new.self)) next),
      puts_then passed c.in_ok-put_step.ensures.written,
    )

pub loop-step-init : goal.loop-step-init
loop-step-init g c =
    let same = c.into_iter-step-iterator.ensures.into_iter_gives in
    (tt, tt, omega (arith, ap opened same), [], ap (lines_of 0) (sym same), puts_none _)
