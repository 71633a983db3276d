use Rattle.std.proofs.Common.{rules, Some, ap, sym, ◌∙◌}
use Rattle.dt_expr.proofs.Runs.{no_value, left_value, stopped, finished}
use Rattle.dt_expr.proofs.evaluation.value_by.Goals as goal

pub returns-in_default : goal.returns-in_default
returns-in_default g c =
    let ss = c.steps-step-items.result.now in
    let stop = stopped ss c.loop-step.step-index c.loop-step.stack _ c.loop-step-test.true c.loop-step.invariant.same c.in_default.ensures in
    λ e same. (no_value e ss (same ∙ sym c.steps-step-items.ensures.value) stop, search rules, search rules)

pub returns : goal.returns
returns g c =
    let ss = c.steps-step-items.result.now in
    let end = finished ss c.loop-step.step-index c.loop-step.stack c.loop-step-test.false c.loop-step.invariant.same in
    λ e same. left_value e ss c.pop.result c.pop.new.self (same ∙ sym c.steps-step-items.ensures.value) (end ∙ ap Some c.pop.ensures)
