use Rattle.std.proofs.Common.{◌≡◌, ◌≤◌, drop}
use Rattle.dt_expr.specs.Expression.{height}
use Rattle.dt_expr.proofs.expression.are_steps.Given as goal

-- what is left decides as the whole does
abbrev pub invariant-loop-step : goal.invariant-loop-step
invariant-loop-step l = record {
  same : height l.height (drop l.step-index l.steps) ≡ height 0 l.steps;
  few : l.height ≤ l.step-index;
}
