use Rattle.std.proofs.Common.{◌≡◌, ◌≤◌, [], Some, drop, length}
use Rattle.dt_expr.specs.Expression.{height}
use Rattle.dt_expr.proofs.Runs.{run}
use Rattle.dt_expr.proofs.evaluation.value_by.Given as goal

-- what is left leaves what the whole does
abbrev pub invariant-loop-step : goal.invariant-loop-step
invariant-loop-step g l = record {
  same : run (drop l.step-index l.step-items) l.stack ≡ run l.step-items [];
  one : height (length l.stack) (drop l.step-index l.step-items) ≡ Some 1;
  few : length l.stack ≤ l.step-index;
}
