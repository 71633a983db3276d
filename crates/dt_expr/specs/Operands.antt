-- How many operands a step takes.
use Rattle.std.specs.Prelude.{ℕ}
use Rattle.dt_expr.specs.declared.step.Step.{Step}
use Rattle.dt_expr.specs.declared.step.Step.TheVariants as step

abbrev pub operands : Step → ℕ
operands (step.Number n) = 0
operands (step.Unary op) = 1
operands (step.Binary op) = 2
operands step.Conditional = 3
