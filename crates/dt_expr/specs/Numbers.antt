-- The numbers among steps.
use Rattle.std.specs.Prelude.{ℕ, ◌<◌}
use Rattle.dt_expr.specs.declared.step.Step.{Step}
use Rattle.dt_expr.specs.declared.step.Step.TheVariants as step

-- a number below a limit, or no number
abbrev pub IsNumberBelow : ℕ → Step → Type 0
IsNumberBelow limit (step.Number n) = n < limit
IsNumberBelow limit _ = Unit {0}
