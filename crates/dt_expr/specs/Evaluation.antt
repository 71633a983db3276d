-- Evaluation step by step.
use Rattle.std.specs.Prelude.{ℕ, List, [], ◌∷◌, Option, Some, None, option_map}
use Rattle.dt_expr.specs.declared.step.Step.{Step}
use Rattle.dt_expr.specs.declared.step.Step.TheVariants as step
use Rattle.dt_expr.specs.Expression.{unary_value, binary_value, chosen}

-- the numbers that wait for their operators, the last one first, after a step; none where it divides by 0 or lacks operands
abbrev pub after : Step → List ℕ → Option (List ℕ)
after (step.Number n) ns = Some (n ∷ ns)
after (step.Unary op) (x ∷ ns) = Some (unary_value op x ∷ ns)
after (step.Unary op) [] = None
after (step.Binary op) (y ∷ (x ∷ ns)) = option_map (λ n. n ∷ ns) (binary_value op x y)
after (step.Binary op) _ = None
after step.Conditional (y ∷ (x ∷ (c ∷ ns))) = Some (chosen c x y ∷ ns)
after step.Conditional _ = None
