-- Expressions, their values, and their steps in postfix order (Devicetree Specification v0.4, 6.3).
use Rattle.std.specs.Prelude.{◌≡◌, ℕ, suc, zero, ◌+◌, ◌-◌, ◌*◌, ◌/◌, ◌%◌, ◌^◌, ◌==◌, ◌≤◌, ◌&&◌, ◌||◌, not, Bool, nat_lt, nat_le, List, [], ◌∷◌, ◌++◌, length, Option, Some, None, option_and_then, option_map, if◌then◌else◌}
use Rattle.std.specs.Int.Bits.{bit_and, bit_or, bit_xor}
use Rattle.dt_model.specs.Limits.{most_tokens}
use Rattle.dt_expr.specs.declared.step.Unary.{Unary}
use Rattle.dt_expr.specs.declared.step.Unary.TheVariants as unary
use Rattle.dt_expr.specs.declared.step.Binary.{Binary}
use Rattle.dt_expr.specs.declared.step.Binary.TheVariants as binary
use Rattle.dt_expr.specs.declared.step.Step.{Step}
use Rattle.dt_expr.specs.declared.step.Step.TheVariants as step

pub data Expression : Type 0 where
  number : ℕ → Expression
  one_operand : Unary → Expression → Expression
  two_operands : Binary → Expression → Expression → Expression
  conditional : (condition then_this else_this : Expression) → Expression

-- ---- values: whole numbers modulo 2^64

abbrev pub truth : Bool → ℕ
truth b = if b then 1 else 0

abbrev pub is_true : ℕ → Bool
is_true n = not (n == 0)

abbrev pub unary_value : Unary → ℕ → ℕ
unary_value unary.Minus x = (2 ^ 64 - x) % 2 ^ 64
unary_value unary.Complement x = 2 ^ 64 - 1 - x
unary_value unary.Not x = truth (x == 0)

-- a quotient or a remainder, none where it is by 0
abbrev pub by_other_than_0 : ℕ → ℕ → Option ℕ
by_other_than_0 y value = if y == 0 then None else Some value

-- a shift by 64 or more gives 0
abbrev pub binary_value : Binary → ℕ → ℕ → Option ℕ
binary_value binary.Or x y = Some (truth (is_true x || is_true y))
binary_value binary.And x y = Some (truth (is_true x && is_true y))
binary_value binary.BitOr x y = Some (bit_or x y)
binary_value binary.BitXor x y = Some (bit_xor x y)
binary_value binary.BitAnd x y = Some (bit_and x y)
binary_value binary.Equal x y = Some (truth (x == y))
binary_value binary.NotEqual x y = Some (truth (not (x == y)))
binary_value binary.Less x y = Some (truth (nat_lt x y))
binary_value binary.Greater x y = Some (truth (nat_lt y x))
binary_value binary.LessOrEqual x y = Some (truth (nat_le x y))
binary_value binary.GreaterOrEqual x y = Some (truth (nat_le y x))
binary_value binary.ShiftLeft x y = Some (x * 2 ^ y % 2 ^ 64)
binary_value binary.ShiftRight x y = Some (x / 2 ^ y)
binary_value binary.Plus x y = Some ((x + y) % 2 ^ 64)
binary_value binary.Minus x y = Some ((x + (2 ^ 64 - y)) % 2 ^ 64)
binary_value binary.Times x y = Some (x * y % 2 ^ 64)
binary_value binary.Divide x y = by_other_than_0 y (x / y)
binary_value binary.Remainder x y = by_other_than_0 y (x % y)

abbrev pub chosen : ℕ → ℕ → ℕ → ℕ
chosen c x y = if is_true c then x else y

-- The value of an expression. Each part is evaluated, also one that `&&`, `||` or `?` wouldn't choose; where one divides by
-- 0, there is no value.
abbrev pub value : Expression → Option ℕ
value (number n) = Some n
value (one_operand op x) = option_map (unary_value op) (value x)
value (two_operands op x y) = option_and_then (λ a. option_and_then (λ b. binary_value op a b) (value y)) (value x)
value (conditional c x y) =
    option_and_then (λ a. option_and_then (λ b. option_map (λ d. chosen a b d) (value y)) (value x)) (value c)

-- ---- steps

-- the steps of an expression, each operator behind its operands
abbrev pub steps : Expression → List Step
steps (number n) = step.Number n ∷ []
steps (one_operand op x) = steps x ++ step.Unary op ∷ []
steps (two_operands op x y) = steps x ++ (steps y ++ step.Binary op ∷ [])
steps (conditional c x y) = steps c ++ (steps x ++ (steps y ++ step.Conditional ∷ []))

-- how many operands are there behind some steps, where so many were there before; none where an operator lacks operands
abbrev pub height : ℕ → List Step → Option ℕ
height n [] = Some n
height n (step.Number k ∷ ss) = height (suc n) ss
height zero (step.Unary op ∷ ss) = None
height (suc n) (step.Unary op ∷ ss) = height (suc n) ss
height (suc (suc n)) (step.Binary op ∷ ss) = height (suc n) ss
height _ (step.Binary op ∷ ss) = None
height (suc (suc (suc n))) (step.Conditional ∷ ss) = height (suc n) ss
height _ (step.Conditional ∷ ss) = None

-- the steps are an expression's, of at most so many as there are tokens of one in a source
pub record AreSteps (ss : List Step) : Type 0 where
  pub one : height 0 ss ≡ Some 1
  pub few : length ss ≤ most_tokens
