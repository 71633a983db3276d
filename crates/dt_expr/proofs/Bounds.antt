-- Values of numbers below 2^64 are below 2^64.
use Rattle.std.proofs.Common.{ℕ, ◌/◌, ◌%◌, ◌^◌, ◌<◌, Bool, true, false, List, [], ◌∷◌, ◌++◌, Option, Some, None, All, IfSome, arith}
use Rattle.std.specs.Prelude.{option_and_then, option_map, ◌==◌}
use Rattle.std.proofs.Math.Nat.{mul-le-mul_left}
use Rattle.std.proofs.lemmas.List.Elements.{All-head, All-tail, All-nil, All-cons}
use Rattle.std.proofs.lemmas.Bool.{cond_both, eqb-false}
use Rattle.std.proofs.lemmas.Nat.{or_lt, xor_lt, and_le_l, shr_le, div-add-mod'}
use Rattle.dt_expr.specs.declared.step.Unary.{Unary}
use Rattle.dt_expr.specs.declared.step.Unary.TheVariants as unary
use Rattle.dt_expr.specs.declared.step.Binary.{Binary}
use Rattle.dt_expr.specs.declared.step.Binary.TheVariants as binary
use Rattle.dt_expr.specs.declared.step.Step.{Step}
use Rattle.dt_expr.specs.declared.step.Step.TheVariants as step
use Rattle.dt_expr.specs.Expression.{Expression, number, one_operand, two_operands, conditional, steps, value, truth, is_true, unary_value, binary_value, by_other_than_0, chosen}
use Rattle.dt_expr.specs.Numbers.{IsNumberBelow}

abbrev IsSmall : ℕ → Type 0
IsSmall n = n < 2 ^ 64

truth_small : (b : Bool) → IsSmall (truth b)
truth_small true = omega arith
truth_small false = omega arith

unary_small : (op : Unary) (x : ℕ) → IsSmall (unary_value op x)
unary_small unary.Minus x = omega arith
unary_small unary.Complement x = omega arith
unary_small unary.Not x = truth_small (x == 0)

by_small : (y n : ℕ) → (0 < y → IsSmall n) → IfSome (by_other_than_0 y n) IsSmall
by_small y n h =
    cond_both (y == 0) None (Some n) (λ o. IfSome o IsSmall) (λ zero. tt) (λ other. h (grind (arith, eqb-false)))

quotient_small : (x y : ℕ) → IsSmall x → 0 < y → IsSmall (x / y)
quotient_small x y h p = omega (arith, div-add-mod' x y, mul-le-mul_left (x / y) p)

remainder_small : (x y : ℕ) → IsSmall x → 0 < y → IsSmall (x % y)
remainder_small x y h p = omega (arith, div-add-mod' x y)

binary_small : (op : Binary) (x y : ℕ) → IsSmall x → IsSmall y → IfSome (binary_value op x y) IsSmall
binary_small binary.Or x y h k = truth_small _
binary_small binary.And x y h k = truth_small _
binary_small binary.BitOr x y h k = or_lt 64 x y h k
binary_small binary.BitXor x y h k = xor_lt 64 x y h k
binary_small binary.BitAnd x y h k = omega (arith, and_le_l x y)
binary_small binary.Equal x y h k = truth_small _
binary_small binary.NotEqual x y h k = truth_small _
binary_small binary.Less x y h k = truth_small _
binary_small binary.Greater x y h k = truth_small _
binary_small binary.LessOrEqual x y h k = truth_small _
binary_small binary.GreaterOrEqual x y h k = truth_small _
binary_small binary.ShiftLeft x y h k = omega arith
binary_small binary.ShiftRight x y h k = omega (arith, shr_le x y)
binary_small binary.Plus x y h k = omega arith
binary_small binary.Minus x y h k = omega arith
binary_small binary.Times x y h k = omega arith
binary_small binary.Divide x y h k = by_small y (x / y) (quotient_small x y h)
binary_small binary.Remainder x y h k = by_small y (x % y) (remainder_small x y h)

one_small : (op : Unary) (x : Option ℕ) → IfSome (option_map (unary_value op) x) IsSmall
one_small op None = tt
one_small op (Some a) = unary_small op a

two_small : (op : Binary) (x y : Option ℕ) → IfSome x IsSmall → IfSome y IsSmall →
    IfSome (option_and_then (λ a. option_and_then (λ b. binary_value op a b) y) x) IsSmall
two_small op None y h k = tt
two_small op (Some a) None h k = tt
two_small op (Some a) (Some b) h k = binary_small op a b h k

chosen_small : (c x y : ℕ) → IsSmall x → IsSmall y → IsSmall (chosen c x y)
chosen_small c x y h k = cond_both (is_true c) x y IsSmall (λ yes. h) (λ no. k)

three_small : (c x y : Option ℕ) → IfSome x IsSmall → IfSome y IsSmall →
    IfSome (option_and_then (λ a. option_and_then (λ b. option_map (λ d. chosen a b d) y) x) c) IsSmall
three_small None x y h k = tt
three_small (Some c) None y h k = tt
three_small (Some c) (Some a) None h k = tt
three_small (Some c) (Some a) (Some b) h k = chosen_small c a b h k

abbrev IsSmallStep : Step → Type 0
IsSmallStep = IsNumberBelow (2 ^ 64)

front : (ss more : List Step) → All IsSmallStep (ss ++ more) → All IsSmallStep ss
front [] more h = All-nil IsSmallStep
front (s ∷ ss) more h =
    All-cons IsSmallStep s ss (All-head IsSmallStep s (ss ++ more) h) (front ss more (All-tail IsSmallStep s (ss ++ more) h))

back : (ss more : List Step) → All IsSmallStep (ss ++ more) → All IsSmallStep more
back [] more h = h
back (s ∷ ss) more h = back ss more (All-tail IsSmallStep s (ss ++ more) h)

pub value_small : (e : Expression) → All (IsNumberBelow (2 ^ 64)) (steps e) → IfSome (value e) (λ n. n < 2 ^ 64)
value_small (number n) h = All-head IsSmallStep (step.Number n) [] h
value_small (one_operand op x) h = one_small op (value x)
value_small (two_operands op x y) h =
    let rest = back (steps x) (steps y ++ step.Binary op ∷ []) h in
    two_small op (value x) (value y) (value_small x (front (steps x) (steps y ++ step.Binary op ∷ []) h)) (value_small y (front (steps y) (step.Binary op ∷ []) rest))
value_small (conditional c x y) h =
    let tail = step.Conditional ∷ [] in
    let rest = back (steps c) (steps x ++ (steps y ++ tail)) h in
    three_small (value c) (value x) (value y) (value_small x (front (steps x) (steps y ++ tail) rest)) (value_small y (front (steps y) tail (back (steps x) (steps y ++ tail) rest)))
