-- How many operands are left behind steps.
use Rattle.std.proofs.Common.{◌≡◌, ℕ, zero, suc, ◌+◌, ◌<◌, List, [], ◌∷◌, ◌++◌, None, refl, ap, ◌∙◌, append_assoc, arith}
use Rattle.dt_expr.specs.declared.step.Step.{Step}
use Rattle.dt_expr.specs.declared.step.Step.TheVariants as step
use Rattle.dt_expr.specs.Expression.{Expression, number, one_operand, two_operands, conditional, steps, height}
use Rattle.dt_expr.specs.Operands.{operands}

pub height_short : (s : Step) (n : ℕ) (ss : List Step) → n < operands s → height n (s ∷ ss) ≡ None
height_short (step.Number k) n ss h = absurd (omega arith)
height_short (step.Unary op) zero ss h = refl
height_short (step.Unary op) (suc n) ss h = absurd (omega arith)
height_short (step.Binary op) zero ss h = refl
height_short (step.Binary op) (suc zero) ss h = refl
height_short (step.Binary op) (suc (suc n)) ss h = absurd (omega arith)
height_short step.Conditional zero ss h = refl
height_short step.Conditional (suc zero) ss h = refl
height_short step.Conditional (suc (suc zero)) ss h = refl
height_short step.Conditional (suc (suc (suc n))) ss h = absurd (omega arith)

pub height_step : (s : Step) (n m : ℕ) (ss : List Step) → n ≡ m + operands s → height n (s ∷ ss) ≡ height (suc m) ss
height_step (step.Number k) n m ss e = ap (λ (x : ℕ). height (suc x) ss) (omega arith)
height_step (step.Unary op) n m ss e =
    let same : n ≡ suc m = omega arith in
    ap (λ (x : ℕ). height x (step.Unary op ∷ ss)) same
height_step (step.Binary op) n m ss e =
    let same : n ≡ suc (suc m) = omega arith in
    ap (λ (x : ℕ). height x (step.Binary op ∷ ss)) same
height_step step.Conditional n m ss e =
    let same : n ≡ suc (suc (suc m)) = omega arith in
    ap (λ (x : ℕ). height x (step.Conditional ∷ ss)) same

pub behind_two : (a b : List Step) (s : Step) (more : List Step) → (a ++ (b ++ s ∷ [])) ++ more ≡ a ++ (b ++ s ∷ more)
behind_two a b s more = simp append_assoc

pub behind_three : (a b c : List Step) (s : Step) (more : List Step) → (a ++ (b ++ (c ++ s ∷ []))) ++ more ≡ a ++ (b ++ (c ++ s ∷ more))
behind_three a b c s more = simp append_assoc

pub height_steps : (e : Expression) (n : ℕ) (more : List Step) → height n (steps e ++ more) ≡ height (suc n) more
height_steps (number k) n more = refl
height_steps (one_operand op x) n more =
    ap (height n) (append_assoc (steps x) (step.Unary op ∷ []) more) ∙ height_steps x n (step.Unary op ∷ more)
height_steps (two_operands op x y) n more =
    let rest = step.Binary op ∷ more in
    ap (height n) (behind_two (steps x) (steps y) (step.Binary op) more) ∙ (height_steps x n (steps y ++ rest) ∙ height_steps y (suc n) rest)
height_steps (conditional c x y) n more =
    let rest = step.Conditional ∷ more in
    ap (height n) (behind_three (steps c) (steps x) (steps y) step.Conditional more) ∙
    (height_steps c n (steps x ++ (steps y ++ rest)) ∙ (height_steps x (suc n) (steps y ++ rest) ∙ height_steps y (suc (suc n)) rest))
