-- Steps behind which one operand is left are those of one expression.
use Rattle.std.proofs.Common.{◌≡◌, List, [], ◌∷◌, ◌++◌, length, Option, Some, None, refl, ap, sym, ◌∙◌, append_assoc}
use Rattle.std.proofs.lemmas.List.{append-nil}
use Rattle.dt_expr.specs.declared.step.Step.{Step}
use Rattle.dt_expr.specs.declared.step.Step.TheVariants as step
use Rattle.dt_expr.specs.Expression.{Expression, number, one_operand, two_operands, conditional, steps, height}
use Rattle.dt_expr.proofs.Heights.{behind_two, behind_three}

-- the steps of expressions, the last one first
abbrev pub spelled : List Expression → List Step
spelled [] = []
spelled (e ∷ es) = spelled es ++ steps e

pub spelled_two : (a b c : List Step) (s : Step) (more : List Step) → (a ++ (b ++ (c ++ s ∷ []))) ++ more ≡ ((a ++ b) ++ c) ++ s ∷ more
spelled_two a b c s more = simp append_assoc

pub spelled_three : (a b c d : List Step) (s : Step) (more : List Step) → (a ++ (b ++ (c ++ (d ++ s ∷ [])))) ++ more ≡ (((a ++ b) ++ c) ++ d) ++ s ∷ more
spelled_three a b c d s more = simp append_assoc

pub spelled_one : (a b : List Step) (s : Step) (more : List Step) → (a ++ (b ++ s ∷ [])) ++ more ≡ (a ++ b) ++ s ∷ more
spelled_one a b s more = simp append_assoc

-- behind expressions, steps after which one operand is left complete one
pub completed : (ss : List Step) (es : List Expression) → height (length es) ss ≡ Some 1 → (e : Expression) × (steps e ≡ spelled es ++ ss)
completed [] [] h = absurd (cc)
completed [] (e ∷ []) h = (e, sym (append-nil (steps e)))
completed [] (e ∷ (f ∷ es)) h = absurd (cc)
completed (step.Number n ∷ ss) es h =
    let rest = completed ss (number n ∷ es) h in
    (rest.0, rest.1 ∙ append_assoc (spelled es) (step.Number n ∷ []) ss)
completed (step.Unary op ∷ ss) [] h = absurd (cc)
completed (step.Unary op ∷ ss) (x ∷ es) h =
    let rest = completed ss (one_operand op x ∷ es) h in
    (rest.0, rest.1 ∙ spelled_one (spelled es) (steps x) (step.Unary op) ss)
completed (step.Binary op ∷ ss) [] h = absurd (cc)
completed (step.Binary op ∷ ss) (y ∷ []) h = absurd (cc)
completed (step.Binary op ∷ ss) (y ∷ (x ∷ es)) h =
    let rest = completed ss (two_operands op x y ∷ es) h in
    (rest.0, rest.1 ∙ spelled_two (spelled es) (steps x) (steps y) (step.Binary op) ss)
completed (step.Conditional ∷ ss) [] h = absurd (cc)
completed (step.Conditional ∷ ss) (y ∷ []) h = absurd (cc)
completed (step.Conditional ∷ ss) (y ∷ (x ∷ [])) h = absurd (cc)
completed (step.Conditional ∷ ss) (y ∷ (x ∷ (c ∷ es))) h =
    let rest = completed ss (conditional c x y ∷ es) h in
    (rest.0, rest.1 ∙ spelled_three (spelled es) (steps c) (steps x) (steps y) step.Conditional ss)

-- the expressions that steps leave, the last one first
abbrev pub built : List Step → List Expression → Option (List Expression)
built [] es = Some es
built (step.Number n ∷ ss) es = built ss (number n ∷ es)
built (step.Unary op ∷ ss) (x ∷ es) = built ss (one_operand op x ∷ es)
built (step.Unary op ∷ ss) [] = None
built (step.Binary op ∷ ss) (y ∷ (x ∷ es)) = built ss (two_operands op x y ∷ es)
built (step.Binary op ∷ ss) _ = None
built (step.Conditional ∷ ss) (y ∷ (x ∷ (c ∷ es))) = built ss (conditional c x y ∷ es)
built (step.Conditional ∷ ss) _ = None

pub built_again : (e : Expression) (more : List Step) (es : List Expression) → built (steps e ++ more) es ≡ built more (e ∷ es)
built_again (number k) more es = refl
built_again (one_operand op x) more es =
    ap (λ (ss : List Step). built ss es) (append_assoc (steps x) (step.Unary op ∷ []) more) ∙ built_again x (step.Unary op ∷ more) es
built_again (two_operands op x y) more es =
    let rest = step.Binary op ∷ more in
    ap (λ (ss : List Step). built ss es) (behind_two (steps x) (steps y) (step.Binary op) more) ∙
    (built_again x (steps y ++ rest) es ∙ built_again y rest (x ∷ es))
built_again (conditional c x y) more es =
    let rest = step.Conditional ∷ more in
    ap (λ (ss : List Step). built ss es) (behind_three (steps c) (steps x) (steps y) step.Conditional more) ∙
    (built_again c (steps x ++ (steps y ++ rest)) es ∙ (built_again x (steps y ++ rest) (c ∷ es) ∙ built_again y rest (x ∷ (c ∷ es))))

built_alone : (e : Expression) → built (steps e) [] ≡ Some (e ∷ [])
built_alone e = ap (λ (ss : List Step). built ss []) (sym (append-nil (steps e))) ∙ built_again e [] []

pub same_expression : (e f : Expression) → steps e ≡ steps f → e ≡ f
same_expression e f h =
    let left = built_alone e in
    let right = built_alone f in
    let middle : built (steps e) [] ≡ built (steps f) [] = ap (λ (ss : List Step). built ss []) h in
    cc
