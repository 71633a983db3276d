-- What steps leave of the numbers that wait.
use Rattle.std.proofs.Common.{◌≡◌, ℕ, ◌+◌, ◌<◌, ◌≤◌, List, [], ◌∷◌, ◌++◌, length, drop, get_or, Option, Some, None, refl, ap, sym, ◌∙◌, append_assoc}
use Rattle.std.specs.Prelude.{option_and_then, option_map}
use Rattle.std.proofs.lemmas.List.{append-nil, drop_more, drop_all}
use Rattle.dt_expr.specs.declared.step.Unary.{Unary}
use Rattle.dt_expr.specs.declared.step.Binary.{Binary}
use Rattle.dt_expr.specs.declared.step.Step.{Step}
use Rattle.dt_expr.specs.declared.step.Step.TheVariants as step
use Rattle.dt_expr.specs.Expression.{Expression, number, one_operand, two_operands, conditional, steps, value, unary_value, binary_value, chosen}
use Rattle.dt_expr.specs.Evaluation.{after}
use Rattle.dt_expr.proofs.Heights.{behind_two, behind_three}

-- the numbers that wait after some steps
abbrev pub run : List Step → List ℕ → Option (List ℕ)
run [] ns = Some ns
run (s ∷ ss) ns = option_and_then (run ss) (after s ns)

-- what steps leave behind a value
abbrev pub behind : List Step → List ℕ → Option ℕ → Option (List ℕ)
behind more ns o = option_and_then (λ v. run more (v ∷ ns)) o

unary_run : (op : Unary) (more : List Step) (ns : List ℕ) (x : Option ℕ) →
    behind (step.Unary op ∷ more) ns x ≡ behind more ns (option_map (unary_value op) x)
unary_run op more ns None = refl
unary_run op more ns (Some a) = refl

pushed : (more : List Step) (ns : List ℕ) (o : Option ℕ) → option_and_then (run more) (option_map (λ n. n ∷ ns) o) ≡ behind more ns o
pushed more ns None = refl
pushed more ns (Some v) = refl

binary_run : (op : Binary) (more : List Step) (ns : List ℕ) (f : ℕ → Option (List ℕ)) (x y : Option ℕ) →
    ((a : ℕ) → f a ≡ behind (step.Binary op ∷ more) (a ∷ ns) y) →
    option_and_then f x ≡ behind more ns (option_and_then (λ a. option_and_then (λ b. binary_value op a b) y) x)
binary_run op more ns f None y h = refl
binary_run op more ns f (Some a) None h = h a
binary_run op more ns f (Some a) (Some b) h = h a ∙ pushed more ns (binary_value op a b)

conditional_run : (more : List Step) (ns : List ℕ) (f : ℕ → Option (List ℕ)) (g : ℕ → ℕ → Option (List ℕ)) (c x y : Option ℕ) →
    ((a : ℕ) → f a ≡ option_and_then (g a) x) →
    ((a b : ℕ) → g a b ≡ behind (step.Conditional ∷ more) (b ∷ (a ∷ ns)) y) →
    option_and_then f c ≡ behind more ns (option_and_then (λ a. option_and_then (λ b. option_map (λ d. chosen a b d) y) x) c)
conditional_run more ns f g None x y h k = refl
conditional_run more ns f g (Some a) None y h k = h a
conditional_run more ns f g (Some a) (Some b) None h k = h a ∙ k a b
conditional_run more ns f g (Some a) (Some b) (Some d) h k = h a ∙ k a b

-- the steps of an expression leave its value
pub run_steps : (e : Expression) (more : List Step) (ns : List ℕ) → run (steps e ++ more) ns ≡ behind more ns (value e)
run_steps (number k) more ns = refl
run_steps (one_operand op x) more ns =
    ap (λ (ss : List Step). run ss ns) (append_assoc (steps x) (step.Unary op ∷ []) more) ∙
    (run_steps x (step.Unary op ∷ more) ns ∙ unary_run op more ns (value x))
run_steps (two_operands op x y) more ns =
    let rest = step.Binary op ∷ more in
    ap (λ (ss : List Step). run ss ns) (behind_two (steps x) (steps y) (step.Binary op) more) ∙
    (run_steps x (steps y ++ rest) ns ∙
    binary_run op more ns (λ a. run (steps y ++ rest) (a ∷ ns)) (value x) (value y) (λ a. run_steps y rest (a ∷ ns)))
run_steps (conditional c x y) more ns =
    let rest = step.Conditional ∷ more in
    ap (λ (ss : List Step). run ss ns) (behind_three (steps c) (steps x) (steps y) step.Conditional more) ∙
    (run_steps c (steps x ++ (steps y ++ rest)) ns ∙
    conditional_run more ns (λ a. run (steps x ++ (steps y ++ rest)) (a ∷ ns)) (λ a b. run (steps y ++ rest) (b ∷ (a ∷ ns))) (value c) (value x) (value y)
    (λ a. run_steps x (steps y ++ rest) (a ∷ ns)) (λ a b. run_steps y rest (b ∷ (a ∷ ns))))

run_alone : (e : Expression) → run (steps e) [] ≡ behind [] [] (value e)
run_alone e = ap (λ (ss : List Step). run ss []) (sym (append-nil (steps e))) ∙ run_steps e [] []

value_of_none : (o : Option ℕ) → behind [] [] o ≡ None → o ≡ None
value_of_none None h = refl
value_of_none (Some v) h = absurd (cc)

value_of_some : (o : Option ℕ) (n : ℕ) (ns : List ℕ) → behind [] [] o ≡ Some (n ∷ ns) → o ≡ Some n
value_of_some None n ns h = absurd (cc)
value_of_some (Some v) n ns h = cc

pub no_value : (e : Expression) (ss : List Step) → steps e ≡ ss → run ss [] ≡ None → value e ≡ None
no_value e ss same h = value_of_none (value e) (sym (run_alone e) ∙ (ap (λ (x : List Step). run x []) same ∙ h))

pub left_value : (e : Expression) (ss : List Step) (n : ℕ) (ns : List ℕ) → steps e ≡ ss → run ss [] ≡ Some (n ∷ ns) → value e ≡ Some n
left_value e ss n ns same h = value_of_some (value e) n ns (sym (run_alone e) ∙ (ap (λ (x : List Step). run x []) same ∙ h))

-- where a step stops, all steps stop
pub stopped : (ss : List Step) (i : ℕ) (ns : List ℕ) (s : Step) → i < length ss → run (drop i ss) ns ≡ run ss [] → after (get_or ss i s) ns ≡ None → run ss [] ≡ None
stopped ss i ns s within same stops =
    sym same ∙ (ap (λ (rest : List Step). run rest ns) (drop_more ss i s within) ∙ ap (option_and_then (run (drop (i + 1) ss))) stops)

-- behind the last step, what waits is what all steps leave
pub finished : (ss : List Step) (i : ℕ) (ns : List ℕ) → length ss ≤ i → run (drop i ss) ns ≡ run ss [] → run ss [] ≡ Some ns
finished ss i ns behind_all same = sym same ∙ ap (λ (rest : List Step). run rest ns) (drop_all i ss behind_all)
