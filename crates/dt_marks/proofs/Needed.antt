-- Which nodes of a tree's list are needed: those that the mirror of the tree has.
use Rattle.std.proofs.Common.{◌≡◌, ℕ, suc, ◌+◌, ◌<◌, ◌≤◌, Bool, true, false, cond, ◌||◌, ◌&&◌, List, [], ◌∷◌, ◌++◌, refl, sym, ap, ◌∙◌, arith, append_assoc}
use Rattle.std.specs.Prelude.{nat_eq}
use Rattle.dt_model.specs.Fixups.{local_properties, mirror, unless_empty}
use Rattle.dt_model.specs.Names.{Name}
use Rattle.dt_model.specs.Named as named
use Rattle.dt_model.specs.Named.{NodeReference, NamedForest, Listed, node_count, listed}
use Rattle.dt_model.specs.Tree.{Property, Forest, no_nodes, branch}
use Rattle.dt_flat.proofs.AfterChild.{tested, differs}
use Rattle.dt_marks.specs.Mirrored.{has_some, needed_by}

-- whether there are nodes
abbrev pub has_nodes : Forest → Bool
has_nodes no_nodes = false
has_nodes (branch name properties children siblings) = true

pub unless : (name : Name) (ps : List Property) (children siblings : Forest) → unless_empty name ps children siblings ≡ cond (has_some ps || has_nodes children) (branch name ps children siblings) siblings
unless name [] no_nodes siblings = refl
unless name [] (branch x qs cs os) siblings = refl
unless name (p ∷ ps) children siblings = refl

pub nodes_of_both : (name : Name) (ps : List Property) (children siblings : Forest) → has_nodes (unless_empty name ps children siblings) ≡ ((has_some ps || has_nodes children) || has_nodes siblings)
nodes_of_both name ps children siblings = ap has_nodes (unless name ps children siblings) ∙ by (has_some ps || has_nodes children)
  where
    by : (b : Bool) → has_nodes (cond b (branch name ps children siblings) siblings) ≡ (b || has_nodes siblings)
    by true = refl
    by false = refl

-- none of the nodes that follow is below one of these numbers
abbrev pub AreSilent : ℕ → ℕ → List (Listed NodeReference) → Type 0
AreSilent k end rest = (j : ℕ) → k ≤ j → j < end → needed_by end rest j ≡ false

apart : (p j : ℕ) → p < j → nat_eq p j ≡ false
apart p j lt = differs p j (λ e. omega arith)

-- what stands before a forest is needed by what is behind it, or as the parent of one that is needed
pub before_forest : (f : NamedForest NodeReference) (rest : List (Listed NodeReference)) (k p : ℕ) → p < k → AreSilent k (k + node_count f) rest
    → (j : ℕ) → j < k → needed_by k (listed k p f ++ rest) j ≡ (needed_by (k + node_count f) rest j || (nat_eq p j && has_nodes (mirror f)))
before_forest named.no_nodes rest k p lt silent j before = let e : k ≡ k + 0 = omega arith in ap (λ (m : ℕ). needed_by m rest j) e ∙ plain (needed_by (k + 0) rest j) (nat_eq p j)
  where
    plain : (a b : Bool) → a ≡ (a || (b && false))
    plain true b = refl
    plain false true = refl
    plain false false = refl
before_forest (named.branch name content children siblings) rest k p lt silent j before =
    let m = suc k + node_count children in
    let inner = listed (suc k) k children in
    let outer = listed m p siblings in
    let end : k + (1 + node_count children + node_count siblings) ≡ m + node_count siblings = omega arith in
    let quiet : (q : ℕ) → k ≤ q → q < m + node_count siblings → needed_by (m + node_count siblings) rest q ≡ false =
    λ q lo hi. ap (λ (x : ℕ). needed_by x rest q) (sym end) ∙ silent q lo (omega arith) in
    let beside = before_forest siblings rest m p (omega arith) (λ q lo hi. quiet q (omega arith) hi) in
    let quiet_inside : AreSilent (suc k) m (outer ++ rest) =
    λ q lo hi. beside q hi ∙ (λ t. quiet q (omega arith) (omega arith) t || (apart p q (omega arith) t && has_nodes (mirror siblings))) in
    let inside = before_forest children (outer ++ rest) (suc k) k (omega arith) quiet_inside in
    let own : needed_by (suc k) (inner ++ (outer ++ rest)) k ≡ has_nodes (mirror children) =
    inside k (omega arith)
    ∙ (λ t. beside k (omega arith) t || (tested k k refl t && has_nodes (mirror children)))
    ∙ (λ t. (quiet k (omega arith) (omega arith) t || (apart p k lt t && has_nodes (mirror siblings))) || has_nodes (mirror children)) in
    let other : needed_by (suc k) (inner ++ (outer ++ rest)) j ≡ (needed_by (m + node_count siblings) rest j || (nat_eq p j && has_nodes (mirror siblings))) =
    inside j (omega arith)
    ∙ (λ t. beside j (omega arith) t || (differs k j (λ e. omega arith) t && has_nodes (mirror children)))
    ∙ without (needed_by (m + node_count siblings) rest j || (nat_eq p j && has_nodes (mirror siblings))) in
    ap (λ (ns : List (Listed NodeReference)). needed_by (suc k) ns j || ((nat_eq p j || nat_eq k j) && (has_some (local_properties content) || needed_by (suc k) ns k))) (append_assoc inner outer rest)
    ∙ (λ t. other t || ((nat_eq p j || differs k j (λ e. omega arith) t) && (has_some (local_properties content) || own t)))
    ∙ regrouped (needed_by (m + node_count siblings) rest j) (nat_eq p j) (has_nodes (mirror siblings)) (has_some (local_properties content) || has_nodes (mirror children))
    ∙ (λ t. needed_by (sym end t) rest j || (nat_eq p j && sym (nodes_of_both name (local_properties content) (mirror children) (mirror siblings)) t))
  where
    without : (a : Bool) → (a || false) ≡ a
    without true = refl
    without false = refl

    regrouped : (a b c d : Bool) → ((a || (b && c)) || ((b || false) && d)) ≡ (a || (b && (d || c)))
    regrouped true b c d = refl
    regrouped false false c d = refl
    regrouped false true true true = refl
    regrouped false true true false = refl
    regrouped false true false true = refl
    regrouped false true false false = refl

-- what is needed at the numbers of a forest, the first of which is k
abbrev pub AreNeeded : (ℕ → Bool) → ℕ → NamedForest NodeReference → Type 0
AreNeeded needed k named.no_nodes = Unit {0}
AreNeeded needed k (named.branch name content children siblings) =
    (needed k ≡ (has_some (local_properties content) || has_nodes (mirror children))) × AreNeeded needed (suc k) children × AreNeeded needed (suc k + node_count children) siblings

-- a function that agrees with the list from a forest on tells what is needed in it
pub needed_forest : (needed : ℕ → Bool) (f : NamedForest NodeReference) (rest : List (Listed NodeReference)) (k p : ℕ) → p < k → AreSilent k (k + node_count f) rest
    → ((j : ℕ) → k ≤ j → needed j ≡ needed_by k (listed k p f ++ rest) j)
    → AreNeeded needed k f × ((j : ℕ) → k + node_count f ≤ j → needed j ≡ needed_by (k + node_count f) rest j)
needed_forest needed named.no_nodes rest k p lt silent agrees =
    let e : k ≡ k + 0 = omega arith in
    (tt, λ j le. agrees j (omega arith) ∙ ap (λ (m : ℕ). needed_by m rest j) e)
needed_forest needed (named.branch name content children siblings) rest k p lt silent agrees =
    let m = suc k + node_count children in
    let inner = listed (suc k) k children in
    let outer = listed m p siblings in
    let end : k + (1 + node_count children + node_count siblings) ≡ m + node_count siblings = omega arith in
    let quiet : (q : ℕ) → k ≤ q → q < m + node_count siblings → needed_by (m + node_count siblings) rest q ≡ false =
    λ q lo hi. ap (λ (x : ℕ). needed_by x rest q) (sym end) ∙ silent q lo (omega arith) in
    let quiet_beside : AreSilent m (m + node_count siblings) rest = λ q lo hi. quiet q (omega arith) hi in
    let beside = before_forest siblings rest m p (omega arith) quiet_beside in
    let quiet_inside : AreSilent (suc k) m (outer ++ rest) =
    λ q lo hi. beside q hi ∙ (λ t. quiet q (omega arith) (omega arith) t || (apart p q (omega arith) t && has_nodes (mirror siblings))) in
    let inside = before_forest children (outer ++ rest) (suc k) k (omega arith) quiet_inside in
    let own : needed_by (suc k) (inner ++ (outer ++ rest)) k ≡ has_nodes (mirror children) =
    inside k (omega arith)
    ∙ (λ t. beside k (omega arith) t || (tested k k refl t && has_nodes (mirror children)))
    ∙ (λ t. (quiet k (omega arith) (omega arith) t || (apart p k lt t && has_nodes (mirror siblings))) || has_nodes (mirror children)) in
    let holds = has_some (local_properties content) in
    let opened : (j : ℕ) → needed_by k (listed k p (named.branch name content children siblings) ++ rest) j
    ≡ (needed_by (suc k) (inner ++ (outer ++ rest)) j || ((nat_eq p j || nat_eq k j) && (holds || needed_by (suc k) (inner ++ (outer ++ rest)) k))) =
    λ j. ap (λ (ns : List (Listed NodeReference)). needed_by (suc k) ns j || ((nat_eq p j || nat_eq k j) && (holds || needed_by (suc k) ns k))) (append_assoc inner outer rest) in
    let here : needed k ≡ (holds || has_nodes (mirror children)) =
    agrees k (omega arith) ∙ opened k
    ∙ (λ t. own t || ((nat_eq p k || tested k k refl t) && (holds || own t)))
    ∙ both (has_nodes (mirror children)) (nat_eq p k) holds in
    let further : (j : ℕ) → suc k ≤ j → needed j ≡ needed_by (suc k) (inner ++ (outer ++ rest)) j =
    λ j le. agrees j (omega arith) ∙ opened j
    ∙ (λ t. needed_by (suc k) (inner ++ (outer ++ rest)) j || ((apart p j (omega arith) t || apart k j (omega arith) t) && (holds || needed_by (suc k) (inner ++ (outer ++ rest)) k)))
    ∙ without (needed_by (suc k) (inner ++ (outer ++ rest)) j) in
    let u = needed_forest needed children (outer ++ rest) (suc k) k (omega arith) quiet_inside further in
    let v = needed_forest needed siblings rest m p (omega arith) quiet_beside u.1 in
    ((here, u.0, v.0), λ j le. v.1 j (omega arith) ∙ ap (λ (x : ℕ). needed_by x rest j) (sym end))
  where
    without : (a : Bool) → (a || false) ≡ a
    without true = refl
    without false = refl

    both : (a b c : Bool) → (a || ((b || true) && (c || a))) ≡ (c || a)
    both true true true = refl
    both true true false = refl
    both true false true = refl
    both true false false = refl
    both false true c = refl
    both false false c = refl
