-- A tree has as many nodes as its arena, and some at its end are within the limits where the tree is.
use Rattle.std.proofs.Common.{◌≡◌, ◌≢◌, ℕ, zero, suc, ◌+◌, ◌<◌, ◌≤◌, Bool, cond, List, [], ◌∷◌, length, drop, refl, sym, ap, subst, ◌∙◌, inl, inr, arith}
use Rattle.std.specs.List.{AllByRecursion}
use Rattle.std.proofs.lemmas.Bool.{cases_eq}
use Rattle.dt_model.specs.Instance.{followed_by}
use Rattle.dt_model.specs.Tree.{Forest, no_nodes, branch}
use Rattle.dt_model.specs.Valid.{node_count, IsNoDeeper}
use Rattle.dt_flat.specs.Arena.{Slot, forest_among, parent_of, depth_of, IsRooted}
use Rattle.dt_flat.proofs.AfterChild.{tested, differs}
use Rattle.dt_flat.proofs.Distinctness.{all-append}
use Rattle.dt_flat.proofs.PlantedNodes.{rows}

-- ---- each node is below one parent

abbrev sum_below : ℕ → (ℕ → ℕ) → ℕ
sum_below zero f = 0
sum_below (suc i) f = f i + sum_below i f

sum-none : (i : ℕ) → sum_below i (λ p. 0) ≡ 0
sum-none zero = refl
sum-none (suc i) = omega (arith, sum-none i)

sum-same : (i : ℕ) (f g : ℕ → ℕ) → ((p : ℕ) → p < i → f p ≡ g p) → sum_below i f ≡ sum_below i g
sum-same zero f g h = refl
sum-same (suc i) f g h = omega (arith, h i (omega arith), sum-same i f g (λ p l. h p (omega arith)))

-- where they differ at one place alone
sum-one : (i k x : ℕ) (f g : ℕ → ℕ) → k < i → ((p : ℕ) → p ≢ k → f p ≡ g p) → f k ≡ g k + x → sum_below i f ≡ sum_below i g + x
sum-one zero k x f g lt same more = absurd (omega arith)
sum-one (suc i) k x f g lt same more =
    elim (cases_eq i k) [
      | inl e ↦
          let here : f i ≡ g i + x = subst (λ (q : ℕ). f q ≡ g q + x) (sym e) more in
          let before : sum_below i f ≡ sum_below i g = sum-same i f g (λ p l. same p (omega arith)) in
          omega arith
      | inr d ↦
          let here : f i ≡ g i = same i d in
          let before = sum-one i k x f g (omega arith) same more in
          omega arith
    ]

abbrev under : ℕ → List Slot → ℕ → ℕ
under i ns p = node_count (forest_among i ns p)

under-other : (i : ℕ) (n : Slot) (ns : List Slot) (p : ℕ) → p ≢ n.parent → under i (n ∷ ns) p ≡ under (suc i) ns p
under-other i n ns p d =
    ap (λ (b : Bool). node_count (cond b (branch n.name n.properties (forest_among (suc i) ns i) (forest_among (suc i) ns p)) (forest_among (suc i) ns p))) (differs n.parent p (λ e. d (sym e)))

under-parent : (i : ℕ) (n : Slot) (ns : List Slot) → under i (n ∷ ns) n.parent ≡ under (suc i) ns n.parent + (1 + under (suc i) ns i)
under-parent i n ns =
    let p = n.parent in
    let swap : 1 + under (suc i) ns i + under (suc i) ns p ≡ under (suc i) ns p + (1 + under (suc i) ns i) = omega arith in
    ap (λ (b : Bool). node_count (cond b (branch n.name n.properties (forest_among (suc i) ns i) (forest_among (suc i) ns p)) (forest_among (suc i) ns p))) (tested p p refl) ∙ swap

-- each stands behind its parent, where the first has number i
abbrev AreBehind : ℕ → List Slot → Type 0
AreBehind i [] = Unit {0}
AreBehind i (n ∷ ns) = (n.parent < i) × AreBehind (suc i) ns

total : (i : ℕ) (ns : List Slot) → AreBehind i ns → sum_below i (under i ns) ≡ length ns
total i [] h = sum-none i
total i (n ∷ ns) h =
    let rest : under (suc i) ns i + sum_below i (under (suc i) ns) ≡ length ns = total (suc i) ns h.1 in
    let here = sum-one i n.parent (1 + under (suc i) ns i) (under i (n ∷ ns)) (under (suc i) ns) h.0 (λ p d. under-other i n ns p d) (under-parent i n ns) in
    omega arith

behind_from : (i : ℕ) (ns : List Slot) → ((j : ℕ) → j < length ns → parent_of ns j < i + j) → AreBehind i ns
behind_from i [] h = tt
behind_from i (n ∷ ns) h =
    let first = h 0 (omega arith) in
    (omega (arith, first), behind_from (suc i) ns (λ j lt. let later = h (suc j) (omega arith) in omega (arith, later)))

pub as_many : (slots : List Slot) → IsRooted slots → length slots ≡ 1 + node_count (forest_among 1 (drop 1 slots) 0)
as_many [] h = absurd (let some = h.some in omega (arith, some))
as_many (s ∷ ss) h =
    let all = total 1 ss (behind_from 1 ss (λ j lt. let above = h.above (suc j) (omega arith) (omega arith) in omega (arith, above))) in
    omega (arith, all)

-- ---- depths

shallow_from : (limit : ℕ) (ns : List Slot) → ((i : ℕ) → i < length ns → depth_of ns i ≤ limit) → AllByRecursion (λ (n : Slot). n.depth ≤ limit) ns
shallow_from limit [] h = tt
shallow_from limit (n ∷ ns) h = (h 0 (omega arith), shallow_from limit ns (λ i lt. h (suc i) (omega arith)))

pub shallow_all : (slots : List Slot) → IsRooted slots → AllByRecursion (λ (n : Slot). n.depth ≤ 64) slots
shallow_all slots h = shallow_from 64 slots h.shallow

pub shallow_rows : (i p d : ℕ) (f : Forest) → IsNoDeeper 64 d f → AllByRecursion (λ (n : Slot). n.depth ≤ 64) (rows i p d f)
shallow_rows i p d no_nodes h = tt
shallow_rows i p d (branch name properties children siblings) h = (
  h.0,
  all-append (λ (n : Slot). n.depth ≤ 64) (rows (suc i) i (d + 1) children) (rows (suc i + node_count children) p d siblings) (shallow_rows (suc i) i (d + 1) children h.1)
      (shallow_rows (suc i + node_count children) p d siblings h.2),
)

-- ---- siblings behind others

pub count_followed : (f g : Forest) → node_count (followed_by f g) ≡ node_count f + node_count g
count_followed no_nodes g = omega arith
count_followed (branch name properties children siblings) g = omega (arith, count_followed siblings g)

pub deep_followed : (d : ℕ) (f g : Forest) → IsNoDeeper 64 d (followed_by f g) → IsNoDeeper 64 d g
deep_followed d no_nodes g h = h
deep_followed d (branch name properties children siblings) g h = deep_followed d siblings g h.2
