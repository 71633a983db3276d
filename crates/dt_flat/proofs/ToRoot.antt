-- The way from a node up to the root, and its names.
use Rattle.std.proofs.Common.{◌≡◌, ◌≢◌, ℕ, zero, suc, ◌+◌, ◌-◌, ◌<◌, ◌≤◌, Bool, true, false, cond, eqb, List, [], ◌∷◌, length, drop, map, set, Option, Some, None, inl, inr, refl, sym, ap, ◌∙◌, arith}
use Rattle.std.specs.Prelude.{option_and_then}
use Rattle.std.specs.List.{AllByRecursion}
use Rattle.std.specs.Str.{bytes_eq}
use Rattle.std.proofs.lemmas.Bool.{cases_lt}
use Rattle.std.proofs.lemmas.List.{length-drop}
use Rattle.std.proofs.lemmas.Slice.Eq.{bytes_eq-Decides}
use Rattle.dt_model.specs.Names.{Name, IsNodeName}
use Rattle.dt_model.specs.Path.{Path}
use Rattle.dt_model.specs.Valid.{AreDistinct}
use Rattle.dt_flat.specs.Arena.{Slot, Child, IsRooted, named_among, named_children, child_of, parent_of, name_of, node_from}
use Rattle.dt_flat.specs.Sound.{AreValid}
use Rattle.dt_flat.proofs.AfterChild.{tested}
use Rattle.dt_flat.proofs.Edges.{parent-drop, name-drop}

-- a name that none of the children has leads to none
not_among : (cs : List Child) (x : Name) → AllByRecursion (λ y. y ≢ x) (map (λ c. c.name) cs) → child_of cs x ≡ None
not_among [] x h = refl
not_among (c ∷ cs) x h = by (bytes_eq x c.name) refl (not_among cs x h.1)
  where
    by : (b : Bool) → bytes_eq x c.name ≡ b → child_of cs x ≡ None → cond b (Some c.node) (child_of cs x) ≡ None
    by true e f = absurd (h.0 (sym ((bytes_eq-Decides x c.name).0 e)))
    by false e f = f

-- among siblings that differ in their names, a node is the first of its name
own_among : (k : ℕ) (ns : List Slot) (p d : ℕ) → d < length ns → parent_of ns d ≡ p → AreDistinct (map (λ c. c.name) (named_among k ns p)) → child_of (named_among k ns p) (name_of ns d) ≡ Some (k + d)
own_among k [] p d lt at differ = absurd (omega arith)
own_among k (n ∷ ns) p zero lt at differ =
    let here : k ≡ k + 0 = omega arith in
    ap (λ (b : Bool). child_of (cond b (record { name = n.name; node = k } ∷ named_among (suc k) ns p) (named_among (suc k) ns p)) n.name) (tested n.parent p at)
    ∙ ap (λ (b : Bool). cond b (Some k) (child_of (named_among (suc k) ns p) n.name)) ((bytes_eq-Decides n.name n.name).1 refl)
    ∙ ap (λ (i : ℕ). Some i) here
own_among k (n ∷ ns) p (suc d) lt at differ = by (eqb n.parent p) differ (λ f. own_among (suc k) ns p d (omega arith) at f ∙ ap (λ (i : ℕ). Some i) further)
  where
    further : suc k + d ≡ k + suc d
    further = omega arith

    by : (b : Bool) → AreDistinct (map (λ c. c.name) (cond b (record { name = n.name; node = k } ∷ named_among (suc k) ns p) (named_among (suc k) ns p)))
        → (AreDistinct (map (λ c. c.name) (named_among (suc k) ns p)) → child_of (named_among (suc k) ns p) (name_of ns d) ≡ Some (k + suc d))
        → child_of (cond b (record { name = n.name; node = k } ∷ named_among (suc k) ns p) (named_among (suc k) ns p)) (name_of ns d) ≡ Some (k + suc d)
    by false f rest = rest f
    by true f rest = other (bytes_eq (name_of ns d) n.name) refl (rest f.1)
      where
        other : (t : Bool) → bytes_eq (name_of ns d) n.name ≡ t → child_of (named_among (suc k) ns p) (name_of ns d) ≡ Some (k + suc d)
            → cond t (Some k) (child_of (named_among (suc k) ns p) (name_of ns d)) ≡ Some (k + suc d)
        other true e g =
            let none : child_of (named_among (suc k) ns p) (name_of ns d) ≡ None =
            ap (child_of (named_among (suc k) ns p)) ((bytes_eq-Decides (name_of ns d) n.name).0 e) ∙ not_among (named_among (suc k) ns p) n.name f.0 in
            absurd cc
        other false e g = g

-- a node is the child of its name of its parent
pub own_child : (slots : List Slot) (i : ℕ) → IsRooted slots → AreValid slots → 0 < i → i < length slots → child_of (named_children slots (parent_of slots i)) (name_of slots i) ≡ Some i
own_child slots i rooted valid pos lt =
    let p = parent_of slots i in
    let d = i - suc p in
    let above : p < i = rooted.above i pos lt in
    let place : suc p + d ≡ i = omega arith in
    let inside : d < length (drop (suc p) slots) = omega (arith, length-drop (suc p) slots) in
    let parent : parent_of (drop (suc p) slots) d ≡ p = parent-drop (suc p) slots d ∙ ap (parent_of slots) place in
    let name : name_of (drop (suc p) slots) d ≡ name_of slots i = name-drop (suc p) slots d ∙ ap (name_of slots) place in
    ap (child_of (named_children slots p)) (sym name) ∙ own_among (suc p) (drop (suc p) slots) p d inside parent (valid.siblings p) ∙ ap (λ (k : ℕ). Some k) place

-- one name more at the top leads from the parent
pub from_parent : (slots : List Slot) (i node : ℕ) (names : Path) → IsRooted slots → AreValid slots → 0 < i → i < length slots → node_from slots i names ≡ Some node → node_from slots (parent_of slots i) (name_of slots i ∷ names) ≡ Some node
from_parent slots i node names rooted valid pos lt leads =
    ap (λ (o : Option ℕ). option_and_then (λ c. node_from slots c names) o) (own_child slots i rooted valid pos lt) ∙ leads

-- what is behind a write at the front
pub drop-set : (xs : List ℕ) (k x : ℕ) → k < length xs → drop k (set xs k x) ≡ x ∷ drop (suc k) xs
drop-set [] k x lt = absurd (omega arith)
drop-set (y ∷ ys) zero x lt = refl
drop-set (y ∷ ys) (suc k) x lt = drop-set ys k x (omega arith)

-- each node but the root has the name of one
pub node_named : (slots : List Slot) (i : ℕ) → AllByRecursion (λ n. IsNodeName n.name) (drop 1 slots) → 0 < i → i < length slots → IsNodeName (name_of slots i)
node_named [] i named pos lt = absurd (omega arith)
node_named (n ∷ ns) zero named pos lt = absurd (omega arith)
node_named (n ∷ ns) (suc i) named pos lt = at ns i named (omega arith)
  where
    at : (ns : List Slot) (i : ℕ) → AllByRecursion (λ n. IsNodeName n.name) ns → i < length ns → IsNodeName (name_of ns i)
    at [] i h lt = absurd (omega arith)
    at (n ∷ ns) zero h lt = h.0
    at (n ∷ ns) (suc i) h lt = at ns i h.1 (omega arith)

-- a path leads to each node
pub path_to : (slots : List Slot) (node : ℕ) → IsRooted slots → AreValid slots → node < length slots → (path : Path) × (node_from slots 0 path ≡ Some node)
path_to slots node rooted valid lt = climb node node [] (omega arith) lt refl
  where
    climb : (steps i : ℕ) (names : Path) → i ≤ steps → i < length slots → node_from slots i names ≡ Some node → (path : Path) × (node_from slots 0 path ≡ Some node)
    climb zero i names le l leads = let top : i ≡ 0 = omega arith in (names, ap (λ (k : ℕ). node_from slots k names) (sym top) ∙ leads)
    climb (suc steps) i names le l leads =
        elim (cases_lt 0 i) [
          | inl pos ↦
              let above : parent_of slots i < i = rooted.above i pos l in
              climb steps (parent_of slots i) (name_of slots i ∷ names) (omega arith) (omega arith) (from_parent slots i node names rooted valid pos l leads)
          | inr none ↦ let top : i ≡ 0 = omega arith in (names, ap (λ (k : ℕ). node_from slots k names) (sym top) ∙ leads)
        ]
