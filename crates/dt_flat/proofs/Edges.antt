-- A child that is found by its name stands behind its parent, and knows its parent and its name.
use Rattle.std.proofs.Common.{◌≡◌, ℕ, zero, suc, ◌+◌, ◌<◌, Bool, true, false, cond, eqb, List, [], ◌∷◌, length, drop, Some, refl, sym, ap, ◌∙◌, arith}
use Rattle.std.specs.Str.{bytes_eq}
use Rattle.std.proofs.lemmas.Bool.{eqb-true}
use Rattle.std.proofs.lemmas.List.{length-drop}
use Rattle.dt_model.specs.Names.{Name}
use Rattle.dt_model.proofs.EventSteps.{bytes_eq-is}
use Rattle.dt_flat.specs.Arena.{Slot, named_among, named_children, child_of, parent_of, name_of}

-- the node that was found among those from number k on, d places behind the first of them
pub record Found (k : ℕ) (ns : List Slot) (p : ℕ) (x : Name) (j : ℕ) : Type 0 where
  pub distance : ℕ
  pub place : j ≡ k + distance
  pub within : distance < length ns
  pub parent : parent_of ns distance ≡ p
  pub name : bytes_eq x (name_of ns distance) ≡ true

later : (k : ℕ) (n : Slot) (ns : List Slot) (p : ℕ) (x : Name) (j : ℕ) → Found (suc k) ns p x j → Found k (n ∷ ns) p x j
later k n ns p x j f = record { distance = suc f.distance; place = omega (arith, f.place); within = omega (arith, f.within); parent = f.parent; name = f.name }

pub found_among : (k : ℕ) (ns : List Slot) (p : ℕ) (x : Name) (j : ℕ) → child_of (named_among k ns p) x ≡ Some j → Found k ns p x j
found_among k [] p x j h = cc
found_among k (n ∷ ns) p x j h = by (found_among (suc k) ns p x j) (eqb n.parent p) refl h
  where
    first : (b : Bool) → bytes_eq x n.name ≡ b → n.parent ≡ p → (child_of (named_among (suc k) ns p) x ≡ Some j → Found (suc k) ns p x j)
        → cond b (Some k) (child_of (named_among (suc k) ns p) x) ≡ Some j → Found k (n ∷ ns) p x j
    first true e at rec h' = let kj : k ≡ j = cc in record { distance = 0; place = omega (arith, kj); within = omega arith; parent = at; name = e }
    first false e at rec h' = later k n ns p x j (rec h')

    by : (child_of (named_among (suc k) ns p) x ≡ Some j → Found (suc k) ns p x j) → (b : Bool) → eqb n.parent p ≡ b
        → child_of (cond b (record { name = n.name; node = k } ∷ named_among (suc k) ns p) (named_among (suc k) ns p)) x ≡ Some j → Found k (n ∷ ns) p x j
    by rec true e h' = first (bytes_eq x n.name) refl (eqb-true n.parent p e) rec h'
    by rec false e h' = later k n ns p x j (rec h')

pub parent-drop : (m : ℕ) (ns : List Slot) (d : ℕ) → parent_of (drop m ns) d ≡ parent_of ns (m + d)
parent-drop zero ns d = let e : d ≡ 0 + d = omega arith in ap (parent_of ns) e
parent-drop (suc m) [] d = refl
parent-drop (suc m) (n ∷ ns) d = let e : suc (m + d) ≡ suc m + d = omega arith in parent-drop m ns d ∙ ap (parent_of (n ∷ ns)) e

pub name-drop : (m : ℕ) (ns : List Slot) (d : ℕ) → name_of (drop m ns) d ≡ name_of ns (m + d)
name-drop zero ns d = let e : d ≡ 0 + d = omega arith in ap (name_of ns) e
name-drop (suc m) [] d = refl
name-drop (suc m) (n ∷ ns) d = let e : suc (m + d) ≡ suc m + d = omega arith in name-drop m ns d ∙ ap (name_of (n ∷ ns)) e

-- what is known of the child j of p with the name x
pub record Edge (slots : List Slot) (p : ℕ) (x : Name) (j : ℕ) : Type 0 where
  pub after : p < j
  pub within : j < length slots
  pub parent : parent_of slots j ≡ p
  pub name : name_of slots j ≡ x

pub edge : (slots : List Slot) (p : ℕ) (x : Name) (j : ℕ) → child_of (named_children slots p) x ≡ Some j → Edge slots p x j
edge slots p x j h =
    let f = found_among (suc p) (drop (suc p) slots) p x j h in
    let at : suc p + f.distance ≡ j = sym f.place in
    record {
      after = omega (arith, f.place);
      within = omega (arith, f.place, f.within, length-drop (suc p) slots);
      parent = ap (parent_of slots) (sym at) ∙ sym (parent-drop (suc p) slots f.distance) ∙ f.parent;
      name = ap (name_of slots) (sym at) ∙ sym (name-drop (suc p) slots f.distance) ∙ sym (bytes_eq-is x (name_of (drop (suc p) slots) f.distance) f.name);
    }
