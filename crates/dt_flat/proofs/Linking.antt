-- Children as a list of their numbers, and what is left of a list.
use Rattle.std.proofs.Common.{◌≡◌, ℕ, zero, suc, ◌+◌, ◌<◌, ◌≤◌, Bool, true, false, cond, eqb, List, [], ◌∷◌, length, get_or, drop, map, slice_get, All, Some, refl, sym, ap, ◌∙◌, arith}
use Rattle.std.proofs.lemmas.List.{length-drop}
use Rattle.dt_flat.specs.Arena.{Slot, children_among, children, named_among}

-- with and without names, the children are the same slots
pub named-among : (i : ℕ) (ns : List Slot) (p : ℕ) → map (λ c. c.node) (named_among i ns p) ≡ children_among i ns p
named-among i [] p = refl
named-among i (n ∷ ns) p = by (eqb n.parent p) (named-among (suc i) ns p)
  where
    by : (b : Bool) → map (λ c. c.node) (named_among (suc i) ns p) ≡ children_among (suc i) ns p
        → map (λ c. c.node) (cond b (record { name = n.name; node = i } ∷ named_among (suc i) ns p) (named_among (suc i) ns p)) ≡ cond b (i ∷ children_among (suc i) ns p) (children_among (suc i) ns p)
    by true h = ap (λ (cs : List ℕ). i ∷ cs) h
    by false h = h

-- a child stands after its parent, and is a node
among_after : (i : ℕ) (ns : List Slot) (p k d : ℕ) → k < length (children_among i ns p) → (i ≤ get_or (children_among i ns p) k d) × (get_or (children_among i ns p) k d < i + length ns)
among_after i [] p k d h = absurd (omega arith)
among_after i (n ∷ ns) p k d h = by (eqb n.parent p) k (λ j g. among_after (suc i) ns p j d g) h
  where
    by : (b : Bool) (k : ℕ) → ((j : ℕ) → j < length (children_among (suc i) ns p) → (suc i ≤ get_or (children_among (suc i) ns p) j d) × (get_or (children_among (suc i) ns p) j d < suc i + length ns))
        → k < length (cond b (i ∷ children_among (suc i) ns p) (children_among (suc i) ns p))
        → (i ≤ get_or (cond b (i ∷ children_among (suc i) ns p) (children_among (suc i) ns p)) k d) × (get_or (cond b (i ∷ children_among (suc i) ns p) (children_among (suc i) ns p)) k d < i + suc (length ns))
    by true zero f h = (omega arith, omega arith)
    by true (suc k) f h = let r = f k (omega arith) in (omega (arith, r.0), omega (arith, r.1))
    by false k f h = let r = f k h in (omega (arith, r.0), omega (arith, r.1))

pub children_after : (slots : List Slot) (p : ℕ) → p < length slots → All (λ child. (p < child) × (child < length slots)) (children slots p)
children_after slots p lt k d h =
    let r = among_after (suc p) (drop (suc p) slots) p k d h in
    (omega (arith, r.0), omega (arith, r.1, length-drop (suc p) slots))

-- what is left of a list, from an item of it on
pub drop_item : {X : Type 0} (xs : List X) (i : ℕ) (x : X) → slice_get xs i ≡ Some x → drop i xs ≡ x ∷ drop (i + 1) xs
drop_item xs i x e = let s : i + 1 ≡ suc i = omega arith in by xs i x e ∙ ap (λ (k : ℕ). x ∷ drop k xs) (sym s)
  where
    by : {X : Type 0} (xs : List X) (i : ℕ) (x : X) → slice_get xs i ≡ Some x → drop i xs ≡ x ∷ drop (suc i) xs
    by [] i x e = absurd cc
    by (y ∷ ys) zero x e = let same : y ≡ x = cc in ap (λ z. z ∷ ys) same
    by (y ∷ ys) (suc i) x e = by ys i x e
