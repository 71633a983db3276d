-- What the nodes of an arena have after a property is set.
use Rattle.std.proofs.Common.{◌≡◌, ◌≢◌, ℕ, zero, suc, ◌<◌, Bool, true, false, cond, eqb, ◌&&◌, ◌==◌, if◌then◌else◌, List, [], ◌∷◌, length, drop, Some, refl, sym, ap, ◌∙◌, arith}
use Rattle.std.specs.Str.{bytes_eq}
use Rattle.std.proofs.lemmas.Bool.{eqb-true}
use Rattle.std.proofs.lemmas.Bool.Decides.{nat_tests}
use Rattle.std.proofs.lemmas.Slice.Eq.{bytes_eq-Decides}
use Rattle.dt_model.specs.Names.{Name}
use Rattle.dt_model.specs.Tree.{Property, value_of}
use Rattle.dt_flat.specs.Arena.{Slot, named_among, named_children, properties, with_property}
use Rattle.dt_model.specs.Changes.{set_property}

-- ---- children don't depend on properties

abbrev pub SameShape : List Slot → List Slot → Type 0
SameShape [] [] = Unit {0}
SameShape [] (m ∷ ms) = ⊥
SameShape (n ∷ ns) [] = ⊥
SameShape (n ∷ ns) (m ∷ ms) = (n.parent ≡ m.parent) × (n.name ≡ m.name) × SameShape ns ms

same_itself : (ns : List Slot) → SameShape ns ns
same_itself [] = tt
same_itself (n ∷ ns) = (refl, refl, same_itself ns)

pub same_with : (ns : List Slot) (p : ℕ) (name : Name) (value : List ℕ) → SameShape (with_property ns p name value) ns
same_with [] p name value = tt
same_with (n ∷ ns) zero name value = (refl, refl, same_itself ns)
same_with (n ∷ ns) (suc p) name value = (refl, refl, same_with ns p name value)

pub same_drop : (i : ℕ) (ns ms : List Slot) → SameShape ns ms → SameShape (drop i ns) (drop i ms)
same_drop zero ns ms h = h
same_drop (suc i) [] [] h = tt
same_drop (suc i) [] (m ∷ ms) h = absurd h
same_drop (suc i) (n ∷ ns) [] h = absurd h
same_drop (suc i) (n ∷ ns) (m ∷ ms) h = same_drop i ns ms h.2

same_named : (i : ℕ) (ns ms : List Slot) (p : ℕ) → SameShape ns ms → named_among i ns p ≡ named_among i ms p
same_named i [] [] p h = refl
same_named i [] (m ∷ ms) p h = absurd h
same_named i (n ∷ ns) [] p h = absurd h
same_named i (n ∷ ns) (m ∷ ms) p h =
    let rest = same_named (suc i) ns ms p h.2 in
    λ j. cond (eqb (h.0 j) p) (record { name = h.1 j; node = i } ∷ rest j) (rest j)

-- ---- one property

not_same : (a b : Name) → a ≢ b → bytes_eq a b ≡ false
not_same a b ne = by (bytes_eq a b) refl
  where
    by : (t : Bool) → bytes_eq a b ≡ t → t ≡ false
    by true e = absurd (ne ((bytes_eq-Decides a b).0 e))
    by false e = refl

pub value-set_property : (ps : List Property) (name : Name) (value : List ℕ) (m : Name) → value_of (set_property ps name value) m ≡ cond (bytes_eq m name) (Some value) (value_of ps m)
value-set_property [] name value m = refl
value-set_property (p ∷ ps) name value m = by (bytes_eq name p.name) (bytes_eq m p.name) (bytes_eq m name) refl refl refl (value-set_property ps name value m)
  where
    by : (b t u : Bool) → bytes_eq name p.name ≡ b → bytes_eq m p.name ≡ t → bytes_eq m name ≡ u → value_of (set_property ps name value) m ≡ cond (bytes_eq m name) (Some value) (value_of ps m)
        → value_of (cond b (record { name = p.name; value = value } ∷ ps) (p ∷ set_property ps name value)) m ≡ cond u (Some value) (cond t (Some p.value) (value_of ps m))
    by true true true is at same h = ap (λ (t : Bool). cond t (Some value) (value_of ps m)) at
    by true true false is at same h =
        let equal : bytes_eq m name ≡ true = (bytes_eq-Decides m name).1 ((bytes_eq-Decides m p.name).0 at ∙ sym ((bytes_eq-Decides name p.name).0 is)) in
        absurd cc
    by true false true is at same h =
        let equal : bytes_eq m p.name ≡ true = (bytes_eq-Decides m p.name).1 ((bytes_eq-Decides m name).0 same ∙ (bytes_eq-Decides name p.name).0 is) in
        absurd cc
    by true false false is at same h = ap (λ (t : Bool). cond t (Some value) (value_of ps m)) at
    by false true true is at same h =
        let equal : bytes_eq name p.name ≡ true = (bytes_eq-Decides name p.name).1 (sym ((bytes_eq-Decides m name).0 same) ∙ (bytes_eq-Decides m p.name).0 at) in
        absurd cc
    by false true false is at same h = ap (λ (t : Bool). cond t (Some p.value) (value_of (set_property ps name value) m)) at
    by false false u is at same h =
        ap (λ (t : Bool). cond t (Some p.value) (value_of (set_property ps name value) m)) at ∙ h ∙ ap (λ (t : Bool). cond t (Some value) (value_of ps m)) same

pub properties-same : (slots : List Slot) (p : ℕ) (name : Name) (value : List ℕ) → p < length slots → properties (with_property slots p name value) p ≡ set_property (properties slots p) name value
properties-same [] p name value h = absurd (omega arith)
properties-same (n ∷ ns) zero name value h = refl
properties-same (n ∷ ns) (suc p) name value h = properties-same ns p name value (omega arith)

pub properties-other : (slots : List Slot) (p : ℕ) (name : Name) (value : List ℕ) (q : ℕ) → q ≢ p → properties (with_property slots p name value) q ≡ properties slots q
properties-other [] p name value q ne = refl
properties-other (n ∷ ns) zero name value zero ne = absurd (ne refl)
properties-other (n ∷ ns) zero name value (suc q) ne = refl
properties-other (n ∷ ns) (suc p) name value zero ne = refl
properties-other (n ∷ ns) (suc p) name value (suc q) ne = properties-other ns p name value q (omega arith)

-- ---- the laws

pub length-with_property : (slots : List Slot) (p : ℕ) (name : Name) (value : List ℕ) → length (with_property slots p name value) ≡ length slots
length-with_property [] p name value = refl
length-with_property (n ∷ ns) zero name value = refl
length-with_property (n ∷ ns) (suc p) name value = ap suc (length-with_property ns p name value)

pub children-with_property : (slots : List Slot) (p : ℕ) (name : Name) (value : List ℕ) (i : ℕ) → named_children (with_property slots p name value) i ≡ named_children slots i
children-with_property slots p name value i = same_named (suc i) (drop (suc i) (with_property slots p name value)) (drop (suc i) slots) i (same_drop (suc i) (with_property slots p name value) slots (same_with slots p name value))

pub value-with_property : (slots : List Slot) (p : ℕ) (name : Name) (value : List ℕ) (i : ℕ) (m : Name) → p < length slots
    → value_of (properties (with_property slots p name value) i) m ≡ (if (p == i) && bytes_eq m name then Some value else value_of (properties slots i) m)
value-with_property slots p name value i m h = by (eqb p i) refl
  where
    unequal : (a b : ℕ) → eqb a b ≡ false → b ≢ a
    unequal a b e same = let f : eqb a b ≡ true = grind (arith, nat_tests) in absurd cc

    by : (b : Bool) → eqb p i ≡ b → value_of (properties (with_property slots p name value) i) m ≡ cond (b && bytes_eq m name) (Some value) (value_of (properties slots i) m)
    by true e =
        let at = eqb-true p i e in
        ap (λ (k : ℕ). value_of (properties (with_property slots p name value) k) m) (sym at)
        ∙ ap (λ (ps : List Property). value_of ps m) (properties-same slots p name value h)
        ∙ value-set_property (properties slots p) name value m
        ∙ ap (λ (k : ℕ). cond (bytes_eq m name) (Some value) (value_of (properties slots k) m)) at
    by false e = ap (λ (ps : List Property). value_of ps m) (properties-other slots p name value i (unequal p i e))
