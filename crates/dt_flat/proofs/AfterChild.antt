-- What the nodes of an arena have after a child is added.
use Rattle.std.proofs.Common.{◌≡◌, ◌≢◌, ℕ, zero, suc, ◌+◌, ◌<◌, ◌≤◌, Bool, true, false, cond, eqb, ◌&&◌, ◌==◌, if◌then◌else◌, List, [], ◌∷◌, ◌++◌, length, drop, Some, None, refl, sym, ap, ◌∙◌, arith}
use Rattle.std.specs.Str.{bytes_eq}
use Rattle.std.proofs.lemmas.Bool.{eqb-true}
use Rattle.std.proofs.lemmas.Bool.Decides.{nat_tests}
use Rattle.std.proofs.lemmas.List.{append-nil, length-append, drop_all, length-drop, drop-append-le}
use Rattle.std.proofs.lemmas.Slice.Eq.{bytes_eq-Decides}
use Rattle.dt_model.specs.Names.{Name}
use Rattle.dt_flat.specs.Arena.{Slot, Child, named_among, named_children, child_of, properties, depth_of, with_child}

pub tested : (a b : ℕ) → a ≡ b → eqb a b ≡ true
tested a b e = grind (arith, nat_tests)

pub differs : (a b : ℕ) → a ≢ b → eqb a b ≡ false
differs a b e = grind (arith, nat_tests)

-- ---- one more node at the end

pub named-push : (i : ℕ) (ns : List Slot) (n : Slot) (p : ℕ) → named_among i (ns ++ n ∷ []) p ≡ named_among i ns p ++ cond (eqb n.parent p) (record { name = n.name; node = i + length ns } ∷ []) []
named-push i [] n p = let e : i ≡ i + 0 = omega arith in ap (λ (k : ℕ). cond (eqb n.parent p) (record { name = n.name; node = k } ∷ []) []) e
named-push i (m ∷ ns) n p =
    let e : suc i + length ns ≡ i + suc (length ns) = omega arith in
    by (eqb m.parent p) (named-push (suc i) ns n p ∙ ap (λ (k : ℕ). named_among (suc i) ns p ++ cond (eqb n.parent p) (record { name = n.name; node = k } ∷ []) []) e)
  where
    by : (b : Bool) → named_among (suc i) (ns ++ n ∷ []) p ≡ named_among (suc i) ns p ++ cond (eqb n.parent p) (record { name = n.name; node = i + suc (length ns) } ∷ []) []
        → cond b (record { name = m.name; node = i } ∷ named_among (suc i) (ns ++ n ∷ []) p) (named_among (suc i) (ns ++ n ∷ []) p)
        ≡ cond b (record { name = m.name; node = i } ∷ named_among (suc i) ns p) (named_among (suc i) ns p) ++ cond (eqb n.parent p) (record { name = n.name; node = i + suc (length ns) } ∷ []) []
    by true h = ap (λ (cs : List Child). record { name = m.name; node = i } ∷ cs) h
    by false h = h

pub named_children-push : (slots : List Slot) (n : Slot) (p : ℕ) → p < length slots → named_children (slots ++ n ∷ []) p ≡ named_children slots p ++ cond (eqb n.parent p) (record { name = n.name; node = length slots } ∷ []) []
named_children-push slots n p h =
    let e : suc p + length (drop (suc p) slots) ≡ length slots = omega (arith, length-drop (suc p) slots) in
    ap (λ (ns : List Slot). named_among (suc p) ns p) (drop-append-le (suc p) slots (n ∷ []) (omega arith))
    ∙ named-push (suc p) (drop (suc p) slots) n p
    ∙ ap (λ (k : ℕ). named_children slots p ++ cond (eqb n.parent p) (record { name = n.name; node = k } ∷ []) []) e

pub childless-push : (slots : List Slot) (n : Slot) → named_children (slots ++ n ∷ []) (length slots) ≡ []
childless-push slots n =
    ap (λ (xs : List Slot). named_among (suc (length slots)) xs (length slots)) (drop_all (suc (length slots)) (slots ++ n ∷ []) (omega (arith, length-append slots (n ∷ []))))

-- a node without properties at the end changes nobody's properties
pub properties-push : (ns : List Slot) (m : Slot) (q : ℕ) → m.properties ≡ [] → properties (ns ++ m ∷ []) q ≡ properties ns q
properties-push [] m zero e = e
properties-push [] m (suc q) e = refl
properties-push (n ∷ ns) m zero e = refl
properties-push (n ∷ ns) m (suc q) e = properties-push ns m q e

pub properties-past : (ns : List Slot) (q : ℕ) → length ns ≤ q → properties ns q ≡ []
properties-past [] q h = refl
properties-past (n ∷ ns) zero h = absurd (omega arith)
properties-past (n ∷ ns) (suc q) h = properties-past ns q (omega arith)

-- a child at the end of some that have none of its name
found_last : (cs : List Child) (name : Name) (k : ℕ) (x : Name) → child_of cs name ≡ None → child_of (cs ++ record { name = name; node = k } ∷ []) x ≡ cond (bytes_eq x name) (Some k) (child_of cs x)
found_last [] name k x none = refl
found_last (c ∷ cs) name k x none = by (bytes_eq name c.name) (bytes_eq x c.name) (bytes_eq x name) refl refl refl none (λ f. found_last cs name k x f)
  where
    by : (b t u : Bool) → bytes_eq name c.name ≡ b → bytes_eq x c.name ≡ t → bytes_eq x name ≡ u → cond b (Some c.node) (child_of cs name) ≡ None
        → (child_of cs name ≡ None → child_of (cs ++ record { name = name; node = k } ∷ []) x ≡ cond (bytes_eq x name) (Some k) (child_of cs x))
        → cond t (Some c.node) (child_of (cs ++ record { name = name; node = k } ∷ []) x) ≡ cond u (Some k) (cond t (Some c.node) (child_of cs x))
    by true t u is at same none f = absurd cc
    by false true true is at same none f =
        let equal : bytes_eq name c.name ≡ true = (bytes_eq-Decides name c.name).1 (sym ((bytes_eq-Decides x name).0 same) ∙ (bytes_eq-Decides x c.name).0 at) in
        absurd cc
    by false true false is at same none f = refl
    by false false u is at same none f = f none ∙ ap (λ (b : Bool). cond b (Some k) (child_of cs x)) same

-- ---- the laws

pub length-with_child : (slots : List Slot) (p : ℕ) (name : Name) → length (with_child slots p name) ≡ length slots + 1
length-with_child slots p name = length-append slots (record { parent = p; depth = depth_of slots p + 1; name = name; properties = [] } ∷ [])

pub child-with_child : (slots : List Slot) (p : ℕ) (name : Name) (i : ℕ) (x : Name) → i < length slots → child_of (named_children slots p) name ≡ None
    → child_of (named_children (with_child slots p name) i) x ≡ (if (p == i) && bytes_eq x name then Some (length slots) else child_of (named_children slots i) x)
child-with_child slots p name i x h none =
    ap (λ (cs : List Child). child_of cs x) (named_children-push slots (record { parent = p; depth = depth_of slots p + 1; name = name; properties = [] }) i h) ∙ by (eqb p i) refl
  where
    by : (b : Bool) → eqb p i ≡ b → child_of (named_children slots i ++ cond b (record { name = name; node = length slots } ∷ []) []) x ≡ cond (b && bytes_eq x name) (Some (length slots)) (child_of (named_children slots i) x)
    by true e = found_last (named_children slots i) name (length slots) x (ap (λ (k : ℕ). child_of (named_children slots k) name) (sym (eqb-true p i e)) ∙ none)
    by false e = ap (λ (cs : List Child). child_of cs x) (append-nil (named_children slots i))

pub childless-with_child : (slots : List Slot) (p : ℕ) (name : Name) → named_children (with_child slots p name) (length slots) ≡ []
childless-with_child slots p name = childless-push slots (record { parent = p; depth = depth_of slots p + 1; name = name; properties = [] })

pub properties-with_child : (slots : List Slot) (p : ℕ) (name : Name) (i : ℕ) → i < length slots → properties (with_child slots p name) i ≡ properties slots i
properties-with_child slots p name i h = properties-push slots (record { parent = p; depth = depth_of slots p + 1; name = name; properties = [] }) i refl

pub bare-with_child : (slots : List Slot) (p : ℕ) (name : Name) → properties (with_child slots p name) (length slots) ≡ []
bare-with_child slots p name =
    properties-push slots (record { parent = p; depth = depth_of slots p + 1; name = name; properties = [] }) (length slots) refl ∙ properties-past slots (length slots) (omega arith)
