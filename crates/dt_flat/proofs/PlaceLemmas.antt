-- The nodes that the tables of a tree stand for, and what they are after a change.
use Rattle.std.proofs.Common.{◌≡◌, ◌≢◌, ℕ, zero, suc, ◌+◌, ◌-◌, ◌<◌, ◌≤◌, Bool, true, false, cond, eqb, ◌&&◌, List, [], ◌∷◌, ◌++◌, length, drop, map, slice_index, slice_get, Option, Some, None, is_some, refl, sym, ap, subst, ◌∙◌, inl, inr, arith}
use Rattle.std.specs.List.{AllByRecursion}
use Rattle.std.specs.Prelude.{OnErr, IfOk, Result, Ok, Err}
use Rattle.std.specs.Str.{bytes_eq}
use Rattle.std.proofs.lemmas.Bool.{cases_eq, eqb-true}
use Rattle.std.proofs.lemmas.List.{length-append, append-nil}
use Rattle.dt_model.specs.Names.{Name}
use Rattle.dt_model.specs.Tree.{Property, value_of}
use Rattle.dt_model.specs.Changes.{set_property}
use Rattle.dt_model.proofs.Tests.{bytes_eq_refl, bytes_eq_other}
use Rattle.dt_flat.specs.declared.nodes.Branch.{Branch}
use Rattle.dt_flat.specs.Arena.{Slot, Child, children_among, children, named_among, named_children, child_of, children_behind, first_node, with_child, with_property, depth_of, parent_of, name_of, properties}
use Rattle.dt_flat.specs.Chain.{ranks, first_rank}
use Rattle.dt_flat.specs.Names.{text, AreOwn, IsUnknown, IsNoted}
use Rattle.dt_flat.specs.Rows.{Held, is_row, value_held, put, property_of, owned, parents_of, child_from, slots_from, slots_kept, AreBehind, AreRows, IsAdded}
use Rattle.dt_flat.specs.Refusals.{IsChildAdded}
use Rattle.dt_flat.proofs.AfterChild.{tested, differs}
use Rattle.dt_flat.proofs.Linking.{named-among}
use Rattle.dt_flat.proofs.NameLemmas.{text-append}

pub none_found : (o : Option ℕ) → false ≡ is_some o → o ≡ None
none_found None e = refl
none_found (Some x) e = absurd cc

-- ---- what is kept of a node

length-from : (names : List Name) (has : ℕ → List Property) (i : ℕ) (bs : List Branch) → length (slots_from names has i bs) ≡ length bs
length-from names has i [] = refl
length-from names has i (b ∷ bs) = ap suc (length-from names has (suc i) bs)

pub length-slots : (names : List Name) (has : ℕ → List Property) (bs : List Branch) → length (slots_kept names has bs) ≡ suc (length bs)
length-slots names has bs = ap suc (length-from names has 1 bs)

-- a node as the table has it
pub record IsNode (slots : List Slot) (names : List Name) (i : ℕ) (b : Branch) : Type 0 where
  pub parent : parent_of slots i ≡ b.parent
  pub depth : depth_of slots i ≡ b.depth
  pub name : name_of slots i ≡ text names b.name

node-from : (names : List Name) (has : ℕ → List Property) (i k : ℕ) (bs : List Branch) (b : Branch) → slice_get bs k ≡ Some b → IsNode (slots_from names has i bs) names k b
node-from names has i k [] b e = cc
node-from names has i zero (x ∷ xs) b e =
    let same : x ≡ b = cc in
    record { parent = ap (λ (y : Branch). y.parent) same; depth = ap (λ (y : Branch). y.depth) same; name = ap (λ (y : Branch). text names y.name) same }
node-from names has i (suc k) (x ∷ xs) b e =
    let n = node-from names has (suc i) k xs b e in
    record { parent = n.parent; depth = n.depth; name = n.name }

pub node-kept : (names : List Name) (has : ℕ → List Property) (i : ℕ) (bs : List Branch) (b : Branch) → 0 < i → slice_get bs (i - 1) ≡ Some b → IsNode (slots_kept names has bs) names i b
node-kept names has zero bs b lt e = absurd (omega (arith, lt))
node-kept names has (suc k) bs b lt e =
    let at : suc k - 1 ≡ k = omega arith in
    let n = node-from names has 1 k bs b (ap (slice_get bs) (sym at) ∙ e) in
    record { parent = n.parent; depth = n.depth; name = n.name }

properties-from : (names : List Name) (has : ℕ → List Property) (i k : ℕ) (bs : List Branch) → k < length bs → properties (slots_from names has i bs) k ≡ has (i + k)
properties-from names has i k [] lt = absurd (omega (arith, lt))
properties-from names has i zero (b ∷ bs) lt = let z : i ≡ i + 0 = omega arith in ap has z
properties-from names has i (suc k) (b ∷ bs) lt = let s : suc i + k ≡ i + suc k = omega arith in properties-from names has (suc i) k bs (omega (arith, lt)) ∙ ap has s

pub properties-kept : (names : List Name) (has : ℕ → List Property) (p : ℕ) (bs : List Branch) → p < suc (length bs) → properties (slots_kept names has bs) p ≡ has p
properties-kept names has zero bs lt = refl
properties-kept names has (suc k) bs lt = let s : 1 + k ≡ suc k = omega arith in properties-from names has 1 k bs (omega (arith, lt)) ∙ ap has s

-- ---- names by their numbers

-- two numbers are of one name where they are one
own-test : (names : List Name) (k j : ℕ) → AreOwn names → k < length names → j < length names → bytes_eq (text names k) (text names j) ≡ eqb k j
own-test names k j own lk lj =
    elim (cases_eq k j) [
      | inl e ↦ ap (λ (n : ℕ). bytes_eq (text names k) (text names n)) (sym e) ∙ bytes_eq_refl (text names k) ∙ sym (tested k j e)
      | inr ne ↦ bytes_eq_other (text names k) (text names j) (λ same. ne (own k j lk lj same)) ∙ sym (differs k j ne)
    ]

eqb_sym : (a b : ℕ) → eqb a b ≡ eqb b a
eqb_sym a b =
    elim (cases_eq a b) [
      | inl e ↦ tested a b e ∙ sym (tested b a (sym e))
      | inr ne ↦ differs a b ne ∙ sym (differs b a (λ e. ne (sym e)))
    ]

-- ---- children

-- no node up to p is a child of p
skip-before : (names : List Name) (has : ℕ → List Property) (p m i : ℕ) (bs : List Branch) → AreBehind i bs → i + m ≡ suc p
    → named_among i (slots_from names has i bs) p ≡ named_among (suc p) (drop m (slots_from names has i bs)) p
skip-before names has p zero i bs behind e = let same : i ≡ suc p = omega (arith, e) in ap (λ (n : ℕ). named_among n (slots_from names has i bs) p) same
skip-before names has p (suc m) i [] behind e = refl
skip-before names has p (suc m) i (b ∷ bs) behind e =
    let first = behind.0 in
    let other : eqb b.parent p ≡ false = differs b.parent p (omega (arith, first, e)) in
    ap (λ (t : Bool). cond t (record { name = text names b.name; node = i } ∷ named_among (suc i) (slots_from names has (suc i) bs) p) (named_among (suc i) (slots_from names has (suc i) bs) p)) other
    ∙ skip-before names has p m (suc i) bs behind.1 (omega (arith, e))

named-kept : (names : List Name) (has : ℕ → List Property) (p : ℕ) (bs : List Branch) → AreBehind 1 bs
    → named_children (slots_kept names has bs) p ≡ named_among 1 (slots_from names has 1 bs) p
named-kept names has p bs behind = let s : 1 + p ≡ suc p = omega arith in sym (skip-before names has p p 1 bs behind s)

ranks-among : (names : List Name) (has : ℕ → List Property) (i : ℕ) (bs : List Branch) (p : ℕ) → children_among i (slots_from names has i bs) p ≡ ranks i (parents_of bs) p
ranks-among names has i [] p = refl
ranks-among names has i (b ∷ bs) p = ap (λ (rs : List ℕ). cond (eqb b.parent p) (i ∷ rs) rs) (ranks-among names has (suc i) bs p)

pub children-kept : (names : List Name) (has : ℕ → List Property) (bs : List Branch) (p : ℕ) → AreBehind 1 bs → children (slots_kept names has bs) p ≡ ranks 1 (parents_of bs) p
children-kept names has bs p behind =
    let slots = slots_kept names has bs in
    sym (named-among (suc p) (drop (suc p) slots) p) ∙ ap (map (λ c. c.node)) (named-kept names has p bs behind) ∙ named-among 1 (slots_from names has 1 bs) p ∙ ranks-among names has 1 bs p

child-among : (names : List Name) (has : ℕ → List Property) (i p k : ℕ) (bs : List Branch) → AreOwn names → k < length names → AllByRecursion (λ b. b.name < length names) bs
    → child_of (named_among i (slots_from names has i bs) p) (text names k) ≡ child_from i p k bs
child-among names has i p k [] own lt named = refl
child-among names has i p k (b ∷ bs) own lt named =
    by (eqb b.parent p) (eqb_sym b.parent p) (child-among names has (suc i) p k bs own lt named.1)
  where
    rest : List Child
    rest = named_among (suc i) (slots_from names has (suc i) bs) p

    by : (t : Bool) → t ≡ eqb p b.parent → child_of (named_among (suc i) (slots_from names has (suc i) bs) p) (text names k) ≡ child_from (suc i) p k bs
        → child_of (cond t (record { name = text names b.name; node = i } ∷ named_among (suc i) (slots_from names has (suc i) bs) p) (named_among (suc i) (slots_from names has (suc i) bs) p)) (text names k)
        ≡ cond (is_row p k (b.parent, b.name)) (Some i) (child_from (suc i) p k bs)
    by true e h =
        (λ j. cond (own-test names k b.name own lt named.0 j) (Some i) (h j)) ∙ ap (λ (t : Bool). cond (t && eqb k b.name) (Some i) (child_from (suc i) p k bs)) e
    by false e h = h ∙ ap (λ (t : Bool). cond (t && eqb k b.name) (Some i) (child_from (suc i) p k bs)) e

child-none : (names : List Name) (has : ℕ → List Property) (i p : ℕ) (bs : List Branch) (name : Name) → IsUnknown names name → AllByRecursion (λ b. b.name < length names) bs
    → child_of (named_among i (slots_from names has i bs) p) name ≡ None
child-none names has i p [] name none named = refl
child-none names has i p (b ∷ bs) name none named = by (eqb b.parent p) (child-none names has (suc i) p bs name none named.1)
  where
    by : (t : Bool) → child_of (named_among (suc i) (slots_from names has (suc i) bs) p) name ≡ None
        → child_of (cond t (record { name = text names b.name; node = i } ∷ named_among (suc i) (slots_from names has (suc i) bs) p) (named_among (suc i) (slots_from names has (suc i) bs) p)) name ≡ None
    by true h = (λ j. cond (bytes_eq_other name (text names b.name) (λ e. none b.name named.0 (sym e)) j) (Some i) (h j))
    by false h = h

pub child-kept : (names : List Name) (has : ℕ → List Property) (p k : ℕ) (bs : List Branch) (hs : List Held) (name : Name) → AreOwn names → AreRows names bs hs → k < length names → text names k ≡ name
    → child_of (named_children (slots_kept names has bs) p) name ≡ child_from 1 p k bs
child-kept names has p k bs hs name own rows lt is =
    (λ i. child_of (named-kept names has p bs rows.behind i) (sym is i)) ∙ child-among names has 1 p k bs own lt rows.named

pub unknown-kept : (names : List Name) (has : ℕ → List Property) (p : ℕ) (bs : List Branch) (hs : List Held) (name : Name) → AreRows names bs hs → IsUnknown names name
    → child_of (named_children (slots_kept names has bs) p) name ≡ None
unknown-kept names has p bs hs name rows none = ap (λ (cs : List Child). child_of cs name) (named-kept names has p bs rows.behind) ∙ child-none names has 1 p bs name none rows.named

pub child-within : (i p k n : ℕ) (bs : List Branch) → child_from i p k bs ≡ Some n → (i ≤ n) × (n < i + length bs)
child-within i p k n [] e = cc
child-within i p k n (b ∷ bs) e = by (is_row p k (b.parent, b.name)) (λ h. child-within (suc i) p k n bs h) e
  where
    by : (t : Bool) → (child_from (suc i) p k bs ≡ Some n → (suc i ≤ n) × (n < suc i + length bs)) → cond t (Some i) (child_from (suc i) p k bs) ≡ Some n → (i ≤ n) × (n < i + suc (length bs))
    by true rec h = let z : i ≡ n = cc in (omega (arith, z), omega (arith, z))
    by false rec h = let r = rec h in (omega (arith, r.0), omega (arith, r.1))

-- ---- a node added

from-push : (names : List Name) (has : ℕ → List Property) (i : ℕ) (bs : List Branch) (b : Branch)
    → slots_from names has i (bs ++ b ∷ []) ≡ slots_from names has i bs ++ record { parent = b.parent; depth = b.depth; name = text names b.name; properties = has (i + length bs) } ∷ []
from-push names has i [] b = let z : i ≡ i + 0 = omega arith in ap (λ (n : ℕ). record { parent = b.parent; depth = b.depth; name = text names b.name; properties = has n } ∷ []) z
from-push names has i (x ∷ xs) b =
    let s : suc i + length xs ≡ i + suc (length xs) = omega arith in
    ap (λ (ns : List Slot). record { parent = x.parent; depth = x.depth; name = text names x.name; properties = has i } ∷ ns)
    (from-push names has (suc i) xs b ∙ ap (λ (n : ℕ). slots_from names has (suc i) xs ++ record { parent = b.parent; depth = b.depth; name = text names b.name; properties = has n } ∷ []) s)

-- a node that comes behind all these has no properties
owned-none : (names : List Name) (p n : ℕ) (hs : List Held) → p ≤ n → AllByRecursion (λ h. (h.node < p) × (h.name < length names)) hs → owned names hs n ≡ []
owned-none names p n [] le ok = refl
owned-none names p n (h ∷ hs) le ok =
    let first = ok.0.0 in
    ap (λ (t : Bool). cond t (property_of names h ∷ owned names hs n) (owned names hs n)) (differs h.node n (omega (arith, first, le))) ∙ owned-none names p n hs le ok.1

pub slots-push : (names : List Name) (bs : List Branch) (hs : List Held) (b : Branch) → AreRows names bs hs → b.depth ≡ depth_of (slots_kept names (owned names hs) bs) b.parent + 1
    → slots_kept names (owned names hs) (bs ++ b ∷ []) ≡ with_child (slots_kept names (owned names hs) bs) b.parent (text names b.name)
slots-push names bs hs b rows depth =
    let has = owned names hs in
    let bare : has (1 + length bs) ≡ [] = owned-none names (suc (length bs)) (1 + length bs) hs (omega arith) rows.properties in
    ap (λ (ns : List Slot). record { parent = 0; depth = 0; name = []; properties = has 0 } ∷ ns)
    (from-push names has 1 bs b ∙ (λ i. slots_from names has 1 bs ++ record { parent = b.parent; depth = depth i; name = text names b.name; properties = bare i } ∷ []))

-- ---- more names

owned-more : (names more : List Name) (n p : ℕ) (hs : List Held) → AllByRecursion (λ h. (h.node < n) × (h.name < length names)) hs → owned (names ++ more) hs p ≡ owned names hs p
owned-more names more n p [] ok = refl
owned-more names more n p (h ∷ hs) ok =
    λ i. cond (eqb h.node p) (record { name = text-append names more h.name ok.0.1 i; value = h.value } ∷ owned-more names more n p hs ok.1 i) (owned-more names more n p hs ok.1 i)

from-more : (names more : List Name) (f g : ℕ → List Property) (i : ℕ) (bs : List Branch) → ((p : ℕ) → f p ≡ g p) → AllByRecursion (λ b. b.name < length names) bs
    → slots_from (names ++ more) f i bs ≡ slots_from names g i bs
from-more names more f g i [] same named = refl
from-more names more f g i (b ∷ bs) same named =
    λ j. record { parent = b.parent; depth = b.depth; name = text-append names more b.name named.0 j; properties = same i j } ∷ from-more names more f g (suc i) bs same named.1 j

pub slots-more : (names more new : List Name) (bs : List Branch) (hs : List Held) → new ≡ names ++ more → AreRows names bs hs → slots_kept new (owned new hs) bs ≡ slots_kept names (owned names hs) bs
slots-more names more new bs hs is rows =
    let same : (p : ℕ) → owned (names ++ more) hs p ≡ owned names hs p = λ p. owned-more names more (suc (length bs)) p hs rows.properties in
    ap (λ (ns : List Name). slots_kept ns (owned ns hs) bs) is
    ∙ (λ j. record { parent = 0; depth = 0; name = []; properties = same 0 j } ∷ from-more names more (owned (names ++ more) hs) (owned names hs) 1 bs same rows.named j)

-- ---- a property set

owned-put : (names : List Name) (n p k q : ℕ) (v : List ℕ) (hs : List Held) → AreOwn names → k < length names → AllByRecursion (λ h. (h.node < n) × (h.name < length names)) hs
    → owned names (put hs p k v) q ≡ cond (eqb p q) (set_property (owned names hs q) (text names k) v) (owned names hs q)
owned-put names n p k q v [] own lt ok = refl
owned-put names n p k q v (h ∷ hs) own lt ok =
    let rest = owned-put names n p k q v hs own lt ok.1 in
    elim (cases_eq h.node p) [
      | inl at ↦
          let row : is_row p k (h.node, h.name) ≡ eqb k h.name = ap (λ (t : Bool). t && eqb k h.name) (tested p h.node (sym at)) in
          ap (λ (t : Bool). owned names (cond t (record h { value = v } ∷ hs) (h ∷ put hs p k v)) q) row
          ∙ same (eqb k h.name) (eqb h.node q) (own-test names k h.name own lt ok.0.1) refl (rest ∙ ap (λ (x : ℕ). cond (eqb x q) (set_property (owned names hs q) (text names k) v) (owned names hs q)) (sym at))
          ∙ ap (λ (x : ℕ). cond (eqb x q) (set_property (owned names (h ∷ hs) q) (text names k) v) (owned names (h ∷ hs) q)) at
      | inr other ↦
          let row : is_row p k (h.node, h.name) ≡ false = ap (λ (t : Bool). t && eqb k h.name) (differs p h.node (λ e. other (sym e))) in
          ap (λ (t : Bool). owned names (cond t (record h { value = v } ∷ hs) (h ∷ put hs p k v)) q) row
          ∙ elsewhere (eqb h.node q) (eqb p q) (λ e g. other (eqb-true h.node q e ∙ sym (eqb-true p q g))) rest
    ]
  where
    same : (u s : Bool) → bytes_eq (text names k) (text names h.name) ≡ u → eqb h.node q ≡ s → owned names (put hs p k v) q ≡ cond s (set_property (owned names hs q) (text names k) v) (owned names hs q)
        → owned names (cond u (record h { value = v } ∷ hs) (h ∷ put hs p k v)) q
        ≡ cond s (set_property (cond s (property_of names h ∷ owned names hs q) (owned names hs q)) (text names k) v) (cond s (property_of names h ∷ owned names hs q) (owned names hs q))
    same true true eu es r =
        ap (λ (t : Bool). cond t (record { name = text names h.name; value = v } ∷ owned names hs q) (owned names hs q)) es
        ∙ sym (ap (λ (t : Bool). cond t (record { name = text names h.name; value = v } ∷ owned names hs q) (property_of names h ∷ set_property (owned names hs q) (text names k) v)) eu)
    same true false eu es r = ap (λ (t : Bool). cond t (record { name = text names h.name; value = v } ∷ owned names hs q) (owned names hs q)) es
    same false true eu es r =
        (λ i. cond (es i) (property_of names h ∷ r i) (r i))
        ∙ sym (ap (λ (t : Bool). cond t (record { name = text names h.name; value = v } ∷ owned names hs q) (property_of names h ∷ set_property (owned names hs q) (text names k) v)) eu)
    same false false eu es r = λ i. cond (es i) (property_of names h ∷ r i) (r i)

    elsewhere : (t s : Bool) → (t ≡ true → s ≡ true → ⊥) → owned names (put hs p k v) q ≡ cond s (set_property (owned names hs q) (text names k) v) (owned names hs q)
        → cond t (property_of names h ∷ owned names (put hs p k v) q) (owned names (put hs p k v) q)
        ≡ cond s (set_property (cond t (property_of names h ∷ owned names hs q) (owned names hs q)) (text names k) v) (cond t (property_of names h ∷ owned names hs q) (owned names hs q))
    elsewhere true true both r = absurd (both refl refl)
    elsewhere true false both r = ap (λ (ps : List Property). property_of names h ∷ ps) r
    elsewhere false s both r = r

from-same : (names : List Name) (f g : ℕ → List Property) (i : ℕ) (bs : List Branch) → ((q : ℕ) → i ≤ q → f q ≡ g q) → slots_from names f i bs ≡ slots_from names g i bs
from-same names f g i [] same = refl
from-same names f g i (b ∷ bs) same =
    λ j. record { parent = b.parent; depth = b.depth; name = text names b.name; properties = same i (omega arith) j } ∷ from-same names f g (suc i) bs (λ q le. same q (omega (arith, le))) j

-- the properties of each node once those of node p have one set
abbrev with_set : (ℕ → List Property) → ℕ → Name → List ℕ → ℕ → List Property
with_set has p name v q = cond (eqb p q) (set_property (has q) name v) (has q)

unset : (has : ℕ → List Property) (p : ℕ) (name : Name) (v : List ℕ) (q : ℕ) → p ≢ q → with_set has p name v q ≡ has q
unset has p name v q ne = ap (λ (t : Bool). cond t (set_property (has q) name v) (has q)) (differs p q ne)

isset : (has : ℕ → List Property) (p : ℕ) (name : Name) (v : List ℕ) (q : ℕ) → p ≡ q → with_set has p name v q ≡ set_property (has q) name v
isset has p name v q e = ap (λ (t : Bool). cond t (set_property (has q) name v) (has q)) (tested p q e)

from-with : (names : List Name) (has : ℕ → List Property) (i j : ℕ) (bs : List Branch) (name : Name) (v : List ℕ)
    → with_property (slots_from names has i bs) j name v ≡ slots_from names (with_set has (i + j) name v) i bs
from-with names has i j [] name v = refl
from-with names has i zero (b ∷ bs) name v =
    λ x. record { parent = b.parent; depth = b.depth; name = text names b.name; properties = sym (isset has (i + 0) name v i (omega arith)) x }
    ∷ from-same names has (with_set has (i + 0) name v) (suc i) bs (λ q le. sym (unset has (i + 0) name v q (omega (arith, le)))) x
from-with names has i (suc j) (b ∷ bs) name v =
    let s : suc i + j ≡ i + suc j = omega arith in
    λ x. record { parent = b.parent; depth = b.depth; name = text names b.name; properties = sym (unset has (i + suc j) name v i (omega arith)) x }
    ∷ (from-with names has (suc i) j bs name v ∙ ap (λ (n : ℕ). slots_from names (with_set has n name v) (suc i) bs) s) x

slots-with : (names : List Name) (has : ℕ → List Property) (p : ℕ) (bs : List Branch) (name : Name) (v : List ℕ)
    → with_property (slots_kept names has bs) p name v ≡ slots_kept names (with_set has p name v) bs
slots-with names has zero bs name v =
    λ x. record { parent = 0; depth = 0; name = []; properties = sym (isset has 0 name v 0 refl) x } ∷ from-same names has (with_set has 0 name v) 1 bs (λ q le. sym (unset has 0 name v q (omega (arith, le)))) x
slots-with names has (suc k) bs name v =
    let s : 1 + k ≡ suc k = omega arith in
    λ x. record { parent = 0; depth = 0; name = []; properties = sym (unset has (suc k) name v 0 (omega arith)) x }
    ∷ (from-with names has 1 k bs name v ∙ ap (λ (n : ℕ). slots_from names (with_set has n name v) 1 bs) s) x

pub slots-put : (names : List Name) (bs : List Branch) (hs : List Held) (p k : ℕ) (v : List ℕ) → AreOwn names → AreRows names bs hs → k < length names
    → slots_kept names (owned names (put hs p k v)) bs ≡ with_property (slots_kept names (owned names hs) bs) p (text names k) v
slots-put names bs hs p k v own rows lt =
    let f = owned names (put hs p k v) in
    let g = with_set (owned names hs) p (text names k) v in
    let same : (q : ℕ) → f q ≡ g q = λ q. owned-put names (suc (length bs)) p k q v hs own lt rows.properties in
    (λ x. record { parent = 0; depth = 0; name = []; properties = same 0 x } ∷ from-same names f g 1 bs (λ q le. same q) x) ∙ sym (slots-with names (owned names hs) p bs (text names k) v)

-- ---- the value of a property

value-among : (names : List Name) (n p k : ℕ) (hs : List Held) → AreOwn names → k < length names → AllByRecursion (λ h. (h.node < n) × (h.name < length names)) hs
    → value_of (owned names hs p) (text names k) ≡ value_held p k hs
value-among names n p k [] own lt ok = refl
value-among names n p k (h ∷ hs) own lt ok = by (eqb h.node p) (eqb_sym h.node p) (value-among names n p k hs own lt ok.1)
  where
    by : (t : Bool) → t ≡ eqb p h.node → value_of (owned names hs p) (text names k) ≡ value_held p k hs
        → value_of (cond t (property_of names h ∷ owned names hs p) (owned names hs p)) (text names k) ≡ cond (is_row p k (h.node, h.name)) (Some h.value) (value_held p k hs)
    by true e r = (λ j. cond (own-test names k h.name own lt ok.0.1 j) (Some h.value) (r j)) ∙ ap (λ (t : Bool). cond (t && eqb k h.name) (Some h.value) (value_held p k hs)) e
    by false e r = r ∙ ap (λ (t : Bool). cond (t && eqb k h.name) (Some h.value) (value_held p k hs)) e

pub value-kept : (names : List Name) (bs : List Branch) (hs : List Held) (p k : ℕ) (name : Name) → AreOwn names → AreRows names bs hs → p < suc (length bs) → k < length names → text names k ≡ name
    → value_of (properties (slots_kept names (owned names hs) bs) p) name ≡ value_held p k hs
value-kept names bs hs p k name own rows there lt is =
    (λ i. value_of (properties-kept names (owned names hs) p bs there i) (sym is i)) ∙ value-among names (suc (length bs)) p k hs own lt rows.properties

value-none : (names : List Name) (n p : ℕ) (hs : List Held) (name : Name) → IsUnknown names name → AllByRecursion (λ h. (h.node < n) × (h.name < length names)) hs → value_of (owned names hs p) name ≡ None
value-none names n p [] name none ok = refl
value-none names n p (h ∷ hs) name none ok = by (eqb h.node p) (value-none names n p hs name none ok.1)
  where
    by : (t : Bool) → value_of (owned names hs p) name ≡ None → value_of (cond t (property_of names h ∷ owned names hs p) (owned names hs p)) name ≡ None
    by true r = λ j. cond (bytes_eq_other name (text names h.name) (λ e. none h.name ok.0.1 (sym e)) j) (Some h.value) (r j)
    by false r = r

pub value-unknown : (names : List Name) (bs : List Branch) (hs : List Held) (p : ℕ) (name : Name) → AreRows names bs hs → p < suc (length bs) → IsUnknown names name
    → value_of (properties (slots_kept names (owned names hs) bs) p) name ≡ None
value-unknown names bs hs p name rows there none =
    ap (λ (ps : List Property). value_of ps name) (properties-kept names (owned names hs) p bs there) ∙ value-none names (suc (length bs)) p hs name none rows.properties

-- ---- the child behind another

abbrev pub rank_option : ℕ → Option ℕ
rank_option zero = None
rank_option (suc k) = Some (suc k)

first-among : (names : List Name) (has : ℕ → List Property) (i p : ℕ) (bs : List Branch) → first_node (named_among (suc i) (slots_from names has (suc i) bs) p) ≡ rank_option (first_rank (suc i) (parents_of bs) p)
first-among names has i p [] = refl
first-among names has i p (b ∷ bs) = by (eqb b.parent p) (first-among names has (suc i) p bs)
  where
    by : (t : Bool) → first_node (named_among (suc (suc i)) (slots_from names has (suc (suc i)) bs) p) ≡ rank_option (first_rank (suc (suc i)) (parents_of bs) p)
        → first_node (cond t (record { name = text names b.name; node = suc i } ∷ named_among (suc (suc i)) (slots_from names has (suc (suc i)) bs) p) (named_among (suc (suc i)) (slots_from names has (suc (suc i)) bs) p))
        ≡ rank_option (cond t (suc i) (first_rank (suc (suc i)) (parents_of bs) p))
    by true h = refl
    by false h = h

drop-next : (i : ℕ) (whole : List ℕ) (o : ℕ) (os : List ℕ) → drop i whole ≡ o ∷ os → drop (suc i) whole ≡ os
drop-next zero [] o os e = cc
drop-next zero (x ∷ xs) o os e = cc
drop-next (suc i) [] o os e = cc
drop-next (suc i) (x ∷ xs) o os e = drop-next i xs o os e

-- what stands behind the child of a name, by whether that is the first
behind-first : (rest : List Child) (c : Child) (name : Name) (n : ℕ) (next : Option ℕ) → (c.node ≡ n → first_node rest ≡ next) → (child_of rest name ≡ Some n → first_node (children_behind name rest) ≡ next)
    → child_of (c ∷ rest) name ≡ Some n → first_node (children_behind name (c ∷ rest)) ≡ next
behind-first rest c name n next here later e = by (bytes_eq name c.name) e
  where
    by : (u : Bool) → cond u (Some c.node) (child_of rest name) ≡ Some n → first_node (cond u rest (children_behind name rest)) ≡ next
    by true h = let same : c.node ≡ n = cc in here same
    by false h = later h

behind-among : (names : List Name) (has : ℕ → List Property) (i p n : ℕ) (bs : List Branch) (name : Name) (whole : List ℕ) → drop i whole ≡ parents_of bs
    → child_of (named_among (suc i) (slots_from names has (suc i) bs) p) name ≡ Some n
    → first_node (children_behind name (named_among (suc i) (slots_from names has (suc i) bs) p)) ≡ rank_option (first_rank (suc n) (drop n whole) p)
behind-among names has i p n [] name whole is e = cc
behind-among names has i p n (b ∷ bs) name whole is e =
    let left = drop-next i whole b.parent (parents_of bs) is in
    by (eqb b.parent p) (behind-among names has (suc i) p n bs name whole left)
    (λ same. first-among names has (suc i) p bs ∙ ap (λ (ps : List ℕ). rank_option (first_rank (suc (suc i)) ps p)) (sym left) ∙ ap (λ (m : ℕ). rank_option (first_rank (suc m) (drop m whole) p)) same) e
  where
    by : (t : Bool)
        → (child_of (named_among (suc (suc i)) (slots_from names has (suc (suc i)) bs) p) name ≡ Some n
        → first_node (children_behind name (named_among (suc (suc i)) (slots_from names has (suc (suc i)) bs) p)) ≡ rank_option (first_rank (suc n) (drop n whole) p))
        → (suc i ≡ n → first_node (named_among (suc (suc i)) (slots_from names has (suc (suc i)) bs) p) ≡ rank_option (first_rank (suc n) (drop n whole) p))
        → child_of (cond t (record { name = text names b.name; node = suc i } ∷ named_among (suc (suc i)) (slots_from names has (suc (suc i)) bs) p) (named_among (suc (suc i)) (slots_from names has (suc (suc i)) bs) p)) name ≡ Some n
        → first_node (children_behind name (cond t (record { name = text names b.name; node = suc i } ∷ named_among (suc (suc i)) (slots_from names has (suc (suc i)) bs) p) (named_among (suc (suc i)) (slots_from names has (suc (suc i)) bs) p)))
        ≡ rank_option (first_rank (suc n) (drop n whole) p)
    by true later here h = behind-first (named_among (suc (suc i)) (slots_from names has (suc (suc i)) bs) p) (record { name = text names b.name; node = suc i }) name n (rank_option (first_rank (suc n) (drop n whole) p)) here later h
    by false later here h = later h

-- the child that comes behind that of a name
pub behind-kept : (names : List Name) (has : ℕ → List Property) (bs : List Branch) (p n : ℕ) (name : Name) → AreBehind 1 bs → child_of (named_children (slots_kept names has bs) p) name ≡ Some n
    → first_node (children_behind name (named_children (slots_kept names has bs) p)) ≡ rank_option (first_rank (suc n) (drop n (parents_of bs)) p)
behind-kept names has bs p n name behind e =
    let same = named-kept names has p bs behind in
    ap (λ (cs : List Child). first_node (children_behind name cs)) same ∙ behind-among names has 0 p n bs name (parents_of bs) refl (ap (λ (cs : List Child). child_of cs name) (sym same) ∙ e)

-- nothing comes behind the child of a name where there is none
pub none-behind : (cs : List Child) (name : Name) → child_of cs name ≡ None → None ≡ first_node (children_behind name cs)
none-behind [] name e = refl
none-behind (c ∷ cs) name e = by (bytes_eq name c.name) (none-behind cs name) e
  where
    by : (b : Bool) → (child_of cs name ≡ None → None ≡ first_node (children_behind name cs)) → cond b (Some c.node) (child_of cs name) ≡ None → None ≡ first_node (cond b cs (children_behind name cs))
    by true rec h = cc
    by false rec h = rec h

-- the parents by number are those of the nodes
parent-index-from : (names : List Name) (has : ℕ → List Property) (i k : ℕ) (bs : List Branch) → k < length bs → slice_index (parents_of bs) k ≡ parent_of (slots_from names has i bs) k
parent-index-from names has i k [] lt = absurd (omega (arith, lt))
parent-index-from names has i zero (b ∷ bs) lt = refl
parent-index-from names has i (suc k) (b ∷ bs) lt = parent-index-from names has (suc i) k bs (omega (arith, lt))

parent-index : (names : List Name) (has : ℕ → List Property) (n : ℕ) (bs : List Branch) → 0 < n → n < suc (length bs) → slice_index (parents_of bs) (n - 1) ≡ parent_of (slots_kept names has bs) n
parent-index names has zero bs some lt = absurd (omega (arith, some))
parent-index names has (suc k) bs some lt =
    let at : suc k - 1 ≡ k = omega arith in
    ap (slice_index (parents_of bs)) at ∙ parent-index-from names has 1 k bs (omega (arith, lt))

-- ---- what holds of the tables after a change

pub all-weaker : {X : Type 0} (P Q : X → Type 0) (xs : List X) → ((x : X) → P x → Q x) → AllByRecursion P xs → AllByRecursion Q xs
all-weaker P Q [] f ok = tt
all-weaker P Q (x ∷ xs) f ok = (f x ok.0, all-weaker P Q xs f ok.1)

all-push : {X : Type 0} (P : X → Type 0) (xs : List X) (x : X) → AllByRecursion P xs → P x → AllByRecursion P (xs ++ x ∷ [])
all-push P [] x ok here = (here, tt)
all-push P (y ∷ ys) x ok here = (ok.0, all-push P ys x ok.1 here)

pub AreRows-more : (names more new : List Name) (bs : List Branch) (hs : List Held) → new ≡ names ++ more → AreRows names bs hs → AreRows new bs hs
AreRows-more names more new bs hs is rows =
    let longer : length names ≤ length new = omega (arith, ap (λ (ns : List Name). length ns) is, length-append names more) in
    record {
      behind = rows.behind;
      named = all-weaker (λ (b : Branch). b.name < length names) (λ (b : Branch). b.name < length new) bs (λ b ok. omega (arith, longer, ok)) rows.named;
      properties = all-weaker (λ (h : Held). (h.node < suc (length bs)) × (h.name < length names)) (λ (h : Held). (h.node < suc (length bs)) × (h.name < length new)) hs
          (λ h ok. (ok.0, omega (arith, longer, ok.1))) rows.properties;
    }

length-branches-push : (bs : List Branch) (b : Branch) → length (bs ++ b ∷ []) ≡ suc (length bs)
length-branches-push [] b = refl
length-branches-push (x ∷ xs) b = ap suc (length-branches-push xs b)

behind-push : (i : ℕ) (bs : List Branch) (b : Branch) → b.parent < i + length bs → AreBehind i bs → AreBehind i (bs ++ b ∷ [])
behind-push i [] b lt ok = (omega (arith, lt), tt)
behind-push i (x ∷ xs) b lt ok = (ok.0, behind-push (suc i) xs b (omega (arith, lt)) ok.1)

pub AreRows-push : (names : List Name) (bs : List Branch) (hs : List Held) (b : Branch) → b.parent < suc (length bs) → b.name < length names → AreRows names bs hs → AreRows names (bs ++ b ∷ []) hs
AreRows-push names bs hs b lt named rows =
    let size = length-branches-push bs b in
    record {
      behind = behind-push 1 bs b (omega (arith, lt)) rows.behind;
      named = all-push (λ (x : Branch). x.name < length names) bs b rows.named named;
      properties = all-weaker (λ (h : Held). (h.node < suc (length bs)) × (h.name < length names)) (λ (h : Held). (h.node < suc (length (bs ++ b ∷ []))) × (h.name < length names)) hs
          (λ h ok. (omega (arith, size, ok.0), ok.1)) rows.properties;
    }

put-within : (n m p k : ℕ) (v : List ℕ) (hs : List Held) → p < n → k < m → AllByRecursion (λ h. (h.node < n) × (h.name < m)) hs → AllByRecursion (λ h. (h.node < n) × (h.name < m)) (put hs p k v)
put-within n m p k v [] there named ok = ((there, named), tt)
put-within n m p k v (h ∷ hs) there named ok = by (is_row p k (h.node, h.name)) (put-within n m p k v hs there named ok.1)
  where
    by : (b : Bool) → AllByRecursion (λ h. (h.node < n) × (h.name < m)) (put hs p k v) → AllByRecursion (λ h. (h.node < n) × (h.name < m)) (cond b (record h { value = v } ∷ hs) (h ∷ put hs p k v))
    by true rest = (ok.0, ok.1)
    by false rest = (ok.0, rest)

pub AreRows-put : (names : List Name) (bs : List Branch) (hs : List Held) (p k : ℕ) (v : List ℕ) → p < suc (length bs) → k < length names → AreRows names bs hs → AreRows names bs (put hs p k v)
AreRows-put names bs hs p k v there named rows =
    record { behind = rows.behind; named = rows.named; properties = put-within (suc (length bs)) (length names) p k v hs there named rows.properties }

pub named-at : (names : List Name) (bs : List Branch) (k : ℕ) (b : Branch) → slice_get bs k ≡ Some b → AllByRecursion (λ x. x.name < length names) bs → b.name < length names
named-at names [] k b e ok = cc
named-at names (x ∷ xs) zero b e ok = let same : x ≡ b = cc in subst (λ (y : Branch). y.name < length names) same ok.0
named-at names (x ∷ xs) (suc k) b e ok = named-at names xs k b e ok.1

-- ---- changes by a name that was looked for

-- the name alone changes nothing
pub noted : (names new : List Name) (bs : List Branch) (hs : List Held) (name : Name) (k : ℕ) → IsNoted names new name k → AreRows names bs hs
    → (slots_kept new (owned new hs) bs ≡ slots_kept names (owned names hs) bs) × AreRows new bs hs
noted names new bs hs name k known rows = (slots-more names known.more new bs hs known.kept rows, AreRows-more names known.more new bs hs known.kept rows)

pub push-noted : (names new : List Name) (bs bs' : List Branch) (hs : List Held) (b : Branch) (name : Name) (slots : List Slot) → slots_kept names (owned names hs) bs ≡ slots → IsNoted names new name b.name → AreRows names bs hs
    → b.parent < length slots → b.depth ≡ depth_of slots b.parent + 1 → bs' ≡ bs ++ b ∷ []
    → (slots_kept new (owned new hs) bs' ≡ with_child slots b.parent name) × AreRows new bs' hs
push-noted names new bs bs' hs b name slots view known rows there depth is =
    let more = noted names new bs hs name b.name known rows in
    let same = more.0 ∙ view in
    let within : b.parent < suc (length bs) = omega (arith, there, ap (λ (ns : List Slot). length ns) view, length-slots names (owned names hs) bs) in (
      ap (slots_kept new (owned new hs)) is ∙ slots-push new bs hs b more.1 (depth ∙ ap (λ (ns : List Slot). depth_of ns b.parent + 1) (sym same)) ∙ (λ i. with_child (same i) b.parent (known.text i)),
      subst (λ (cs : List Branch). AreRows new cs hs) (sym is) (AreRows-push new bs hs b within known.there more.1),
    )

-- whether a child is added
pub add-noted : {E : Type 0} (names new : List Name) (bs bs' : List Branch) (hs : List Held) (b : Branch) (name : Name) (slots : List Slot) (r : Result Bool E) → slots_kept names (owned names hs) bs ≡ slots → IsNoted names new name b.name → AreOwn new → AreRows names bs hs
    → b.parent < length slots → b.depth ≡ depth_of slots b.parent + 1 → IfOk r (IsAdded b bs bs') → OnErr r (child_from 1 b.parent b.name bs ≡ None) → OnErr r (bs' ≡ bs)
    → AreRows new bs' hs × IfOk r (IsChildAdded b.parent name slots (slots_kept new (owned new hs) bs')) × OnErr r (child_of (named_children slots b.parent) name ≡ None) × OnErr r (slots_kept new (owned new hs) bs' ≡ slots)
add-noted {E = E} names new bs bs' hs b name slots r view known own rows there depth added absent kept = by r added absent kept
  where
    more : (slots_kept new (owned new hs) bs ≡ slots_kept names (owned names hs) bs) × AreRows new bs hs
    more = noted names new bs hs name b.name known rows

    child : child_of (named_children slots b.parent) name ≡ child_from 1 b.parent b.name bs
    child = ap (λ (ns : List Slot). child_of (named_children ns b.parent) name) (sym (more.0 ∙ view)) ∙ child-kept new (owned new hs) b.parent b.name bs hs name own more.1 known.there known.text

    same : bs' ≡ bs → (slots_kept new (owned new hs) bs' ≡ slots) × AreRows new bs' hs
    same is = (ap (slots_kept new (owned new hs)) is ∙ more.0 ∙ view, subst (λ (cs : List Branch). AreRows new cs hs) (sym is) more.1)

    by : (r : Result Bool E) → IfOk r (IsAdded b bs bs') → OnErr r (child_from 1 b.parent b.name bs ≡ None) → OnErr r (bs' ≡ bs)
        → AreRows new bs' hs × IfOk r (IsChildAdded b.parent name slots (slots_kept new (owned new hs) bs')) × OnErr r (child_of (named_children slots b.parent) name ≡ None) × OnErr r (slots_kept new (owned new hs) bs' ≡ slots)
    by (Ok true) added absent kept =
        let pushed = push-noted names new bs bs' hs b name slots view known rows there depth added.1 in
        (pushed.1, (child ∙ added.0, pushed.0), tt, tt)
    by (Ok false) added absent kept = ((same added.1).1, (ap is_some child ∙ added.0, (same added.1).0), tt, tt)
    by (Err e) added absent kept = ((same kept).1, tt, child ∙ absent, (same kept).0)

pub put-noted : (names new : List Name) (bs : List Branch) (hs hs' : List Held) (p k : ℕ) (v : List ℕ) (name : Name) (slots : List Slot) → slots_kept names (owned names hs) bs ≡ slots → IsNoted names new name k → AreOwn new → AreRows names bs hs
    → p < length slots → hs' ≡ put hs p k v → (slots_kept new (owned new hs') bs ≡ with_property slots p name v) × AreRows new bs hs'
put-noted names new bs hs hs' p k v name slots view known own rows there is =
    let more = noted names new bs hs name k known rows in
    let same = more.0 ∙ view in
    let within : p < suc (length bs) = omega (arith, there, ap (λ (ns : List Slot). length ns) view, length-slots names (owned names hs) bs) in (
      ap (λ (xs : List Held). slots_kept new (owned new xs) bs) is ∙ slots-put new bs hs p k v own more.1 known.there ∙ (λ i. with_property (same i) p (known.text i) v),
      subst (AreRows new bs) (sym is) (AreRows-put new bs hs p k v within known.there more.1),
    )

-- a name that is known is noted
pub noted-known : (names : List Name) (name : Name) (k : ℕ) → k < length names → text names k ≡ name → IsNoted names names name k
noted-known names name k lt is = record { more = []; few = inl refl; kept = sym (append-nil names); there = lt; text = is }

-- ---- the child behind another

next-of : (names : List Name) (bs : List Branch) (hs : List Held) (p n next : ℕ) (name : Name) (slots : List Slot) → slots_kept names (owned names hs) bs ≡ slots → AreRows names bs hs → parent_of slots n ≡ p → 0 < n → n < length slots
    → child_of (named_children slots p) name ≡ Some n → next ≡ first_rank (n + 1) (drop n (parents_of bs)) (slice_index (parents_of bs) (n - 1))
    → first_node (children_behind name (named_children slots p)) ≡ rank_option next
next-of names bs hs p n next name slots view rows parent some there found is =
    let one : n + 1 ≡ suc n = omega arith in
    let at : slice_index (parents_of bs) (n - 1) ≡ p = parent-index names (owned names hs) n bs some (omega (arith, there, ap (λ (ns : List Slot). length ns) view, length-slots names (owned names hs) bs)) ∙ ap (λ (ns : List Slot). parent_of ns n) view ∙ parent in
    ap (λ (ns : List Slot). first_node (children_behind name (named_children ns p))) (sym view)
    ∙ behind-kept names (owned names hs) bs p n name rows.behind (ap (λ (ns : List Slot). child_of (named_children ns p) name) view ∙ found)
    ∙ ap rank_option (sym (is ∙ (λ i. first_rank (one i) (drop n (parents_of bs)) (at i))))

pub next-none : (names : List Name) (bs : List Branch) (hs : List Held) (p n next : ℕ) (name : Name) (slots : List Slot) → slots_kept names (owned names hs) bs ≡ slots → AreRows names bs hs → parent_of slots n ≡ p → 0 < n → n < length slots
    → child_of (named_children slots p) name ≡ Some n → next ≡ first_rank (n + 1) (drop n (parents_of bs)) (slice_index (parents_of bs) (n - 1)) → next ≡ 0
    → None ≡ first_node (children_behind name (named_children slots p))
next-none names bs hs p n next name slots view rows parent some there found is zero_next =
    sym (next-of names bs hs p n next name slots view rows parent some there found is ∙ ap rank_option zero_next)

pub next-some : (names : List Name) (bs : List Branch) (hs : List Held) (p n next : ℕ) (name : Name) (slots : List Slot) → slots_kept names (owned names hs) bs ≡ slots → AreRows names bs hs → parent_of slots n ≡ p → 0 < n → n < length slots
    → child_of (named_children slots p) name ≡ Some n → next ≡ first_rank (n + 1) (drop n (parents_of bs)) (slice_index (parents_of bs) (n - 1)) → (next ≡ 0 → ⊥)
    → Some next ≡ first_node (children_behind name (named_children slots p))
next-some names bs hs p n next name slots view rows parent some there found is ne =
    sym (next-of names bs hs p n next name slots view rows parent some there found is ∙ by next ne)
  where
    by : (k : ℕ) → (k ≡ 0 → ⊥) → rank_option k ≡ Some k
    by zero ne = absurd (ne refl)
    by (suc k) ne = refl

-- the value of a property, as its table has it
pub held-value : (names : List Name) (bs : List Branch) (hs : List Held) (p k : ℕ) (name : Name) (slots : List Slot) (value : List ℕ) → slots_kept names (owned names hs) bs ≡ slots → AreOwn names → AreRows names bs hs → p < length slots
    → k < length names → text names k ≡ name → value_of (properties slots p) name ≡ Some value → value_held p k hs ≡ Some value
held-value names bs hs p k name slots value view own rows lt known is there =
    let within : p < suc (length bs) = omega (arith, lt, length-slots names (owned names hs) bs, ap (λ (ns : List Slot). length ns) view) in
    sym (value-kept names bs hs p k name own rows within known is) ∙ ap (λ (ns : List Slot). value_of (properties ns p) name) view ∙ there

pub on_err : {X E : Type 0} (r : Result X E) (P : Type 0) → P → OnErr r P
on_err (Ok x) P given = tt
on_err (Err e) P given = given
