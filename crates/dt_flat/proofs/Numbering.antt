-- The table of phandles after a property is set or a node is added.
use Rattle.std.proofs.Common.{◌≡◌, ◌≢◌, ℕ, zero, suc, ◌+◌, ◌<◌, ◌≤◌, Bool, true, false, not, cond, eqb, List, [], ◌∷◌, ◌++◌, length, Option, Some, None, refl, sym, ap, subst, ◌∙◌, inl, inr, ◌⊎◌, true≢false, arith}
use Rattle.std.specs.Prelude.{codes, IfSome}
use Rattle.std.specs.List.{AllByRecursion}
use Rattle.std.specs.Option.{option_to_list}
use Rattle.std.specs.Str.{bytes_eq}
use Rattle.std.specs.Int.{w32, from_be_bytes}
use Rattle.std.proofs.lemmas.Bool.{cases_eq, cases_lt, eqb-true}
use Rattle.std.proofs.lemmas.List.{append-nil, drop_all}
use Rattle.std.proofs.lemmas.Slice.Eq.{bytes_eq-Decides}
use Rattle.dt_model.specs.Applied.{with_cell}
use Rattle.dt_model.specs.Meaning.{cell}
use Rattle.dt_model.specs.Tree.{Property, value_of}
use Rattle.dt_model.specs.Valid.{IsPhandle, phandle_values}
use Rattle.dt_flat.specs.Arena.{Slot, properties, with_property, number_of_value, phandle_at}
use Rattle.dt_model.specs.Changes.{set_property}
use Rattle.dt_flat.specs.Numbers.{Table, holder, is_number, given, MayGive, IsNumbered}
use Rattle.dt_flat.specs.Refusals.{MaySet}
use Rattle.dt_flat.specs.Sound.{AreCells}
use Rattle.dt_flat.proofs.AfterChild.{tested, differs, properties-push, properties-past}
use Rattle.dt_flat.proofs.AfterProperty.{properties-same, properties-other}
use Rattle.dt_flat.proofs.FirstFree.{holder-same}

-- the number that some properties give
abbrev pub phandle_of : List Property → Option ℕ
phandle_of ps = number_of_value (value_of ps (codes "phandle"))

pub value-same : (ps : List Property) (name value : List ℕ) → value_of (set_property ps name value) name ≡ Some value
value-same [] name value = ap (λ (b : Bool). cond b (Some value) None) ((bytes_eq-Decides name name).1 refl)
value-same (p ∷ ps) name value = by (bytes_eq name p.name) refl (value-same ps name value)
  where
    by : (b : Bool) → bytes_eq name p.name ≡ b → value_of (set_property ps name value) name ≡ Some value
        → value_of (cond b (record { name = p.name; value = value } ∷ ps) (p ∷ set_property ps name value)) name ≡ Some value
    by true e h = ap (λ (b : Bool). cond b (Some value) (value_of ps name)) e
    by false e h = ap (λ (b : Bool). cond b (Some p.value) (value_of (set_property ps name value) name)) e ∙ h

pub value-other : (ps : List Property) (name value other : List ℕ) → name ≢ other → value_of (set_property ps name value) other ≡ value_of ps other
value-other [] name value other ne = ap (λ (b : Bool). cond b (Some value) None) (not_same other name (λ e. ne (sym e)))
  where
    not_same : (a b : List ℕ) → a ≢ b → bytes_eq a b ≡ false
    not_same a b ne = by (bytes_eq a b) refl
      where
        by : (t : Bool) → bytes_eq a b ≡ t → t ≡ false
        by true e = absurd (ne ((bytes_eq-Decides a b).0 e))
        by false e = refl
value-other (p ∷ ps) name value other ne = by (bytes_eq name p.name) refl (value-other ps name value other ne)
  where
    by : (b : Bool) → bytes_eq name p.name ≡ b → value_of (set_property ps name value) other ≡ value_of ps other
        → value_of (cond b (record { name = p.name; value = value } ∷ ps) (p ∷ set_property ps name value)) other ≡ cond (bytes_eq other p.name) (Some p.value) (value_of ps other)
    by true e h =
        let same : name ≡ p.name = (bytes_eq-Decides name p.name).0 e in
        apart (bytes_eq other p.name) refl same
      where
        apart : (t : Bool) → bytes_eq other p.name ≡ t → name ≡ p.name → cond t (Some value) (value_of ps other) ≡ cond t (Some p.value) (value_of ps other)
        apart true e same = absurd (ne (same ∙ sym ((bytes_eq-Decides other p.name).0 e)))
        apart false e same = refl
    by false e h = ap (λ (o : Option (List ℕ)). cond (bytes_eq other p.name) (Some p.value) o) h

-- a property of another name changes no number
pub phandle-kept : (slots : List Slot) (p : ℕ) (name value : List ℕ) (q : ℕ) → p < length slots → name ≢ codes "phandle" → phandle_at (with_property slots p name value) q ≡ phandle_at slots q
phandle-kept slots p name value q h ne =
    elim (cases_eq q p) [
      | inl e ↦ subst (λ (k : ℕ). phandle_at (with_property slots p name value) k ≡ phandle_at slots k) (sym e)
          (ap phandle_of (properties-same slots p name value h) ∙ ap number_of_value (value-other (properties slots p) name value (codes "phandle") ne))
      | inr d ↦ ap phandle_of (properties-other slots p name value q d)
    ]

pub IsNumbered-kept : (slots : List Slot) (p : ℕ) (name value : List ℕ) (table : Table) → p < length slots → name ≢ codes "phandle" → IsNumbered slots table → IsNumbered (with_property slots p name value) table
IsNumbered-kept slots p name value table h ne numbered =
    record { sound = λ n i e. phandle-kept slots p name value i h ne ∙ numbered.sound n i e; whole = λ n i e. numbered.whole n i (sym (phandle-kept slots p name value i h ne) ∙ e) }

-- a phandle that is set gives the node its number
pub phandle-set : (slots : List Slot) (p : ℕ) (value : List ℕ) → p < length slots → length value ≡ 4 → phandle_at (with_property slots p (codes "phandle") value) p ≡ Some (from_be_bytes w32 value)
phandle-set slots p value h four =
    ap phandle_of (properties-same slots p (codes "phandle") value h) ∙ ap number_of_value (value-same (properties slots p) (codes "phandle") value)
    ∙ ap (λ (b : Bool). cond b (Some (from_be_bytes w32 value)) None) (tested (length value) 4 four)

pub phandle-other : (slots : List Slot) (p : ℕ) (name value : List ℕ) (q : ℕ) → q ≢ p → phandle_at (with_property slots p name value) q ≡ phandle_at slots q
phandle-other slots p name value q d = ap phandle_of (properties-other slots p name value q d)

pub IsNumbered-added : (ns : List Slot) (m : Slot) (table : Table) → m.properties ≡ [] → IsNumbered ns table → IsNumbered (ns ++ m ∷ []) table
IsNumbered-added ns m table e numbered =
    record { sound = λ n i h. ap phandle_of (properties-push ns m i e) ∙ numbered.sound n i h; whole = λ n i h. numbered.whole n i (sym (ap phandle_of (properties-push ns m i e)) ∙ h) }

given_cases : (a b : Bool) (node i : ℕ) (o : Option ℕ) → cond a (Some node) (cond b None o) ≡ Some i → ((a ≡ true) × (node ≡ i)) ⊎ ((a ≡ false) × (b ≡ false) × (o ≡ Some i))
given_cases true b node i o e = let same : node ≡ i = cc in inl (refl, same)
given_cases false true node i o e = absurd cc
given_cases false false node i o e = inr (refl, refl, e)

not_before : (o : Option ℕ) (n : ℕ) → o ≡ Some n → is_number o n ≡ true
not_before None n e = absurd cc
not_before (Some m) n e = let same : m ≡ n = cc in tested n m (sym same)

not_number : (o : Option ℕ) (n : ℕ) → (o ≡ Some n → ⊥) → is_number o n ≡ false
not_number None n f = refl
not_number (Some m) n f = differs n m (λ e. f (ap (λ (k : ℕ). Some k) (sym e)))

pub same_some : (a b : ℕ) (o : Option ℕ) → o ≡ Some a → o ≡ Some b → a ≡ b
same_some a b o p q = cc

pub IsNumbered-given : (slots new : List Slot) (p number : ℕ) (old table : Table) (before : Option ℕ) → before ≡ phandle_at slots p → ((q : ℕ) → q ≢ p → phandle_at new q ≡ phandle_at slots q) → phandle_at new p ≡ Some number
    → ((i : ℕ) → holder old number ≡ Some i → i ≡ p) → ((n : ℕ) → holder table n ≡ given old before number p n) → IsNumbered slots old → IsNumbered new table
IsNumbered-given slots new p number old table before was others own free is numbered = record { sound = there; whole = back }
  where
    there : (n i : ℕ) → holder table n ≡ Some i → phandle_at new i ≡ Some n
    there n i e =
        elim (given_cases (eqb n number) (is_number before n) p i (holder old n) (sym (is n) ∙ e)) [
          | inl h ↦ subst (λ (k : ℕ). phandle_at new k ≡ Some n) h.1 (own ∙ ap (λ (k : ℕ). Some k) (sym (eqb-true n number h.0)))
          | inr h ↦
              let had : phandle_at slots i ≡ Some n = numbered.sound n i h.2 in
              let ne : i ≢ p = λ e. true≢false (sym (not_before before n (was ∙ ap (phandle_at slots) (sym e) ∙ had)) ∙ h.1) in
              others i ne ∙ had
        ]

    back : (n i : ℕ) → phandle_at new i ≡ Some n → holder table n ≡ Some i
    back n i e =
        elim (cases_eq i p) [
          | inl q ↦
              let same : n ≡ number = same_some n number (phandle_at new p) (ap (phandle_at new) (sym q) ∙ e) own in
              is n ∙ ap (λ (b : Bool). cond b (Some p) (cond (is_number before n) None (holder old n))) (tested n number same) ∙ ap (λ (k : ℕ). Some k) (sym q)
          | inr d ↦
              let had : holder old n ≡ Some i = numbered.whole n i (sym (others i d) ∙ e) in
              let other : n ≢ number = λ q. d (free i (ap (holder old) (sym q) ∙ had)) in
              let apart : before ≡ Some n → ⊥ = λ q. d (same_some i p (holder old n) had (numbered.whole n p (sym was ∙ q))) in
              is n ∙ ap (λ (b : Bool). cond b (Some p) (cond (is_number before n) None (holder old n))) (differs n number other)
              ∙ ap (λ (b : Bool). cond b None (holder old n)) (not_number before n apart) ∙ had
        ]

pub named_phandle : (name a : List ℕ) → a ≡ codes "phandle" → false ≡ not (bytes_eq name a) → name ≡ codes "phandle"
named_phandle name a e t = (bytes_eq-Decides name a).0 (is_true (bytes_eq name a) t) ∙ e
  where
    is_true : (b : Bool) → false ≡ not b → b ≡ true
    is_true true e = refl
    is_true false e = absurd cc

pub not_phandle : (name a : List ℕ) → a ≡ codes "phandle" → true ≡ not (bytes_eq name a) → name ≢ codes "phandle"
not_phandle name a e t same = contrary (bytes_eq name a) t ((bytes_eq-Decides name a).1 (same ∙ sym e))
  where
    contrary : (b : Bool) → true ≡ not b → b ≡ true → ⊥
    contrary true e f = true≢false e
    contrary false e f = true≢false (sym f)

pub no_number : (ps : List Property) (a value : List ℕ) → a ≡ codes "phandle" → Some value ≡ value_of ps a → length value ≢ 4 → None ≡ phandle_of ps
no_number ps a value e v ne =
    sym (ap number_of_value (ap (value_of ps) (sym e) ∙ sym v) ∙ ap (λ (b : Bool). cond b (Some (from_be_bytes w32 value)) None) (differs (length value) 4 ne))

pub has_number : (ps : List Property) (a value : List ℕ) → a ≡ codes "phandle" → Some value ≡ value_of ps a → length value ≡ 4 → Some (from_be_bytes w32 value) ≡ phandle_of ps
has_number ps a value e v four =
    sym (ap number_of_value (ap (value_of ps) (sym e) ∙ sym v) ∙ ap (λ (b : Bool). cond b (Some (from_be_bytes w32 value)) None) (tested (length value) 4 four))

-- a table of the same entries
pub IsNumbered-same : (slots : List Slot) (old new : Table) → new.entries ≡ old.entries → IsNumbered slots old → IsNumbered slots new
IsNumbered-same slots old new e h = record { sound = λ n i g. h.sound n i (sym (holder-same old new n e) ∙ g); whole = λ n i g. holder-same old new n e ∙ h.whole n i g }

-- the arena after a phandle is set
pub IsNumbered-set : (slots : List Slot) (p number : ℕ) (value : List ℕ) (old table : Table) → p < length slots → length value ≡ 4 → number ≡ from_be_bytes w32 value
    → ((i : ℕ) → holder old number ≡ Some i → i ≡ p) → ((n : ℕ) → holder table n ≡ given old (phandle_at slots p) number p n) → IsNumbered slots old → IsNumbered (with_property slots p (codes "phandle") value) table
IsNumbered-set slots p number value old table lt four is free gives numbered =
    let own : phandle_at (with_property slots p (codes "phandle") value) p ≡ Some number = phandle-set slots p value lt four ∙ ap (λ (k : ℕ). Some k) (sym is) in
    IsNumbered-given slots (with_property slots p (codes "phandle") value) p number old table (phandle_at slots p) refl (λ q d. phandle-other slots p (codes "phandle") value q d) own free gives numbered

-- what gives a node a number is a phandle that may be set, and nothing else
pub may_set : (slots : List Slot) (table : Table) (p : ℕ) (value : List ℕ) → IsNumbered slots table → MayGive table p value → MaySet slots p (codes "phandle") value
may_set slots table p value numbered may = record {
  valid = λ e. may.valid;
  own = λ e q at. may.own q (numbered.whole (from_be_bytes w32 value) q at);
}

pub may_give : (slots : List Slot) (table : Table) (p : ℕ) (value : List ℕ) → IsNumbered slots table → MaySet slots p (codes "phandle") value → MayGive table p value
may_give slots table p value numbered may = record {
  valid = may.valid refl;
  own = λ i at. may.own refl i (numbered.sound (from_be_bytes w32 value) i at);
}

-- ---- nodes with numbers, and their values

-- what has a number is a node
pub numbered-within : (slots : List Slot) (table : Table) (n i : ℕ) → IsNumbered slots table → holder table n ≡ Some i → i < length slots
numbered-within slots table n i numbered e =
    elim (cases_lt i (length slots)) [
      | inl lt ↦ lt
      | inr past ↦ let none : None ≡ Some n = sym (ap phandle_of (properties-past slots i past)) ∙ numbered.sound n i e in absurd cc
    ]

-- so is what a look-up finds
pub found-within : (slots : List Slot) (table : Table) (n : ℕ) (found : Option ℕ) → IsNumbered slots table → found ≡ holder table n → IfSome found (λ i. i < length slots)
found-within slots table n None numbered e = tt
found-within slots table n (Some i) numbered e = numbered-within slots table n i numbered (sym e)

-- a phandle that stands in the tree is one
pub phandle-there : (slots : List Slot) (p : ℕ) (value : List ℕ) → AllByRecursion (λ n. AllByRecursion IsPhandle (phandle_values n.properties)) slots → value_of (properties slots p) (codes "phandle") ≡ Some value → IsPhandle value
phandle-there [] p value h e = absurd cc
phandle-there (n ∷ ns) zero value h e = one (value_of n.properties (codes "phandle")) h.0 e
  where
    one : (o : Option (List ℕ)) → AllByRecursion IsPhandle (option_to_list o) → o ≡ Some value → IsPhandle value
    one None h e = absurd cc
    one (Some w) h e = let same : w ≡ value = cc in subst IsPhandle same h.0
phandle-there (n ∷ ns) (suc p) value h e = phandle-there ns p value h.1 e

-- a cell in a phandle is all of it
pub whole_cell : (value : List ℕ) (offset number : ℕ) → length value ≡ 4 → offset + 4 ≤ length value → with_cell value offset number ≡ cell number
whole_cell value offset number four room =
    let first : offset ≡ 0 = omega arith in
    ap (λ (k : ℕ). with_cell value k number) first ∙ ap (λ (bytes : List ℕ). cell number ++ bytes) (drop_all 4 value (omega arith)) ∙ append-nil (cell number)

-- so it is in a tree; the slots and the value are seen in two ways
pub whole_phandle : (slots kept : List Slot) (p : ℕ) (name value other : List ℕ) (offset number : ℕ) → name ≡ codes "phandle" → kept ≡ slots → AllByRecursion (λ n. AllByRecursion IsPhandle (phandle_values n.properties)) kept
    → value_of (properties slots p) name ≡ Some value → value_of (properties slots p) name ≡ Some other → offset + 4 ≤ length other → with_cell value offset number ≡ cell number
whole_phandle slots kept p name value other offset number named same valid here there room =
    let one : other ≡ value = cc in
    let at : value_of (properties kept p) (codes "phandle") ≡ Some value = ap (λ (ns : List Slot). value_of (properties ns p) (codes "phandle")) same ∙ ap (value_of (properties slots p)) (sym named) ∙ here in
    whole_cell value offset number (phandle-there kept p value valid at).four (omega (arith, room, ap (λ (xs : List ℕ). length xs) one))

-- each phandle is still a cell after a node without properties is added
pub AreCells-added : (ns : List Slot) (m : Slot) → m.properties ≡ [] → AreCells ns → AreCells (ns ++ m ∷ [])
AreCells-added ns m none cells q value e = cells q value (ap (λ (ps : List Property). value_of ps (codes "phandle")) (sym (properties-push ns m q none)) ∙ e)

-- and after a property of another name is set
pub AreCells-kept : (slots : List Slot) (p : ℕ) (name value : List ℕ) → p < length slots → name ≢ codes "phandle" → AreCells slots → AreCells (with_property slots p name value)
AreCells-kept slots p name value lt ne cells q w e =
    elim (cases_eq q p) [
      | inl same ↦ cells p w (sym (ap (λ (ps : List Property). value_of ps (codes "phandle")) (properties-same slots p name value lt) ∙ value-other (properties slots p) name value (codes "phandle") ne) ∙ ap (λ (k : ℕ). value_of (properties (with_property slots p name value) k) (codes "phandle")) (sym same) ∙ e)
      | inr d ↦ cells q w (ap (λ (ps : List Property). value_of ps (codes "phandle")) (sym (properties-other slots p name value q d)) ∙ e)
    ]

-- and after a cell is set as a phandle
pub AreCells-set : (slots : List Slot) (p : ℕ) (value : List ℕ) → p < length slots → value ≡ cell (from_be_bytes w32 value) → AreCells slots → AreCells (with_property slots p (codes "phandle") value)
AreCells-set slots p value lt is cells q w e =
    elim (cases_eq q p) [
      | inl same ↦
          let set : Some value ≡ Some w =
          sym (ap (λ (ps : List Property). value_of ps (codes "phandle")) (properties-same slots p (codes "phandle") value lt) ∙ value-same (properties slots p) (codes "phandle") value)
          ∙ ap (λ (k : ℕ). value_of (properties (with_property slots p (codes "phandle") value) k) (codes "phandle")) (sym same) ∙ e in
          let at : value ≡ w = cc in
          subst (λ (v : List ℕ). v ≡ cell (from_be_bytes w32 v)) at is
      | inr d ↦ cells q w (ap (λ (ps : List Property). value_of ps (codes "phandle")) (sym (properties-other slots p (codes "phandle") value q d)) ∙ e)
    ]
