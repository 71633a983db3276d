-- A tree stays one that a blob may hold, and what its numbers say holds of what it is read as.
use Rattle.std.proofs.Common.{◌≡◌, ◌≢◌, ℕ, zero, suc, ◌<◌, Bool, true, false, cond, eqb, List, [], ◌∷◌, ◌++◌, length, map, drop, Option, Some, None, refl, sym, ap, subst, ◌∙◌, arith, inl, inr, true≢false}
use Rattle.std.specs.Prelude.{codes}
use Rattle.std.specs.Option.{option_to_list}
use Rattle.std.specs.List.{AllByRecursion, flat_map}
use Rattle.std.specs.Str.{bytes_eq}
use Rattle.std.specs.Int.{w32, from_be_bytes}
use Rattle.std.proofs.lemmas.Bool.{cases_lt, eqb-true}
use Rattle.std.proofs.lemmas.List.{append-nil, length-append, drop_all, map-append}
use Rattle.std.proofs.lemmas.Slice.Eq.{bytes_eq-Decides}
use Rattle.dt_model.specs.Names.{IsNodeName, IsPropertyName}
use Rattle.dt_model.specs.Tree.{Property, Forest, branch, value_of}
use Rattle.dt_model.specs.Valid.{AreDistinct, AreProperties, names, AreNodes, phandle_values, phandles, IsPhandle, IsReservation, IsValid}
use Rattle.dt_flat.specs.Arena.{Arena, Slot, Child, named_among, named_children, child_of, forest_among, properties, with_property, number_of_value, phandle_at, reading}
use Rattle.dt_model.specs.Changes.{set_property}
use Rattle.dt_flat.specs.Numbers.{Table, holder, IsNumbered}
use Rattle.dt_flat.specs.Sound.{AreValid, IsSoundArena}
use Rattle.dt_flat.proofs.AfterChild.{tested, named_children-push}
use Rattle.dt_flat.proofs.AfterProperty.{SameShape, same_with, same_drop, children-with_property}
use Rattle.dt_flat.proofs.ByPath.{first_slot}
use Rattle.dt_flat.proofs.Distinctness.{Apart, all-append, all-front, all-back, distinct-append, distinct-front, distinct-back, distinct-apart, apart-left, apart-flip}
use Rattle.dt_flat.proofs.Numbering.{phandle_of, value-same, value-other, same_some}

-- ---- the values of phandles, by numbers of nodes and below a node

abbrev own : Slot → List (List ℕ)
own n = phandle_values n.properties

phandles-inside : (P : List ℕ → Type 0) (i : ℕ) (ns : List Slot) (p : ℕ) → AllByRecursion P (flat_map own ns) → AllByRecursion P (phandles (forest_among i ns p))
phandles-inside P i [] p h = tt
phandles-inside P i (n ∷ ns) p h =
    let rest = all-back P (own n) (flat_map own ns) h in
    by (eqb n.parent p) (all-append P (own n ++ phandles (forest_among (suc i) ns i)) (phandles (forest_among (suc i) ns p)) (all-append P (own n) (phandles (forest_among (suc i) ns i)) (all-front P (own n) (flat_map own ns) h) (phandles-inside P (suc i) ns i rest)) (phandles-inside P (suc i) ns p rest)) (phandles-inside P (suc i) ns p rest)
  where
    by : (b : Bool) → AllByRecursion P (own n ++ phandles (forest_among (suc i) ns i) ++ phandles (forest_among (suc i) ns p)) → AllByRecursion P (phandles (forest_among (suc i) ns p))
        → AllByRecursion P (phandles (cond b (branch n.name n.properties (forest_among (suc i) ns i) (forest_among (suc i) ns p)) (forest_among (suc i) ns p)))
    by true x y = x
    by false x y = y

apart-inside : (xs : List (List ℕ)) (i : ℕ) (ns : List Slot) (p : ℕ) → Apart xs (flat_map own ns) → Apart xs (phandles (forest_among i ns p))
apart-inside [] i ns p h = tt
apart-inside (x ∷ xs) i ns p h = (phandles-inside (λ y. y ≢ x) i ns p h.0, apart-inside xs i ns p h.1)

record Split (i : ℕ) (ns : List Slot) : Type 0 where
  distinct : (p : ℕ) → p < i → AreDistinct (phandles (forest_among i ns p))
  apart : (p q : ℕ) → p < i → q < i → p ≢ q → Apart (phandles (forest_among i ns p)) (phandles (forest_among i ns q))

split : (i : ℕ) (ns : List Slot) → AreDistinct (flat_map own ns) → Split i ns
split i [] h = record { distinct = λ p l. tt; apart = λ p q l m d. tt }
split i (n ∷ ns) h =
    let later = split (suc i) ns (distinct-back (own n) (flat_map own ns) h) in
    let mine : AreDistinct (own n) = distinct-front (own n) (flat_map own ns) h in
    let others : Apart (own n) (flat_map own ns) = distinct-apart (own n) (flat_map own ns) h in
    let under = phandles (forest_among (suc i) ns i) in
    record {
      distinct = λ p l.
          let beside = phandles (forest_among (suc i) ns p) in
          one (eqb n.parent p) (forest_among (suc i) ns p)
          (distinct-append (own n ++ under) beside
          (distinct-append (own n) under mine (later.distinct i (omega arith)) (apart-inside (own n) (suc i) ns i others))
          (later.distinct p (omega arith))
          (apart-left (own n) under beside (apart-inside (own n) (suc i) ns p others) (later.apart i p (omega arith) (omega arith) (omega arith))))
          (later.distinct p (omega arith));
      apart = λ p q l m d.
          two p q d (eqb n.parent p) (eqb n.parent q) refl refl (forest_among (suc i) ns p) (forest_among (suc i) ns q) (later.apart p q (omega arith) (omega arith) d)
          (apart-inside (own n) (suc i) ns p others) (apart-inside (own n) (suc i) ns q others) (later.apart i p (omega arith) (omega arith) (omega arith)) (later.apart i q (omega arith) (omega arith) (omega arith));
    }
  where
    one : (b : Bool) (f : Forest) → AreDistinct (own n ++ phandles (forest_among (suc i) ns i) ++ phandles f) → AreDistinct (phandles f)
        → AreDistinct (phandles (cond b (branch n.name n.properties (forest_among (suc i) ns i) f) f))
    one true f x y = x
    one false f x y = y

    two : (p q : ℕ) → p ≢ q → (a b : Bool) → eqb n.parent p ≡ a → eqb n.parent q ≡ b → (f g : Forest) → Apart (phandles f) (phandles g) → Apart (own n) (phandles f) → Apart (own n) (phandles g)
        → Apart (phandles (forest_among (suc i) ns i)) (phandles f) → Apart (phandles (forest_among (suc i) ns i)) (phandles g)
        → Apart (phandles (cond a (branch n.name n.properties (forest_among (suc i) ns i) f) f)) (phandles (cond b (branch n.name n.properties (forest_among (suc i) ns i) g) g))
    two p q d true true e k f g fg of og uf ug = absurd (d (sym (eqb-true n.parent p e) ∙ eqb-true n.parent q k))
    two p q d true false e k f g fg of og uf ug = apart-left (own n ++ phandles (forest_among (suc i) ns i)) (phandles f) (phandles g) (apart-left (own n) (phandles (forest_among (suc i) ns i)) (phandles g) og ug) fg
    two p q d false true e k f g fg of og uf ug =
        apart-flip (own n ++ phandles (forest_among (suc i) ns i) ++ phandles g) (phandles f)
        (apart-left (own n ++ phandles (forest_among (suc i) ns i)) (phandles g) (phandles f) (apart-left (own n) (phandles (forest_among (suc i) ns i)) (phandles f) of uf) (apart-flip (phandles f) (phandles g) fg))
    two p q d false false e k f g fg of og uf ug = fg

-- ---- each number is in one place

value-number : (ps : List Property) (w : List ℕ) → value_of ps (codes "phandle") ≡ Some w → length w ≡ 4 → phandle_of ps ≡ Some (from_be_bytes w32 w)
value-number ps w e four = ap number_of_value e ∙ ap (λ (b : Bool). cond b (Some (from_be_bytes w32 w)) None) (tested (length w) 4 four)

later-differ : (slots : List Slot) (table : Table) (i k : ℕ) (ns : List Slot) (v : List ℕ) → IsNumbered slots table → i < k → drop k slots ≡ ns → AllByRecursion (λ n. AllByRecursion IsPhandle (own n)) ns
    → phandle_at slots i ≡ Some (from_be_bytes w32 v) → AllByRecursion (λ y. y ≢ v) (flat_map own ns)
later-differ slots table i k [] v numbered lt at valid e = tt
later-differ slots table i k (n ∷ ns) v numbered lt at valid e =
    let first = first_slot slots k n ns at in
    by (value_of n.properties (codes "phandle")) refl valid.0 (later-differ slots table i (suc k) ns v numbered (omega arith) first.1 valid.1 e) first.0
  where
    by : (o : Option (List ℕ)) → value_of n.properties (codes "phandle") ≡ o → AllByRecursion IsPhandle (option_to_list o) → AllByRecursion (λ y. y ≢ v) (flat_map own ns) → properties slots k ≡ n.properties
        → AllByRecursion (λ y. y ≢ v) (option_to_list o ++ flat_map own ns)
    by None is ok rest same = rest
    by (Some w) is ok rest same = (
      λ q.
          let number : phandle_at slots k ≡ Some (from_be_bytes w32 v) = ap phandle_of same ∙ value-number n.properties w is ok.0.four ∙ ap (λ (x : List ℕ). Some (from_be_bytes w32 x)) q in
          let both : i ≡ k = same_some i k (holder table (from_be_bytes w32 v)) (numbered.whole (from_be_bytes w32 v) i e) (numbered.whole (from_be_bytes w32 v) k number) in
          omega arith,
      rest,
    )

numbers-differ : (slots : List Slot) (table : Table) (k : ℕ) (ns : List Slot) → IsNumbered slots table → drop k slots ≡ ns → AllByRecursion (λ n. AllByRecursion IsPhandle (own n)) ns → AreDistinct (flat_map own ns)
numbers-differ slots table k [] numbered at valid = tt
numbers-differ slots table k (n ∷ ns) numbered at valid =
    let first = first_slot slots k n ns at in
    by (value_of n.properties (codes "phandle")) refl valid.0 (numbers-differ slots table (suc k) ns numbered first.1 valid.1) first.0 first.1
  where
    by : (o : Option (List ℕ)) → value_of n.properties (codes "phandle") ≡ o → AllByRecursion IsPhandle (option_to_list o) → AreDistinct (flat_map own ns) → properties slots k ≡ n.properties → drop (suc k) slots ≡ ns
        → AreDistinct (option_to_list o ++ flat_map own ns)
    by None is ok rest same next = rest
    by (Some w) is ok rest same next =
        let number : phandle_at slots k ≡ Some (from_be_bytes w32 w) = ap phandle_of same ∙ value-number n.properties w is ok.0.four in
        (later-differ slots table k (suc k) ns w numbered (omega arith) next valid.1 number, rest)

-- ---- names

names-among : (i : ℕ) (ns : List Slot) (p : ℕ) → names (forest_among i ns p) ≡ map (λ c. c.name) (named_among i ns p)
names-among i [] p = refl
names-among i (n ∷ ns) p = by (eqb n.parent p) (names-among (suc i) ns p)
  where
    by : (b : Bool) → names (forest_among (suc i) ns p) ≡ map (λ c. c.name) (named_among (suc i) ns p)
        → names (cond b (branch n.name n.properties (forest_among (suc i) ns i) (forest_among (suc i) ns p)) (forest_among (suc i) ns p)) ≡ map (λ c. c.name) (cond b (record { name = n.name; node = i } ∷ named_among (suc i) ns p) (named_among (suc i) ns p))
    by true h = ap (λ (xs : List (List ℕ)). n.name ∷ xs) h
    by false h = h

named-below : (slots : List Slot) (i : ℕ) (ns : List Slot) (p : ℕ) → drop i slots ≡ ns → AllByRecursion (λ n. AreProperties n.properties) ns → AllByRecursion (λ n. IsNodeName n.name) ns
    → ((q : ℕ) → AreDistinct (map (λ c. c.name) (named_children slots q))) → AreNodes (forest_among i ns p)
named-below slots i [] p at ps ns differ = tt
named-below slots i (n ∷ ns) p at ps named differ =
    let next = (first_slot slots i n ns at).1 in
    let under = named-below slots (suc i) ns i next ps.1 named.1 differ in
    let beside = named-below slots (suc i) ns p next ps.1 named.1 differ in
    let apart : AreDistinct (names (forest_among (suc i) ns i)) = subst AreDistinct (sym (names-among (suc i) ns i ∙ ap (λ (ms : List Slot). map (λ (c : Child). c.name) (named_among (suc i) ms i)) (sym next))) (differ i) in
    by (eqb n.parent p) (named.0, ps.0, under, apart, beside) beside
  where
    by : (b : Bool) → AreNodes (branch n.name n.properties (forest_among (suc i) ns i) (forest_among (suc i) ns p)) → AreNodes (forest_among (suc i) ns p)
        → AreNodes (cond b (branch n.name n.properties (forest_among (suc i) ns i) (forest_among (suc i) ns p)) (forest_among (suc i) ns p))
    by true x y = x
    by false x y = y

-- ---- what a tree says is something that a blob may hold

pub IsValid-reading : (a : Arena) (table : Table) → IsSoundArena a table → IsValid (reading a)
IsValid-reading a table sound = by a.slots sound.rooted.some sound.numbered sound.valid
  where
    flat : (ms : List Slot) → AllByRecursion (λ m. AllByRecursion IsPhandle (own m)) ms → AllByRecursion IsPhandle (flat_map own ms)
    flat [] h = tt
    flat (m ∷ ms) h = all-append IsPhandle (own m) (flat_map own ms) h.0 (flat ms h.1)

    by : (slots : List Slot) → 0 < length slots → IsNumbered slots table → AreValid slots → IsValid (reading (record a { slots = slots }))
    by [] some numbered valid = absurd (omega arith)
    by (n ∷ ns) some numbered valid =
        let differ : AreDistinct (own n ++ flat_map own ns) = numbers-differ (n ∷ ns) table 0 (n ∷ ns) numbered refl valid.phandles in
        let below-differ = (split 1 ns (distinct-back (own n) (flat_map own ns) differ)).distinct 0 (omega arith) in
        record {
          boot_cpu = sound.boot_cpu;
          reservations = sound.reservations;
          properties = valid.properties.0;
          nodes = named-below (n ∷ ns) 1 ns 0 refl valid.properties.1 valid.named valid.siblings;
          siblings = subst AreDistinct (sym (names-among 1 ns 0)) (valid.siblings 0);
          phandles_valid = all-append IsPhandle (own n) (phandles (forest_among 1 ns 0)) valid.phandles.0 (phandles-inside IsPhandle 1 ns 0 (flat ns valid.phandles.1));
          phandles_distinct = distinct-append (own n) (phandles (forest_among 1 ns 0)) (distinct-front (own n) (flat_map own ns) differ) below-differ (apart-inside (own n) 1 ns 0 (distinct-apart (own n) (flat_map own ns) differ));
        }

-- ---- a tree stays valid when a node is added

no_child : (cs : List Child) (name : List ℕ) → child_of cs name ≡ None → Apart (map (λ c. c.name) cs) (name ∷ [])
no_child [] name e = tt
no_child (c ∷ cs) name e = by (bytes_eq name c.name) refl e (λ f. no_child cs name f)
  where
    by : (b : Bool) → bytes_eq name c.name ≡ b → cond b (Some c.node) (child_of cs name) ≡ None → (child_of cs name ≡ None → Apart (map (λ c. c.name) cs) (name ∷ [])) → Apart (map (λ c. c.name) (c ∷ cs)) (name ∷ [])
    by true is e f = absurd cc
    by false is e f = ((λ q. true≢false (sym ((bytes_eq-Decides name c.name).1 q) ∙ is), tt), f e)

none_set : AreProperties []
none_set = record { named = tt; distinct = tt }

drop-first : (slots : List Slot) (m : Slot) → 0 < length slots → drop 1 (slots ++ m ∷ []) ≡ drop 1 slots ++ m ∷ []
drop-first [] m h = absurd (omega arith)
drop-first (n ∷ ns) m h = refl

pub AreValid-added : (slots : List Slot) (m : Slot) → 0 < length slots → m.properties ≡ [] → IsNodeName m.name → child_of (named_children slots m.parent) m.name ≡ None → AreValid slots → AreValid (slots ++ m ∷ [])
AreValid-added slots m some none named fresh valid = record {
  properties = all-append (λ n. AreProperties n.properties) slots (m ∷ []) valid.properties (subst AreProperties (sym none) none_set, tt);
  named = subst (AllByRecursion (λ n. IsNodeName n.name)) (sym (drop-first slots m some)) (all-append (λ n. IsNodeName n.name) (drop 1 slots) (m ∷ []) valid.named (named, tt));
  siblings = λ p. elim (cases_lt p (length slots)) [
    | inl lt ↦ subst (λ (cs : List Child). AreDistinct (map (λ c. c.name) cs)) (sym (named_children-push slots m p lt)) (by p (eqb m.parent p) refl)
    | inr le ↦ subst (λ (ns : List Slot). AreDistinct (map (λ c. c.name) (named_among (suc p) ns p))) (sym (drop_all (suc p) (slots ++ m ∷ []) (omega (arith, length-append slots (m ∷ []))))) tt
  ];
  phandles = all-append (λ n. AllByRecursion IsPhandle (phandle_values n.properties)) slots (m ∷ []) valid.phandles (subst (λ (ps : List Property). AllByRecursion IsPhandle (phandle_values ps)) (sym none) tt, tt);
}
  where
    by : (p : ℕ) (b : Bool) → eqb m.parent p ≡ b → AreDistinct (map (λ c. c.name) (named_children slots p ++ cond b (record { name = m.name; node = length slots } ∷ []) []))
    by p true e =
        let last : List Child = record { name = m.name; node = length slots } ∷ [] in
        let apart : Apart (map (λ c. c.name) (named_children slots p)) (m.name ∷ []) = no_child (named_children slots p) m.name (ap (λ (k : ℕ). child_of (named_children slots k) m.name) (sym (eqb-true m.parent p e)) ∙ fresh) in
        subst AreDistinct (sym (map-append (λ (c : Child). c.name) (named_children slots p) last)) (distinct-append (map (λ c. c.name) (named_children slots p)) (m.name ∷ []) (valid.siblings p) (tt, tt) apart)
    by p false e = subst (λ (cs : List Child). AreDistinct (map (λ c. c.name) cs)) (sym (append-nil (named_children slots p))) (valid.siblings p)

-- ---- and when a property is set

all-set : (P : List ℕ → Type 0) (ps : List Property) (name value : List ℕ) → AllByRecursion P (map (λ p. p.name) ps) → P name → AllByRecursion P (map (λ p. p.name) (set_property ps name value))
all-set P [] name value h n = (n, tt)
all-set P (p ∷ ps) name value h n = by (bytes_eq name p.name) (all-set P ps name value h.1 n)
  where
    by : (b : Bool) → AllByRecursion P (map (λ p. p.name) (set_property ps name value)) → AllByRecursion P (map (λ p. p.name) (cond b (record { name = p.name; value = value } ∷ ps) (p ∷ set_property ps name value)))
    by true x = h
    by false x = (h.0, x)

distinct-set : (ps : List Property) (name value : List ℕ) → AreDistinct (map (λ p. p.name) ps) → AreDistinct (map (λ p. p.name) (set_property ps name value))
distinct-set [] name value h = (tt, tt)
distinct-set (p ∷ ps) name value h = by (bytes_eq name p.name) refl (distinct-set ps name value h.1)
  where
    by : (b : Bool) → bytes_eq name p.name ≡ b → AreDistinct (map (λ p. p.name) (set_property ps name value)) → AreDistinct (map (λ p. p.name) (cond b (record { name = p.name; value = value } ∷ ps) (p ∷ set_property ps name value)))
    by true e x = h
    by false e x = (all-set (λ y. y ≢ p.name) ps name value h.0 (λ q. true≢false (sym ((bytes_eq-Decides name p.name).1 q) ∙ e)), x)

named-set : (ps : List Property) (name value : List ℕ) → IsPropertyName name → AllByRecursion (λ p. IsPropertyName p.name) ps → AllByRecursion (λ p. IsPropertyName p.name) (set_property ps name value)
named-set [] name value n h = (n, tt)
named-set (p ∷ ps) name value n h = by (bytes_eq name p.name) (named-set ps name value n h.1)
  where
    by : (b : Bool) → AllByRecursion (λ p. IsPropertyName p.name) (set_property ps name value) → AllByRecursion (λ p. IsPropertyName p.name) (cond b (record { name = p.name; value = value } ∷ ps) (p ∷ set_property ps name value))
    by true x = h
    by false x = (h.0, x)

phandle-set_property : (ps : List Property) (name value : List ℕ) → (name ≡ codes "phandle" → IsPhandle value) → AllByRecursion IsPhandle (phandle_values ps) → AllByRecursion IsPhandle (phandle_values (set_property ps name value))
phandle-set_property ps name value ok h = by (bytes_eq name (codes "phandle")) refl
  where
    by : (b : Bool) → bytes_eq name (codes "phandle") ≡ b → AllByRecursion IsPhandle (phandle_values (set_property ps name value))
    by true e =
        let same : name ≡ codes "phandle" = (bytes_eq-Decides name (codes "phandle")).0 e in
        subst (λ (o : Option (List ℕ)). AllByRecursion IsPhandle (option_to_list o)) (sym (ap (value_of (set_property ps name value)) (sym same) ∙ value-same ps name value)) (ok same, tt)
    by false e =
        let ne : name ≢ codes "phandle" = λ q. true≢false (sym ((bytes_eq-Decides name (codes "phandle")).1 q) ∙ e) in
        subst (λ (o : Option (List ℕ)). AllByRecursion IsPhandle (option_to_list o)) (sym (value-other ps name value (codes "phandle") ne)) h

each-set : (P : List Property → Type 0) (slots : List Slot) (p : ℕ) (name value : List ℕ) → ((ps : List Property) → P ps → P (set_property ps name value)) → AllByRecursion (λ n. P n.properties) slots → AllByRecursion (λ n. P n.properties) (with_property slots p name value)
each-set P [] p name value f h = tt
each-set P (n ∷ ns) zero name value f h = (f n.properties h.0, h.1)
each-set P (n ∷ ns) (suc p) name value f h = (h.0, each-set P ns p name value f h.1)

shape-named : (ns ms : List Slot) → SameShape ns ms → AllByRecursion (λ n. IsNodeName n.name) ms → AllByRecursion (λ n. IsNodeName n.name) ns
shape-named [] ms s h = tt
shape-named (n ∷ ns) [] s h = absurd s
shape-named (n ∷ ns) (m ∷ ms) s h = (subst IsNodeName (sym s.1) h.0, shape-named ns ms s.2 h.1)

pub AreValid-set : (slots : List Slot) (p : ℕ) (name value : List ℕ) → IsPropertyName name → (name ≡ codes "phandle" → IsPhandle value) → AreValid slots → AreValid (with_property slots p name value)
AreValid-set slots p name value named ok valid = record {
  properties = each-set AreProperties slots p name value (λ ps h. record { named = named-set ps name value named h.named; distinct = distinct-set ps name value h.distinct }) valid.properties;
  named = shape-named (drop 1 (with_property slots p name value)) (drop 1 slots) (same_drop 1 (with_property slots p name value) slots (same_with slots p name value)) valid.named;
  siblings = λ q. subst (λ (cs : List Child). AreDistinct (map (λ c. c.name) cs)) (sym (children-with_property slots p name value q)) (valid.siblings q);
  phandles = each-set (λ ps. AllByRecursion IsPhandle (phandle_values ps)) slots p name value (λ ps h. phandle-set_property ps name value ok h) valid.phandles;
}

pub reserved : (rs : List (ℕ × ℕ)) (r : ℕ × ℕ) → IsReservation r → AllByRecursion IsReservation rs → AllByRecursion IsReservation (rs ++ r ∷ [])
reserved rs r one all = all-append IsReservation rs (r ∷ []) all (one, tt)
