-- What a source means is a meaning.
use Rattle.std.proofs.Common.{◌≡◌, ℕ, ◌<◌, Bool, true, false, ◌||◌, cond, is_some, length, List, [], ◌∷◌, inl, inr, Option, Some, None, reverse, codes, refl, sym, ap, subst, ◌∙◌, arith}
use Rattle.std.specs.List.{AllByRecursion, list_any}
use Rattle.std.specs.Option.{option_and_then}
use Rattle.std.specs.Str.{bytes_eq}
use Rattle.std.proofs.lemmas.Bool.{or_cases}
use Rattle.std.proofs.lemmas.List.{reverse-reverse, reverse-append}
use Rattle.dt_model.specs.Names.{Name, IsNodeName}
use Rattle.dt_model.specs.Path.{Path}
use Rattle.dt_model.specs.Valid.{IsReservation}
use Rattle.dt_model.specs.Meaning.{Item, Meaning, IsMeaning}
use Rattle.dt_model.specs.Event.{Stack, stands, value_at}
use Rattle.dt_model.specs.Source.{Reference, Part, Place, IsPlace, Mode, Events, referent, labelled, all_bound, number_of_parts, written_number, labels_there, refers_there, meaning_of, IsResolved, SourceMeans}
use Rattle.dt_model.proofs.Cases.{map_some, then_some, some_there, cond_none, either_left, either_right, all_map}
use Rattle.dt_model.proofs.Labels.{labelled_names, labelled_there}
use Rattle.dt_model_laws.proofs.Sound.{Sound}
use Rattle.dt_model_laws.proofs.Holding.{Follows, Obeys, node_follows, label_follows, value_follows, referent_stands}
use Rattle.dt_model_laws.proofs.ReadAll.{holds-source}
use Rattle.dt_model_laws.proofs.Keyed.{labels_stand, references_stand, referred_there}
use Rattle.dt_model_laws.proofs.Bound.{named_rules, named_obeys, path_named, all_bound_bytes, all_each_bound, written_range}

-- a value of a meaning: the property isn't `phandle`, and has a value after the events
value_is : (es : Events) (b : Bool) (o : Option (List Part)) (items : List (Item Path)) → cond b None (option_and_then (all_bound es) o) ≡ Some items
    → (b ≡ false) × (v : List Part) × (o ≡ Some v) × (all_bound es v ≡ Some items)
value_is es b o items h =
    let c = cond_none b (option_and_then (all_bound es) o) items h in
    let t = then_some (all_bound es) o items c.1 in
    (c.0, t.0, t.1, t.2)

pub no_twice : (p q : Path) → reverse p ≡ reverse q → p ≡ q
no_twice p q h = sym (reverse-reverse p) ∙ ap reverse h ∙ reverse-reverse q

-- the path of a stack, as a stack
pub at_path : (P : Stack → Type 0) (p : Path) (q : Stack) → reverse q ≡ p → P q → P (reverse p)
at_path P p q e h = subst P (sym (reverse-reverse q) ∙ ap reverse e) h

-- the stack is a keyed node's
abbrev keyed_at : Events → Stack → Type 0
keyed_at es p = (is_some (written_number es p) || list_any (labels_there es p) es || list_any (refers_there es p) es) ≡ true

module _ (reservations : List (ℕ × ℕ)) (es : Events) (s : Sound es) (each : AllByRecursion (Follows named_rules) es) (resolved : IsResolved es) where
  value_there : (p : Path) (n : Name) (items : List (Item Path)) → (meaning_of reservations es).value p n ≡ Some items
      → (bytes_eq n (codes "phandle") ≡ false) × (v : List Part) × (value_at es (reverse p) n ≡ Some v) × (all_bound es v ≡ Some items)
  value_there p n items h = value_is es (bytes_eq n (codes "phandle")) (value_at es (reverse p) n) items h

  names_of : (r : Reference) (p : Stack) → referent es r ≡ Some p → AllByRecursion IsNodeName p
  names_of r p h = node_follows named_rules es p each (referent_stands es s r p h)

  keyed_stands : (p : Stack) → keyed_at es p → stands es p ≡ true
  keyed_stands p h =
      elim (or_cases (is_some (written_number es p) || list_any (labels_there es p) es) (list_any (refers_there es p) es) h) [
        | inl t ↦
            elim (or_cases (is_some (written_number es p)) (list_any (labels_there es p) es) t) [
              | inl a ↦
                  let n = some_there (written_number es p) a in
                  let w = then_some number_of_parts (value_at es p (codes "phandle")) n.0 n.1 in
                  s.values p (codes "phandle") w.0 w.1
              | inr a ↦ labels_stand es s p a
            ]
        | inr t ↦ references_stand es s p t
      ]

  keyed_number : (p : Stack) → is_some (written_number es p) ≡ true → keyed_at es p
  keyed_number p h = either_left (is_some (written_number es p) || list_any (labels_there es p) es) (list_any (refers_there es p) es) (either_left (is_some (written_number es p)) (list_any (labels_there es p) es) h)

  keyed_label : (p : Stack) → list_any (labels_there es p) es ≡ true → keyed_at es p
  keyed_label p h = either_left (is_some (written_number es p) || list_any (labels_there es p) es) (list_any (refers_there es p) es) (either_right (is_some (written_number es p)) (list_any (labels_there es p) es) h)

  keyed_reference : (p : Stack) → list_any (refers_there es p) es ≡ true → keyed_at es p
  keyed_reference p h = either_right (is_some (written_number es p) || list_any (labels_there es p) es) (list_any (refers_there es p) es) h

  is_meaning : AllByRecursion IsReservation reservations → IsMeaning (meaning_of reservations es)
  is_meaning valid = record {
    reservations = valid;
    rooted = s.rooted;
    parents = λ p n h. s.parents n (reverse p) (ap (stands es) (sym (reverse-append p (n ∷ []))) ∙ h);
    named = λ p h. path_named p (node_follows named_rules es (reverse p) each h);
    values_stand = λ p n h.
        let there = some_there ((meaning_of reservations es).value p n) h in
        let v = value_there p n there.0 there.1 in
        s.values (reverse p) n v.1 v.2;
    values_named = λ p n h.
        let there = some_there ((meaning_of reservations es).value p n) h in
        let v = value_there p n there.0 there.1 in
        ((value_follows named_rules es (reverse p) n v.1 each v.2).0, v.0);
    bytes = λ p n items h.
        let v = value_there p n items h in
        all_bound_bytes es names_of v.1 items (value_follows named_rules es (reverse p) n v.1 each v.2).1 v.3;
    keyed_stand = λ p h. keyed_stands (reverse p) h;
    labelled = λ l p h.
        let q = map_some reverse (labelled es l) p h in
        (label_follows named_rules es l q.0 each (labelled_names es l q.0 q.1), at_path (keyed_at es) p q.0 q.2 (keyed_label q.0 (labelled_there es l q.0 q.1)));
    referred = λ p n items h.
        let v = value_there p n items h in
        all_each_bound es (λ q. keyed_at es (reverse q)) v.1 items
        (λ q r. at_path (keyed_at es) (reverse q) q refl (keyed_reference q (referred_there es (reverse p) n v.1 q v.2 r))) v.3;
    numbered = λ p n h.
        let w = then_some number_of_parts (value_at es (reverse p) (codes "phandle")) n h in
        let range = written_range w.0 n w.2 in
        (keyed_number (reverse p) (ap is_some h), range.0, range.1);
    own = λ p q n h k. no_twice p q (resolved.own (reverse p) (reverse q) n h k);
  }

means : (mode : Mode) (reservations : List (ℕ × ℕ)) (places : List Place) (m : Meaning) (w : SourceMeans mode reservations places m)
    → 0 < length places → AllByRecursion IsPlace places → AllByRecursion IsReservation reservations → IsMeaning (meaning_of reservations w.so_far.events)
means mode reservations places m w some places_valid valid =
    elim (holds-source named_rules mode w.so_far places tt (all_map IsPlace (Obeys named_rules mode) (named_obeys mode) places places_valid) w.all_read) [
      | inl none ↦ let l : length places ≡ 0 = ap length none.0 in absurd (omega arith)
      | inr holds ↦ is_meaning reservations w.so_far.events holds.sound holds.each w.resolved valid
    ]

pub source_meaning : (mode : Mode) (reservations : List (ℕ × ℕ)) (places : List Place) (m : Meaning)
    → 0 < length places → AllByRecursion IsPlace places → AllByRecursion IsReservation reservations → SourceMeans mode reservations places m → IsMeaning m
source_meaning mode reservations places m some places_valid valid w = subst IsMeaning (sym w.means) (means mode reservations places m w some places_valid valid)
