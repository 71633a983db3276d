-- What a base's source means, by tests on its events.
use Rattle.std.proofs.Common.{◌≡◌, ℕ, Bool, true, false, ◌&&◌, ◌||◌, List, [], length, Option, Some, None, is_some, Result, Ok, Err, reverse, refl, sym, ap, subst, ◌∙◌}
use Rattle.std.specs.Prelude.{nat_eq, nat_lt, codes}
use Rattle.std.specs.List.{list_all}
use Rattle.std.specs.Str.{bytes_eq}
use Rattle.std.proofs.lemmas.List.{reverse-reverse}
use Rattle.dt_model.specs.Names.{Name}
use Rattle.dt_model.specs.Path.{Path, path_eq}
use Rattle.dt_model.specs.Lists.{IsIn}
use Rattle.dt_model.specs.Meaning.{IsMeaning, IsPlain}
use Rattle.dt_model.specs.Event.{Stack, Event, opening, giving, definition, undefinition, deletion, defines, drops, value_at}
use Rattle.dt_model.specs.Source.{Part, Place, base, Events, Refusal, SoFar, nothing, read_all, all_bound, number_of_parts, written_number, meaning_of, IsResolved, SourceMeans}
use Rattle.dt_model.proofs.Tests.{and_left, and_right, all_at, bytes_eq_refl, path_eq_true}
use Rattle.dt_model.proofs.Cases.{then_some}
use Rattle.dt_model.proofs.Lasts.{last_each, value_by}
use Rattle.dt_model_laws.proofs.Meanings.{source_meaning, no_twice}
use Rattle.dt_model_laws.proofs.Plain.{source_plain}
use Rattle.dt_model_laws.proofs.CheckedWords.{implies, implied, each_by, same_numbers}
use Rattle.dt_model_laws.proofs.CheckedNames.{below, is_place, places_are}
use Rattle.dt_model_laws.proofs.CheckedEvents.{covers_events, value_covered}

-- the value of a definition has its references, and a `phandle` writes a number
abbrev is_resolved : Events → Event (List Part) → Bool
is_resolved es (opening p) = true
is_resolved es (giving l p) = true
is_resolved es (definition p n v) = is_some (all_bound es v) && implies (bytes_eq n (codes "phandle")) (is_some (number_of_parts v))
is_resolved es (undefinition p n) = true
is_resolved es (deletion p) = true

abbrev is_number : Option ℕ → Option ℕ → Bool
is_number None n = false
is_number (Some m) None = false
is_number (Some m) (Some n) = nat_eq m n

number_is : (m n : Option ℕ) (k : ℕ) → m ≡ Some k → n ≡ Some k → is_number m n ≡ true
number_is None n k h i = cc
number_is (Some x) None k h i = cc
number_is (Some x) (Some y) k h i = let same : x ≡ y = cc in ap (nat_eq x) (sym same) ∙ same_numbers.itself x

abbrev is_alone : Events → Path → Path → Bool
is_alone es p q = implies (is_number (written_number es (reverse p)) (written_number es (reverse q))) (path_eq p q)

-- all places are read, no body is left open, and these are the events
abbrev pub EndsWith : Events → Result SoFar Refusal → Type 0
EndsWith es (Ok s) = (s.bodies ≡ []) × (s.events ≡ es)
EndsWith es (Err refusal) = ⊥

the_end : (es : Events) (r : Result SoFar Refusal) → EndsWith es r → (s : SoFar) × (r ≡ Ok s) × (s.bodies ≡ []) × (s.events ≡ es)
the_end es (Ok s) h = (s, refl, h.0, h.1)
the_end es (Err refusal) h = absurd h

-- the events of a source's places, the paths at which they have nodes, and the names of properties and labels
pub record IsRead (places : List Place) (es : Events) (qs : List Path) (ns : List Name) : Type 0 where
  pub some : nat_lt 0 (length places) ≡ true
  pub places_valid : list_all is_place places ≡ true
  pub ended : EndsWith es (read_all base nothing places)
  pub covered : covers_events qs ns es ≡ true
  pub resolved : list_all (is_resolved es) es ≡ true
  pub alone : list_all (λ p. list_all (is_alone es p) qs) qs ≡ true

abbrev IsDefined : Events → Event (List Part) → Type 0
IsDefined es e = is_resolved es e ≡ true

module _ (es : Events) (qs : List Path) (ns : List Name) (covered : covers_events qs ns es ≡ true) (resolved : list_all (is_resolved es) es ≡ true) (alone : list_all (λ p. list_all (is_alone es p) qs) qs ≡ true) where
  value_resolved : (p : Stack) (n : Name) (v : List Part) → value_at es p n ≡ Some v → is_resolved es (definition p n v) ≡ true
  value_resolved p n v h = last_each (IsDefined es) (λ e. defines p n e || drops p n e) es (definition p n v) (each_by (is_resolved es) (IsDefined es) (λ e k. k) es resolved) (value_by es p n v h)

  number_within : (p : Stack) (k : ℕ) → written_number es p ≡ Some k → IsIn (reverse p) qs
  number_within p k h = let w = then_some number_of_parts (value_at es p (codes "phandle")) k h in (value_covered qs ns es covered p (codes "phandle") w.0 w.1).0

  are_resolved : IsResolved es
  are_resolved = record {
    bound_to = λ p n v h. and_left (is_some (all_bound es v)) (implies (bytes_eq n (codes "phandle")) (is_some (number_of_parts v))) (value_resolved p n v h);
    numbered = λ p v h.
        implied (bytes_eq (codes "phandle") (codes "phandle")) (is_some (number_of_parts v))
        (and_right (is_some (all_bound es v)) (implies (bytes_eq (codes "phandle") (codes "phandle")) (is_some (number_of_parts v))) (value_resolved p (codes "phandle") v h)) (bytes_eq_refl (codes "phandle"));
    own = λ p q n h k.
        let row = all_at (λ p. list_all (is_alone es p) qs) qs (reverse p) alone (number_within p n h) in
        no_twice p q
        (path_eq_true (reverse p) (reverse q)
        (implied (is_number (written_number es (reverse (reverse p))) (written_number es (reverse (reverse q)))) (path_eq (reverse p) (reverse q))
        (all_at (is_alone es (reverse p)) qs (reverse q) row (number_within q n k))
        (number_is (written_number es (reverse (reverse p))) (written_number es (reverse (reverse q))) n (ap (written_number es) (reverse-reverse p) ∙ h) (ap (written_number es) (reverse-reverse q) ∙ k))));
  }

module _ (places : List Place) (es : Events) (qs : List Path) (ns : List Name) (r : IsRead places es qs ns) where
  pub read_means : SourceMeans base [] places (meaning_of [] es)
  read_means =
      let last = the_end es (read_all base nothing places) r.ended in
      record {
        so_far = last.0;
        all_read = last.1;
        closed = last.2;
        resolved = subst IsResolved (sym last.3) (are_resolved es qs ns r.covered r.resolved r.alone);
        means = ap (meaning_of []) (sym last.3);
      }

  pub read_meaning : IsMeaning (meaning_of [] es)
  read_meaning = source_meaning base [] places (meaning_of [] es) (below 0 (length places) r.some) (places_are places r.places_valid) tt read_means

  pub read_plain : IsPlain (meaning_of [] es)
  read_plain = source_plain [] places (meaning_of [] es) read_means
