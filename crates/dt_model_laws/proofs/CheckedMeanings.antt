-- A tree that stands for what a base's source means, by tests.
use Rattle.std.proofs.Common.{◌≡◌, ℕ, Bool, true, List, [], Option, Some, None, reverse, ◌∙◌}
use Rattle.std.specs.Prelude.{nat_eq, codes}
use Rattle.std.specs.List.{list_all}
use Rattle.std.specs.Option.{option_and_then}
use Rattle.std.specs.Str.{bytes_eq}
use Rattle.dt_model.specs.Names.{Name}
use Rattle.dt_model.specs.Path.{Path}
use Rattle.dt_model.specs.Meaning.{Meaning, IsMeaning}
use Rattle.dt_model.specs.Event.{value_at}
use Rattle.dt_model.specs.Source.{Place, Events, labelled, all_bound, meaning_of}
use Rattle.dt_model.specs.Tree.{Reading}
use Rattle.dt_model.specs.Represents.{Represents}
use Rattle.dt_model.proofs.Tests.{all_at}
use Rattle.dt_model.proofs.Cases.{cond_none, map_some, then_some}
use Rattle.dt_model_laws.proofs.CheckedWords.{number_same}
use Rattle.dt_model_laws.proofs.CheckedEvents.{covers_events, node_covered, value_covered, label_covered, turned_back}
use Rattle.dt_model_laws.proofs.CheckedNumbers.{low_number, high_number, own_number}
use Rattle.dt_model_laws.proofs.CheckedInstances.{Contents, IsWithin, IsHeld, same_nodes, same_values, same_symbols}
use Rattle.dt_model_laws.proofs.CheckedSources.{IsRead, read_meaning}

abbrev pub of_meaning : Meaning → Contents Path
of_meaning m = record { stands = m.stands; value = m.value; label = m.label; keyed = m.keyed }

meaning_within : (es : Events) (qs : List Path) (ns : List Name) → covers_events qs ns es ≡ true → IsMeaning (meaning_of [] es) → IsWithin qs ns (of_meaning (meaning_of [] es))
meaning_within es qs ns h m = record {
  nodes = λ p k. turned_back p qs (node_covered qs ns es h (reverse p) k);
  keyed = λ p k. turned_back p qs (node_covered qs ns es h (reverse p) (m.keyed_stand p k));
  values = λ p n items k.
      let v = cond_none (bytes_eq n (codes "phandle")) (option_and_then (all_bound es) (value_at es (reverse p) n)) items k in
      let w = then_some (all_bound es) (value_at es (reverse p) n) items v.1 in
      let c = value_covered qs ns es h (reverse p) n w.0 w.1 in
      (turned_back p qs c.0, c.1);
  labels = λ l p k. let w = map_some reverse (labelled es l) p k in label_covered qs ns es h l w.0 w.1;
}

-- a written number is the node's
abbrev option_is : Option ℕ → ℕ → Bool
option_is None k = true
option_is (Some n) k = nat_eq k n

abbrev is_kept : Meaning → (Path → ℕ) → Path → Bool
is_kept m number p = option_is (m.number p) (number p)

option_same : (o : Option ℕ) (k n : ℕ) → option_is o k ≡ true → o ≡ Some n → k ≡ n
option_same None k n h e = cc
option_same (Some m) k n h e = let same : m ≡ n = cc in number_same k m h ∙ same

-- the tests of a base
pub record IsBase (places : List Place) (es : Events) (qs : List Path) (ns : List Name) (t : Reading) (number : Path → ℕ) : Type 0 where
  pub read : IsRead places es qs ns
  pub held : IsHeld qs ns t (of_meaning (meaning_of [] es)) number number
  pub written : list_all (is_kept (meaning_of [] es) number) qs ≡ true
  pub reservations : t.reservations ≡ []

pub base_represents : (places : List Place) (es : Events) (qs : List Path) (ns : List Name) (t : Reading) (number : Path → ℕ) → IsBase places es qs ns t number → Represents t (meaning_of [] es) number
base_represents places es qs ns t number b =
    let m : Meaning = meaning_of [] es in
    let c : Contents Path = of_meaning m in
    let is : IsMeaning m = read_meaning places es qs ns b.read in
    let within : IsWithin qs ns c = meaning_within es qs ns b.read.covered is in
    record {
      naming = record {
        low = low_number qs m.keyed number within.keyed b.held.numbers;
        high = high_number qs m.keyed number within.keyed b.held.numbers;
        own = own_number qs m.keyed number within.keyed b.held.numbers;
        written = λ p n k. option_same (m.number p) (number p) n (all_at (is_kept m number) qs p b.written (within.keyed p (is.numbered p n k).0)) k;
      };
      reservations = b.reservations;
      nodes = same_nodes qs ns t c number number within b.held;
      values = same_values qs ns t c number number within b.held;
      symbols = same_symbols qs ns t c number number within b.held;
    }
