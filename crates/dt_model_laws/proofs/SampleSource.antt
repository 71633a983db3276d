-- A small source has a meaning.
use Rattle.std.proofs.Common.{◌≡◌, ℕ, Bool, true, not, ◌||◌, is_some, List, [], ◌∷◌, Option, Some, Result, Ok, Err, codes, refl, sym, subst, ◌∙◌}
use Rattle.std.specs.List.{list_all}
use Rattle.std.specs.Str.{bytes_eq}
use Rattle.dt_model.specs.Names.{Name}
use Rattle.dt_model.specs.Path.{path_eq}
use Rattle.dt_model.specs.Meaning.{Meaning}
use Rattle.dt_model.specs.Event.{Stack, Event, opening, giving, definition, undefinition, deletion, defines, drops, value_at}
use Rattle.dt_model.specs.Source.{Part, Refusal, Events, SoFar, base, nothing, read_all, all_bound, number_of_parts, written_number, meaning_of, IsResolved}
use Rattle.dt_model.proofs.EventSteps.{path_eq-is}
use Rattle.dt_model_laws.specs.SampleSources.{sample_source, IsSampleMeaning}
use Rattle.dt_model.proofs.Cases.{then_some, all_pass}
use Rattle.dt_model.proofs.Lasts.{last_each, value_by}

-- a test of the definitions
abbrev pub on_definition : (Stack → Name → List Part → Bool) → Event (List Part) → Bool
on_definition test (opening q) = true
on_definition test (giving l q) = true
on_definition test (definition q n v) = test q n v
on_definition test (undefinition q n) = true
on_definition test (deletion q) = true

-- what all definitions pass, the one of a value that is left passes
pub left_passes : (es : Events) (test : Stack → Name → List Part → Bool) → list_all (on_definition test) es ≡ true → (p : Stack) (n : Name) (v : List Part) → value_at es p n ≡ Some v → test p n v ≡ true
left_passes es test h p n v e =
    last_each (λ d. on_definition test d ≡ true) (λ d. defines p n d || drops p n d) es (definition p n v) (all_pass (on_definition test) es h) (value_by es p n v e)

abbrev read_or_nothing : Result SoFar Refusal → SoFar
read_or_nothing (Ok s) = s
read_or_nothing (Err e) = nothing

abbrev after : SoFar
after = read_or_nothing (read_all base nothing sample_source)

bound_to : (p : Stack) (n : Name) (v : List Part) → value_at after.events p n ≡ Some v → is_some (all_bound after.events v) ≡ true
bound_to p n v e =
    let t = left_passes after.events (λ q m w. not (is_some (value_at after.events q m)) || is_some (all_bound after.events w)) refl p n v e in
    subst (λ (o : Option (List Part)). (not (is_some o) || is_some (all_bound after.events v)) ≡ true) e t

numbered : (p : Stack) (v : List Part) → value_at after.events p (codes "phandle") ≡ Some v → is_some (number_of_parts v) ≡ true
numbered p v e = left_passes after.events (λ q m w. not (bytes_eq m (codes "phandle")) || is_some (number_of_parts w)) refl p (codes "phandle") v e

numbered_node : (p : Stack) (n : ℕ) → written_number after.events p ≡ Some n → p ≡ codes "a" ∷ []
numbered_node p n e =
    let w = then_some number_of_parts (value_at after.events p (codes "phandle")) n e in
    path_eq-is p (codes "a" ∷ []) (left_passes after.events (λ q m w. not (bytes_eq m (codes "phandle")) || path_eq q (codes "a" ∷ [])) refl p (codes "phandle") w.0 w.1)

resolved : IsResolved after.events
resolved = record {
  bound_to = bound_to;
  numbered = numbered;
  own = λ p q n h k. numbered_node p n h ∙ sym (numbered_node q n k);
}

pub sample_means : (m : Meaning) × IsSampleMeaning m
sample_means = (
  meaning_of [] after.events,
  record {
    means = record { so_far = after; all_read = refl; closed = refl; resolved = resolved; means = refl };
    there = refl;
    gone = refl;
    number = refl;
    reference_kept = refl;
    text = refl;
    labelled = refl;
    keyed = refl;
    unkeyed = refl;
  },
)
