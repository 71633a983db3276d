-- A named tree that a base's places mean, by tests at finitely many paths and names.
use Rattle.std.proofs.Common.{◌≡◌, List, [], map, Result, Ok, reverse, refl, sym, subst, ◌∙◌}
use Rattle.std.specs.Option.{option_and_then}
use Rattle.dt_model.specs.Names.{Name}
use Rattle.dt_model.specs.Path.{Path}
use Rattle.dt_model.specs.Meaning.{item_renamed}
use Rattle.dt_model.specs.Event.{value_at}
use Rattle.dt_model.specs.Source.{Place, base, SoFar, nothing, read_all, all_bound, meaning_of, IsResolved, SourceMeans}
use Rattle.dt_model.specs.Named.{NodeReference, Named}
use Rattle.dt_model.specs.Overlay.{inside}
use Rattle.dt_model.specs.NamedOf.{bound_values, IsNamedOf}
use Rattle.dt_model.proofs.Cases.{map_some, then_some}
use Rattle.dt_model_laws.proofs.CheckedNamedBy.{AreDefined, IsCheckedBy, checked_by}
use Rattle.dt_model_laws.proofs.CheckedSources.{IsRead, read_means}

-- what was read of the places, and the tests
pub record IsCheckedNamed (places : List Place) (s : SoFar) (qs : List Path) (ns : List Name) (t : Named NodeReference) : Type 0 where
  pub all_read : read_all base nothing places ≡ Ok s
  pub closed : s.bodies ≡ []
  pub is_read : IsRead places s.events qs ns
  pub reservations : t.reservations ≡ []
  pub tree : IsCheckedBy s.events (bound_values s.events) qs ns t

module _ (places : List Place) (s : SoFar) (qs : List Path) (ns : List Name) (t : Named NodeReference) (h : IsCheckedNamed places s qs ns t) where
  resolved : IsResolved s.events
  resolved =
      let m = read_means places s.events qs ns h.is_read in
      let e : ◌≡◌ {A = Result SoFar _} (Ok m.so_far) (Ok s) = sym m.all_read ∙ h.all_read in
      let same : m.so_far ≡ s = cc in
      subst (λ (u : SoFar). IsResolved u.events) same m.resolved

  abbrev means : SourceMeans base [] places (meaning_of [] s.events)
  means = record { so_far = s; all_read = h.all_read; closed = h.closed; resolved = resolved; means = refl }

  defined : AreDefined s.events (bound_values s.events)
  defined p x items k =
      let b = map_some (map (item_renamed inside)) (option_and_then (all_bound s.events) (value_at s.events (reverse p) x)) items k in
      let w = then_some (all_bound s.events) (value_at s.events (reverse p) x) b.0 b.1 in
      (w.0, w.1)

  pub checked_named : IsNamedOf base [] places t
  checked_named = record {
    meaning = meaning_of [] s.events;
    means = means;
    same_reservations = h.reservations;
    tree = checked_by s.events (bound_values s.events) defined qs ns h.is_read.covered t h.tree;
  }
