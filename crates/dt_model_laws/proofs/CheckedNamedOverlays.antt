-- A named tree that an overlay's places mean, by tests at finitely many paths and names.
use Rattle.std.proofs.Common.{◌≡◌, List, [], None, Ok, reverse, subst}
use Rattle.std.specs.List.{flat_map}
use Rattle.dt_model.specs.Names.{Name}
use Rattle.dt_model.specs.Path.{Path}
use Rattle.dt_model.specs.Event.{value_at}
use Rattle.dt_model.specs.Source.{Place, Events}
use Rattle.dt_model.specs.Overlay.{Fragment}
use Rattle.dt_model.specs.OverlaySource.{OverlaySoFar, root_children, overlay_start, read_overlays, overlay_items, overlay_of, OverlayMeans}
use Rattle.dt_model.specs.Named.{NodeReference, Named, paths_of}
use Rattle.dt_model.specs.NamedOf.{IsNamedBy}
use Rattle.dt_model.specs.NamedOverlay.{NamedFragment, AreFragmentsOf, IsNamedOverlayOf}
use Rattle.dt_model.proofs.Cases.{map_some}
use Rattle.dt_model_laws.proofs.CheckedNamedBy.{Values, AreDefined, IsCheckedBy, checked_by}
use Rattle.dt_model_laws.proofs.CheckedOverlays.{IsOverlayRead, overlay_means}
use Rattle.dt_model_laws.proofs.OneOverlay.{one_end}

-- what was read of the places, and the tests
pub record IsCheckedNamedOverlay (places : List Place) (s : OverlaySoFar) (qs : List Path) (ns : List Name) (fs : List Fragment) (t : Named NodeReference) (fragments : List NamedFragment) : Type 0 where
  pub all_read : read_overlays (root_children None places) overlay_start places ≡ Ok s
  pub is_read : IsOverlayRead places s.source.events qs ns fs
  pub reservations : t.reservations ≡ []
  pub tree : IsCheckedBy s.source.events (overlay_of s.source.events fs).value qs ns t
  pub fragments_are : AreFragmentsOf (paths_of t) fragments fs

pub checked_overlay : (places : List Place) (s : OverlaySoFar) (qs : List Path) (ns : List Name) (fs : List Fragment) (t : Named NodeReference) (fragments : List NamedFragment)
    → IsCheckedNamedOverlay places s qs ns fs t fragments → IsNamedOverlayOf places t fragments
checked_overlay places s qs ns fs t fragments h =
    let es : Events = s.source.events in
    let value : Values = (overlay_of es fs).value in
    let m : OverlayMeans places (overlay_of es fs) = overlay_means places es qs ns fs h.is_read in
    let end : s ≡ m.so_far = one_end s m.so_far h.all_read m.all_read in
    let defined : AreDefined es value = (λ p x items k. let w = map_some (flat_map (overlay_items es)) (value_at es (reverse p) x) items k in (w.0, w.1)) in
    record {
      overlay = overlay_of es fs;
      means = m;
      no_reservations = h.reservations;
      tree = subst (λ (u : OverlaySoFar). IsNamedBy u.source.events value t) end (checked_by es value defined qs ns h.is_read.covered t h.tree);
      fragments_are = h.fragments_are;
    }
