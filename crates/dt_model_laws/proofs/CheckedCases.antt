-- A base and an object that meet what is asked of them, by their tests.
use Rattle.std.proofs.Common.{◌≡◌, true, List, [], subst}
use Rattle.dt_model.specs.Names.{Name}
use Rattle.dt_model.specs.Source.{base, SourceMeans}
use Rattle.dt_model.specs.Numbers.{paths_of}
use Rattle.dt_model.specs.Represents.{Represents}
use Rattle.dt_model.specs.Merged.{Site, IsDefined}
use Rattle.dt_model.specs.Object.{HasFixups}
use Rattle.dt_model.specs.Rows.{events, overlay_events_of, overlay_read}
use Rattle.dt_model_laws.specs.Applying.{AreOf}
use Rattle.dt_model_laws.specs.Premises.{numbering, Base, Object, base_meaning, object_overlay, MeetThem}
use Rattle.dt_model_laws.proofs.CheckedTrees.{IsChecked, checked_valid, is_small, small_within}
use Rattle.dt_model_laws.proofs.CheckedSources.{read_means, read_meaning, read_plain}
use Rattle.dt_model_laws.proofs.CheckedMeanings.{IsBase, base_represents}
use Rattle.dt_model_laws.proofs.CheckedInstances.{IsWithin}
use Rattle.dt_model_laws.proofs.CheckedOverlays.{of_overlay, IsOverlayRead, overlay_means, overlay_within, is_overlay}
use Rattle.dt_model_laws.proofs.CheckedFixups.{Groups, fixups_of, has_fixups}
use Rattle.dt_model_laws.proofs.CheckedObjects.{IsEncoded, is_encoded}
use Rattle.dt_model_laws.proofs.CheckedApplications.{IsApplicable, applicable}

-- the tests of a base, whose properties and labels have these names
pub record IsCheckedBase (b : Base) (ns : List Name) : Type 0 where
  pub base : IsBase b.places (events b.places) (paths_of b.tree) ns b.tree (numbering b.numbers)
  pub tree : IsChecked b.tree
  pub small : is_small b.tree ≡ true

-- the tests of an object with these names, and with these cells by their labels
pub record IsCheckedObject (x : Object) (ns : List Name) (groups : Groups) : Type 0 where
  pub read : IsOverlayRead x.places (overlay_events_of (overlay_read x.places)) (paths_of x.tree) ns x.fragments
  pub encoded : IsEncoded (paths_of x.tree) ns x.tree (object_overlay x) (numbering x.numbers) groups
  pub grouped : fixups_of groups ≡ x.fixups
  pub tree : IsChecked x.tree
  pub small : is_small x.tree ≡ true

module _ (b : Base) (ns : List Name) (h : IsCheckedBase b ns) where
  pub base_means : SourceMeans base [] b.places (base_meaning b)
  base_means = read_means b.places (events b.places) (paths_of b.tree) ns h.base.read

  pub base_is : Represents b.tree (base_meaning b) (numbering b.numbers)
  base_is = base_represents b.places (events b.places) (paths_of b.tree) ns b.tree (numbering b.numbers) h.base

module _ (x : Object) (ns : List Name) (groups : Groups) (k : IsCheckedObject x ns groups) where
  within : IsWithin (paths_of x.tree) ns (of_overlay (object_overlay x))
  within = overlay_within x.places (overlay_events_of (overlay_read x.places)) (paths_of x.tree) ns x.fragments k.read

  pub object_defined : (b : Base) (sites : List Site) → IsApplicable (paths_of x.tree) ns (base_meaning b) (object_overlay x) sites → IsDefined (base_meaning b) (object_overlay x) sites
  object_defined b sites a = applicable (paths_of x.tree) ns (base_meaning b) (object_overlay x) sites within a

  are_of : (b : Base) (names : List Name) → IsCheckedBase b names → AreOf b.tree x.tree (base_meaning b) (object_overlay x) (numbering b.numbers) (numbering x.numbers)
  are_of b names h = record {
    represented = base_is b names h;
    encoded = is_encoded (paths_of x.tree) ns x.tree (object_overlay x) (numbering x.numbers) groups within k.encoded;
    meaning = read_meaning b.places (events b.places) (paths_of b.tree) names h.base.read;
    plain = read_plain b.places (events b.places) (paths_of b.tree) names h.base.read;
    overlay = is_overlay x.places (overlay_events_of (overlay_read x.places)) (paths_of x.tree) ns x.fragments k.read;
    valid_base = checked_valid b.tree h.tree;
    valid_object = checked_valid x.tree k.tree;
    few_in_base = small_within b.tree h.small;
    few_in_object = small_within x.tree k.small;
  }

  pub meet_them : (b : Base) (names : List Name) → IsCheckedBase b names → MeetThem b x
  meet_them b names h = record {
    base_source = base_means b names h;
    source = overlay_means x.places (overlay_events_of (overlay_read x.places)) (paths_of x.tree) ns x.fragments k.read;
    are_of = are_of b names h;
    fixups = subst (HasFixups x.tree) k.grouped (has_fixups x.tree groups k.encoded.fixups_text k.encoded.fixups_named);
  }
