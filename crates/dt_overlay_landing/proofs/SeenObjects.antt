-- What follows of an object from what it is seen as.
use Rattle.std.proofs.Common.{◌≡◌, List, [], sym, ap, subst, ◌∙◌}
use Rattle.std.specs.List.{AllByRecursion}
use Rattle.dt_model.specs.Path.{Path}
use Rattle.dt_model.specs.Tree.{Reading}
use Rattle.dt_model.specs.Valid.{IsValid}
use Rattle.dt_model.specs.Merged.{Site}
use Rattle.dt_model.specs.Object.{fragment_names}
use Rattle.dt_overlay_laws.specs.Laws.{AreShallow}
use Rattle.dt_overlay_laws.specs.Steps.{land_fragments, MayLandFragments, FullAtFragments}
use Rattle.dt_overlay_object.specs.Objects.{Seen, IsSeenIn, IsToLandOn, writes_of}
use Rattle.dt_overlay_object.specs.declared.object.Object.{Object}
use Rattle.dt_overlay_object.specs.declared.kept.Write.{Write as KeptWrite}
use Rattle.dt_overlay_object.specs.Plans.{AreFragmentsOf, AreWritesOf}
use Rattle.dt_overlay_landing.specs.Landed.{landed_with, land_each, MayLandEach, FullAtEach}
use Rattle.dt_overlay_landing.specs.SymbolLanding.{AreToLand}
use Rattle.dt_overlay_landing.specs.Values.{Kept, AreKept, MayWriteAll}
use Rattle.dt_overlay_landing.proofs.CarriedLandings.{contents_there, each_landed, each_may, each_stuck, site_names}
use Rattle.dt_overlay_landing.proofs.ValuesKept.{kept_begun}
use Rattle.dt_trees.specs.Placed.{PlacedTree, reading_of, HasPlacesApart, IsNode}

module _ {V : Type 0} (tree : V → PlacedTree) (o : Object V) (s : Seen) (is : IsSeenIn (tree o.tree.now) o s) (apart : HasPlacesApart (tree o.tree.now)) (valid : IsValid (reading_of (tree o.tree.now))) where
  abbrev t : PlacedTree
  t = tree o.tree.now

  -- the nodes that its fragments bring are there
  pub nodes_there : AllByRecursion (λ x. IsNode t x.content) o.fragments.items
  nodes_there = contents_there t apart o.fragments.items (fragment_names (reading_of t).children) is.fragments

  -- the numbers of its own nodes may be written, and then those of labels
  pub own_may : (vs : List Kept) (ws : List KeptWrite) → vs ≡ [] → ws ≡ o.own_writes.items → MayWriteAll t vs [] ws s.own
  own_may vs ws none e = record { kept = kept_begun t vs none; are = subst (λ (xs : List KeptWrite). AreWritesOf t xs s.own) (sym e) is.own; cells = is.own_there }

  pub labels_may : (vs : List Kept) (ws : List KeptWrite) → AreKept t vs s.own → ws ≡ o.label_writes.items → MayWriteAll t vs s.own ws s.labels
  labels_may vs ws kept e = record { kept = kept; are = subst (λ (xs : List KeptWrite). AreWritesOf t xs s.labels) (sym e) is.labels; cells = is.labels_there }

  module _ (found : List Site) (sites : List Path) (on : IsToLandOn tree o s found sites) where
    named : site_names found ≡ fragment_names (reading_of t).children
    named = on.named ∙ ap (λ (r : Reading). fragment_names r.children) (sym is.reads)

    listed : AreFragmentsOf t o.fragments.items (site_names found)
    listed = subst (AreFragmentsOf t o.fragments.items) (sym named) is.fragments

    module _ (vs : List Kept) (kept : AreKept t vs (writes_of s)) where
      -- landing by the tables is landing by what is seen
      pub landed_is : (r : Reading) → land_each (landed_with tree o vs) o.fragments.items sites r ≡ land_fragments r s.reading (writes_of s) s.numbers found
      landed_is r =
          ap (λ (qs : List Path). land_each (landed_with tree o vs) o.fragments.items qs r) on.at
          ∙ each_landed t apart valid o.brought.numbers.entries vs (writes_of s) s.numbers is.brought.numbered kept o.fragments.items found listed r
          ∙ ap (λ (x : Reading). land_fragments r x (writes_of s) s.numbers found) is.reads

      pub may_land : (r : Reading) → MayLandFragments r s.reading (writes_of s) s.numbers found → MayLandEach (landed_with tree o vs) o.fragments.items sites r
      may_land r may =
          subst (λ (qs : List Path). MayLandEach (landed_with tree o vs) o.fragments.items qs r) (sym on.at)
          (each_may t apart valid o.brought.numbers.entries vs (writes_of s) s.numbers is.brought.numbered kept o.fragments.items found listed r
          (subst (λ (x : Reading). MayLandFragments r x (writes_of s) s.numbers found) (sym is.reads) may))

      pub landing_stuck : (full : Reading → Reading → Type 0) (r : Reading) → FullAtEach full (landed_with tree o vs) o.fragments.items sites r → FullAtFragments full r s.reading (writes_of s) s.numbers found
      landing_stuck full r h =
          subst (λ (x : Reading). FullAtFragments full r x (writes_of s) s.numbers found) is.reads
          (each_stuck t apart valid o.brought.numbers.entries vs (writes_of s) s.numbers is.brought.numbered kept full o.fragments.items found listed r
          (subst (λ (qs : List Path). FullAtEach full (landed_with tree o vs) o.fragments.items qs r) on.at h))

    -- its labels may be set
    pub to_land : AreShallow s.reading found → AreToLand t o.brought sites found o.symbols.items
    to_land shallow = record {
      all = record {
        contents = is.brought.contents;
        named = named;
        sited = on.at;
        shallow = subst (λ (r : Reading). AreShallow r found) (sym is.reads) shallow;
      };
      symbols = is.symbols;
    }
