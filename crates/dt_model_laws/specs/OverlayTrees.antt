-- What is true of what overlays' sources mean, of the trees that they are compiled to, and of their refusals.
use Rattle.std.specs.Prelude.{◌≡◌, ◌+◌, ◌<◌, ◌≤◌, true, List, [], length, None, Ok, Err}
use Rattle.std.specs.List.{AllByRecursion}
use Rattle.dt_model.specs.Limits.{most_names, most_nodes}
use Rattle.dt_model.specs.Event.{Stack, stands}
use Rattle.dt_model.specs.Source.{Place, IsPlace, misplaced}
use Rattle.dt_model.specs.Nested.{AreNested}
use Rattle.dt_model.specs.Overlay.{Overlay}
use Rattle.dt_model.specs.OverlaySource.{OverlaySoFar, as_any, root_children, overlay_start, read_overlays, OverlayMeans}
use Rattle.dt_model.specs.Tree.{Reading}
use Rattle.dt_model.specs.Valid.{IsValid, node_count}
use Rattle.dt_model.specs.Named as named
use Rattle.dt_model.specs.Named.{NodeReference, Named}
use Rattle.dt_model.specs.NamedOf.{IsNamed}
use Rattle.dt_model.specs.NamedOverlay.{NamedFragment, IsNamedOverlayOf}
use Rattle.dt_model.specs.Fixups.{IsObjectOf}
use Rattle.dt_model.specs.Refused.{StandMany, OverlaySourceRefusal, too_many, IsOverlayRefusedFor}

-- the places of an overlay's source mean one overlay
abbrev pub OneOverlay : Type 0
OneOverlay = (places : List Place) (o q : Overlay) → OverlayMeans places o → OverlayMeans places q → o ≡ q

-- places that are well nested are never refused as misplaced
abbrev pub OverlayIsPlaced : Type 0
OverlayIsPlaced = (places : List Place) → AreNested 0 places → read_overlays (root_children None places) overlay_start places ≡ Err (as_any misplaced) → ⊥

-- and where all of them are read no body is left open
abbrev pub OverlayIsClosed : Type 0
OverlayIsClosed = (places : List Place) (s : OverlaySoFar) → AreNested 0 places → read_overlays (root_children None places) overlay_start places ≡ Ok s
    → s.source.bodies ≡ []

-- no node has more than 64 names in its path
abbrev pub OverlayNodesAreShallow : Type 0
OverlayNodesAreShallow = (places : List Place) (s : OverlaySoFar) → read_overlays (root_children None places) overlay_start places ≡ Ok s
    → (p : Stack) → stands s.source.events p ≡ true → length p ≤ most_names

-- there is a root
abbrev pub OverlayRootStands : Type 0
OverlayRootStands = (places : List Place) (s : OverlaySoFar) → read_overlays (root_children None places) overlay_start places ≡ Ok s
    → stands s.source.events [] ≡ true

-- they are refused for one reason
abbrev pub OverlayRefusalIsOne : Type 0
OverlayRefusalIsOne = (places : List Place) (r q : OverlaySourceRefusal) → IsOverlayRefusedFor places r → IsOverlayRefusedFor places q → r ≡ q

-- and for nothing but the number of their nodes where they mean something
abbrev pub OverlayIsNotRefused : Type 0
OverlayIsNotRefused = (places : List Place) (o : Overlay) (r : OverlaySourceRefusal) → OverlayMeans places o → IsOverlayRefusedFor places r → r ≡ too_many

-- a named tree that they mean is one that a source may mean, where it isn't too large
abbrev pub OverlayIsNamed : Type 0
OverlayIsNamed = (places : List Place) (t : Named NodeReference) (fragments : List NamedFragment)
    → AllByRecursion IsPlace places → 1 + named.node_count t.children ≤ most_nodes → IsNamedOverlayOf places t fragments → IsNamed t

-- where it is too large, too many nodes stand
abbrev pub OverlayManyStand : Type 0
OverlayManyStand = (places : List Place) (t : Named NodeReference) (fragments : List NamedFragment)
    → most_nodes < 1 + named.node_count t.children → (n : IsNamedOverlayOf places t fragments) → StandMany most_nodes n.means.so_far.source.events

-- and where it isn't, they aren't refused
abbrev pub NamedOverlayIsNotRefused : Type 0
NamedOverlayIsNotRefused = (places : List Place) (t : Named NodeReference) (fragments : List NamedFragment) (r : OverlaySourceRefusal)
    → IsNamedOverlayOf places t fragments → 1 + named.node_count t.children ≤ most_nodes → IsOverlayRefusedFor places r → ⊥

-- they mean one named tree, with one list of fragments
abbrev pub OneNamedOverlay : Type 0
OneNamedOverlay = (places : List Place) (t u : Named NodeReference) (fragments others : List NamedFragment)
    → IsNamedOverlayOf places t fragments → IsNamedOverlayOf places u others → (t ≡ u) × (fragments ≡ others)

-- they are compiled to one tree
abbrev pub OneObject : Type 0
OneObject = (places : List Place) (t u : Reading) → IsObjectOf places t → IsObjectOf places u → t ≡ u

-- with no more nodes than a blob may have they aren't refused,
abbrev pub ObjectIsNotRefused : Type 0
ObjectIsNotRefused = (places : List Place) (t : Reading) (r : OverlaySourceRefusal)
    → IsObjectOf places t → 1 + node_count t.children ≤ most_nodes → IsOverlayRefusedFor places r → ⊥

-- a blob may hold the tree
abbrev pub ObjectIsValid : Type 0
ObjectIsValid = (places : List Place) (t : Reading)
    → AllByRecursion IsPlace places → IsObjectOf places t → 1 + node_count t.children ≤ most_nodes → IsValid t
