-- The named tree and the fragments that an overlay's source means (dtc's notes on overlay objects).
use Rattle.std.specs.Prelude.{◌≡◌, ℕ, ◌<◌, List, [], ◌∷◌, length}
use Rattle.dt_model.specs.Path.{Path, path_text}
use Rattle.dt_model.specs.Overlay.{reference_renamed, Target, at_reference, at_path, Fragment, Overlay}
use Rattle.dt_model.specs.OverlaySource.{OverlayMeans}
use Rattle.dt_model.specs.Source.{Place}
use Rattle.dt_model.specs.Named.{NodeReference, Named, paths_of}
use Rattle.dt_model.specs.NamedOf.{path_among, IsBelow, IsNamedBy}

-- what a fragment names as its target: by a reference, or by the text of a path
pub data NamedTarget : Type 0 where
  to_reference : NodeReference → NamedTarget
  to_text : List ℕ → NamedTarget

-- a fragment by the number of its node, a child of the root
pub record NamedFragment : Type 0 where
  pub node : ℕ
  pub target : NamedTarget

-- among nodes of these paths the target is this one
abbrev pub IsTargetOf : List Path → NamedTarget → Target → Type 0
IsTargetOf paths (to_reference r) (at_reference q) = IsBelow (length paths) r × (reference_renamed (path_among paths) r ≡ q)
IsTargetOf paths (to_reference r) (at_path p) = ⊥
IsTargetOf paths (to_text text) (at_reference q) = ⊥
IsTargetOf paths (to_text text) (at_path p) = text ≡ path_text p

-- among nodes of these paths the fragments are these
abbrev pub AreFragmentsOf : List Path → List NamedFragment → List Fragment → Type 0
AreFragmentsOf paths [] [] = Unit {0}
AreFragmentsOf paths [] (g ∷ gs) = ⊥
AreFragmentsOf paths (f ∷ fs) [] = ⊥
AreFragmentsOf paths (f ∷ fs) (g ∷ gs) =
    (f.node < length paths) × (path_among paths f.node ≡ g.name ∷ []) × IsTargetOf paths f.target g.target × AreFragmentsOf paths fs gs

-- the places of an overlay's source mean this tree, with these fragments
pub record IsNamedOverlayOf (places : List Place) (t : Named NodeReference) (fragments : List NamedFragment) : Type 0 where
  pub overlay : Overlay
  pub means : OverlayMeans places overlay
  pub no_reservations : t.reservations ≡ []
  pub tree : IsNamedBy means.so_far.source.events overlay.value t
  pub fragments_are : AreFragmentsOf (paths_of t) fragments overlay.fragments
