-- Why a source means nothing that is within the limits, in the order in which it is reported.
use Rattle.std.specs.Prelude.{◌≡◌, ℕ, ◌<◌, true, List, length, reverse, None, Ok, Err}
use Rattle.std.specs.List.{AllByRecursion}
use Rattle.dt_model.specs.Limits.{most_nodes}
use Rattle.dt_model.specs.Path.{Path}
use Rattle.dt_model.specs.Event.{stands}
use Rattle.dt_model.specs.Source.{Events, Place, Mode, Refusal, nothing, read_all, SoFar, LateRefusal, IsLateRefusal, IsResolved}
use Rattle.dt_model.specs.Overlay.{Overlay}
use Rattle.dt_model.specs.OverlaySource.{OverlayRefusal, LateOverlayRefusal, OverlaySoFar, root_children, overlay_start, read_overlays, OverlayMeans, IsLateOverlayRefusal}
use Rattle.dt_model.specs.Valid.{AreDistinct}

-- more than so many nodes stand after the events
pub record StandMany (limit : ℕ) (es : Events) : Type 0 where
  pub paths : List Path
  pub distinct : AreDistinct paths
  pub standing : AllByRecursion (λ p. stands es (reverse p) ≡ true) paths
  pub many : limit < length paths

-- P says why a place is refused, and L what is wrong after the last place
pub data RefusalBy (P L : Type 0) : Type 0 where
  -- the first place that is refused
  at_place : P → RefusalBy P L
  -- all places are read, but what is left isn't as it has to be
  at_end : L → RefusalBy P L
  -- all is as it has to be, but there are more than 65,536 nodes
  too_many : RefusalBy P L

abbrev pub SourceRefusal : Type 0
SourceRefusal = RefusalBy Refusal LateRefusal

abbrev pub OverlaySourceRefusal : Type 0
OverlaySourceRefusal = RefusalBy OverlayRefusal LateOverlayRefusal

-- the places of a source are refused for this
abbrev pub IsRefusedFor : Mode → List Place → SourceRefusal → Type 0
IsRefusedFor mode places (at_place r) = read_all mode nothing places ≡ Err r
IsRefusedFor mode places (at_end r) = (s : SoFar) × (read_all mode nothing places ≡ Ok s) × IsLateRefusal s.events r
IsRefusedFor mode places too_many =
    (s : SoFar) × (read_all mode nothing places ≡ Ok s) × IsResolved s.events × StandMany most_nodes s.events

-- the same of the places of an overlay's source
abbrev pub IsOverlayRefusedFor : List Place → OverlaySourceRefusal → Type 0
IsOverlayRefusedFor places (at_place r) = read_overlays (root_children None places) overlay_start places ≡ Err r
IsOverlayRefusedFor places (at_end r) =
    (s : OverlaySoFar) × (read_overlays (root_children None places) overlay_start places ≡ Ok s) × IsLateOverlayRefusal s.source.events r
IsOverlayRefusedFor places too_many = (o : Overlay) × (means : OverlayMeans places o) × StandMany most_nodes means.so_far.source.events
