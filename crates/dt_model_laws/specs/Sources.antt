-- What is true of the meanings of sources.
use Rattle.std.specs.Prelude.{◌≡◌, ℕ, ◌<◌, Bool, true, List, length, Ok}
use Rattle.std.specs.List.{AllByRecursion}
use Rattle.dt_model.specs.Names.{Name}
use Rattle.dt_model.specs.Meaning.{Meaning, IsMeaning, IsPlain}
use Rattle.dt_model.specs.Valid.{IsReservation}
use Rattle.dt_model.specs.Event.{Stack, names}
use Rattle.dt_model.specs.Lists.{AreInOrder}
use Rattle.dt_model.specs.Source.{Place, IsPlace, Mode, base, SoFar, nothing, read_all, SourceMeans}
use Rattle.dt_model.specs.Overlay.{Overlay, IsOverlay}
use Rattle.dt_model.specs.OverlaySource.{OverlayMeans}

-- what a source of some places means is a meaning
abbrev pub SourceIsMeaning : Type 0
SourceIsMeaning = (mode : Mode) (reservations : List (ℕ × ℕ)) (places : List Place) (m : Meaning)
    → 0 < length places → AllByRecursion IsPlace places → AllByRecursion IsReservation reservations → SourceMeans mode reservations places m → IsMeaning m

-- a base's has no bookkeeping nodes
abbrev pub SourceIsPlain : Type 0
SourceIsPlain = (reservations : List (ℕ × ℕ)) (places : List Place) (m : Meaning) → SourceMeans base reservations places m → IsPlain m

-- a label names one node at most
abbrev pub LabelIsOneNodes : Type 0
LabelIsOneNodes = (mode : Mode) (places : List Place) (s : SoFar) → read_all mode nothing places ≡ Ok s
    → (l : Name) (p q : Stack) → names s.events l p ≡ true → names s.events l q ≡ true → p ≡ q

-- what an overlay's source means is an overlay
abbrev pub OverlaySourceIsOverlay : Type 0
OverlaySourceIsOverlay = (places : List Place) (o : Overlay) → AllByRecursion IsPlace places → OverlayMeans places o → IsOverlay o

-- the things of a kind stand in one order
abbrev pub OrderIsOne : Type 0
OrderIsOne = (age : Name → ℕ) (is_kind : Name → Bool) (xs ys : List Name) → AreInOrder age is_kind xs → AreInOrder age is_kind ys → xs ≡ ys
