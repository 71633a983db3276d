-- The meaning of a tree into which an overlay is merged is again a meaning of a tree.
use Rattle.std.specs.Prelude.{List}
use Rattle.dt_model.specs.Meaning.{Meaning, IsMeaning, IsPlain}
use Rattle.dt_model.specs.Overlay.{Overlay, IsOverlay}
use Rattle.dt_model.specs.Merged.{Site, merged, IsDefined}

-- a meaning without bookkeeping nodes, where an overlay is merged into one
abbrev pub MergedIsMeaning : Type 0
MergedIsMeaning = (m : Meaning) (o : Overlay) (sites : List Site) → IsMeaning m → IsPlain m → IsOverlay o → IsDefined m o sites
    → IsMeaning (merged m o sites) × IsPlain (merged m o sites)
