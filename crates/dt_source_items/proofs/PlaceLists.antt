-- The places of a source, one by one.
use Rattle.std.proofs.Common.{◌≡◌, ◌+◌, ◌∷◌, ℕ, List, Some, drop, slice_get, ap, ◌∙◌}
use Rattle.std.proofs.lemmas.List.{drop_more}
use Rattle.std.proofs.lemmas.Option.{get_or_from_slice_get, slice_get_within}
use Rattle.dt_model.specs.Source.{Place}

-- those from one on are it and those behind it
pub places_from : (places : List Place) (n : ℕ) (x : Place) → slice_get places n ≡ Some x → drop n places ≡ x ∷ drop (n + 1) places
places_from places n x is =
    drop_more places n x (slice_get_within places n x is) ∙ ap (λ (y : Place). y ∷ drop (n + 1) places) (get_or_from_slice_get places n x x is)
