-- The values that stand after an overlay's source are of bytes and of references by labels in cell lists.
use Rattle.std.proofs.Common.{◌≡◌, Bool, true, false, not, List, [], ◌∷◌, refl, None}
use Rattle.std.specs.List.{AllByRecursion, list_any}
use Rattle.dt_model.specs.OverlaySource.{root_children, overlay_start, is_overlay_part}
use Rattle.dt_model.specs.Source.{Part, IsPart}
use Rattle.dt_model_laws.specs.OverlayChecks.{OverlayValuesArePlain}
use Rattle.dt_model.proofs.Cases.{neither}
use Rattle.dt_model_laws.proofs.Holding.{value_follows}
use Rattle.dt_model_laws.proofs.OverlayHolding.{overlay_rules, holds-overlay_start, holds-overlay}
use Rattle.dt_model_laws.proofs.OverlayParts.{AreOverlayParts, parts_left}

not_other : (b : Bool) → not b ≡ false → b ≡ true
not_other true e = refl
not_other false e = cc

each_both : (v : List Part) → AllByRecursion IsPart v → AreOverlayParts v → AllByRecursion (λ (y : Part). IsPart y × (is_overlay_part y ≡ true)) v
each_both [] h e = tt
each_both (x ∷ v) h e =
    let w = neither (not (is_overlay_part x)) (list_any (λ y. not (is_overlay_part y)) v) e in
    ((h.0, not_other (is_overlay_part x) w.0), each_both v h.1 w.1)

pub overlay_values_are_plain : OverlayValuesArePlain
overlay_values_are_plain places s valid e p x v k =
    let holds = holds-overlay (root_children None places) overlay_start s places holds-overlay_start valid e in
    each_both v (value_follows overlay_rules s.source.events p x v holds.each k).1 (parts_left (root_children None places) s places e p x v k)
