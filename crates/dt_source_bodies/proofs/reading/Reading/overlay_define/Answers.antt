use Rattle.std.proofs.Common.{◌≡◌, ◌+◌, Bool, true, false, not, codes, refl, sym, ap, ◌∙◌}
use Rattle.std.specs.List.{list_any}
use Rattle.std.specs.Str.{bytes_eq}
use Rattle.dt_model.specs.Names.{Name}
use Rattle.dt_model.specs.Source.{base, property}
use Rattle.dt_model.specs.OverlaySource.{is_overlay_part}
use Rattle.dt_source_items.specs.Said.{value_said}
use Rattle.dt_source_bodies.proofs.OverlaySteps.{step_result, plain_property}
use Rattle.dt_source_bodies.proofs.reading.Reading.overlay_define.Goals as goal

not_true : (b : Bool) → true ≡ not b → b ≡ false
not_true true e = cc
not_true false e = refl

pub returns-clause-meaning : goal.returns-clause-meaning
returns-clause-meaning c = λ written s h.
    let x = c.args.name.now in
    let v = value_said c.args.value in
    let own : bytes_eq x (codes "phandle") ≡ false = ap (λ (y : Name). bytes_eq x y) (sym c.as_slice.ensures) ∙ sym c.if-eq.ensures in
    let fine : list_any (λ y. not (is_overlay_part y)) v ≡ false = not_true (list_any (λ y. not (is_overlay_part y)) v) c.if-not-is_overlay_value.ensures in
    step_result written s (property x v) (property x v) c.define.new.self (c.args.item + 1) c.define.result refl (plain_property written s x v own fine) (c.define.ensures.meaning base s.source h)
