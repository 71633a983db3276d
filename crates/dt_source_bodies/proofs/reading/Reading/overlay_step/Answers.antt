use Rattle.std.proofs.Common.{◌+◌, refl, sym, ap, ◌∙◌}
use Rattle.dt_model.specs.Names.{Name}
use Rattle.dt_model.specs.Source.{base, root, child, label, close}
use Rattle.dt_source_items.specs.Said.{place_said}
use Rattle.dt_source_bodies.proofs.OverlaySteps.{step_result}
use Rattle.dt_source_bodies.proofs.reading.Reading.overlay_step.Goals as goal

pub returns-in-Root-clause-meaning : goal.returns-in-Root-clause-meaning
returns-in-Root-clause-meaning c = λ written s h.
    step_result written s root (place_said c.args.next) c.root.new.self (c.args.item + 1) c.root.result (ap place_said (sym c.in-Root.is)) refl (c.root.ensures.meaning base s.source h)

pub returns-in-Child-clause-meaning : goal.returns-in-Child-clause-meaning
returns-in-Child-clause-meaning c = λ written s h.
    let x = c.as_bytes.result.now in
    step_result written s (child x) (place_said c.args.next) c.child.new.self (c.args.item + 1) c.child.result
    (ap (λ (n : Name). child n) c.as_bytes.ensures.value ∙ ap place_said (sym c.in-Child.is)) refl (c.child.ensures.meaning s.source h)

pub returns-in-Label-clause-meaning : goal.returns-in-Label-clause-meaning
returns-in-Label-clause-meaning c = λ written s h.
    let l = c.as_bytes-in-Label.result.now in
    step_result written s (label l) (place_said c.args.next) c.label.new.self (c.args.item + 1) c.label.result
    (ap (λ (n : Name). label n) c.as_bytes-in-Label.ensures.value ∙ ap place_said (sym c.in-Label.is)) refl (c.label.ensures.meaning base c.args.item s.source h)

pub returns-in-Close-clause-meaning : goal.returns-in-Close-clause-meaning
returns-in-Close-clause-meaning c = λ written s h.
    step_result written s close (place_said c.args.next) c.close.new.self (c.args.item + 1) c.close.result (ap place_said (sym c.in-Close.is)) refl (c.close.ensures.meaning base c.args.item s.source h)
