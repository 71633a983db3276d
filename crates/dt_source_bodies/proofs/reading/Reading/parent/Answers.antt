use Rattle.std.proofs.Common.{◌≡◌, true, sym}
use Rattle.dt_model.specs.Source.{read, child, is_reserved, reserved_name}
use Rattle.dt_source_growing.specs.Growing.{shape}
use Rattle.dt_source_bodies.specs.Refusals.{mode_said}
use Rattle.dt_source_bodies.specs.declared.reading.Reading.{Reading}
use Rattle.dt_source_bodies.proofs.Items.{inner_of, child-reserved}
use Rattle.dt_source_bodies.proofs.Wholes.{tells}
use Rattle.dt_source_bodies.proofs.reading.Reading.parent.Goals as goal

pub returns-then-is_kept_back-clause-meaning : goal.returns-then-is_kept_back-clause-meaning
returns-then-is_kept_back-clause-meaning c = λ u n h.
    let r : Reading = c.args.self.now in
    let m = mode_said c.args.mode in
    let i = inner_of (shape r.growing) r.bodies.items n u c.in_ok-body.body h c.in_ok-body.ensures.0 in
    let reserved : is_reserved m u.node c.args.name.now ≡ true = sym (c.if-is_kept_back.ensures u.node i.its.depth) in
    tells (read m u (child c.args.name.now)) reserved_name c.of.result (child-reserved m (shape r.growing) r.bodies.items n u c.in_ok-body.body c.args.name.now i reserved) c.of.ensures.kind c.of.ensures.at

pub returns-clause-meaning : goal.returns-clause-meaning
returns-clause-meaning c = λ u n h.
    let r : Reading = c.args.self.now in
    let i = inner_of (shape r.growing) r.bodies.items n u c.in_ok-body.body h c.in_ok-body.ensures.0 in
    sym (c.if-is_kept_back.ensures u.node i.its.depth)
