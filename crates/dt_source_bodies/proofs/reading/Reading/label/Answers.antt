use Rattle.std.proofs.Common.{◌+◌, Some, refl, ◌∙◌, ap, arith}
use Rattle.dt_model.specs.Source.{read, label, duplicate_label}
use Rattle.dt_model.proofs.Labels.{labelled_names}
use Rattle.dt_source_growing.specs.Growing.{shape}
use Rattle.dt_source_bodies.specs.declared.reading.Reading.{Reading}
use Rattle.dt_source_bodies.proofs.Items.{inner_of, label-goes-new, label-goes-again, label-refused}
use Rattle.dt_source_growing.proofs.Leading.{leads_to}
use Rattle.dt_source_growing.proofs.Soundness.{forest}
use Rattle.dt_source_bodies.proofs.Targets.{grown_so_far}
use Rattle.dt_source_bodies.proofs.Wholes.{goes_on, tells, whole_same}
use Rattle.dt_source_bodies.proofs.reading.Reading.label.Goals as goal

pub returns-then-node-body-clause-meaning : goal.returns-then-node-body-clause-meaning
returns-then-node-body-clause-meaning c = λ m n u h.
    let r : Reading = c.args.self.now in
    let b = c.in_ok-body.body in
    let i = inner_of (shape r.growing) r.bodies.items n u b h c.in_ok-body.ensures.0 in
    let p = c.in-Some.ensures.named u.events (grown_so_far r n u c.requires h) in
    goes_on (read m u (label c.args.label.now)) r (n + 1)
    (label-goes-again m (shape r.growing) r.bodies.items n u b c.args.label.now (forest r.growing c.args.self.now.growing.sound) h i p.0 p.1
    (leads_to r.growing c.args.self.now.growing.sound p.0 c.in-Some.node p.2 ∙ ap Some c.if-node-body.true) (labelled_names u.events c.args.label.now p.0 p.1))

pub returns-else-node-body-clause-meaning : goal.returns-else-node-body-clause-meaning
returns-else-node-body-clause-meaning c = λ m n u h.
    let r : Reading = c.args.self.now in
    let b = c.in_ok-body.body in
    let i = inner_of (shape r.growing) r.bodies.items n u b h c.in_ok-body.ensures.0 in
    let p = c.in-Some.ensures.named u.events (grown_so_far r n u c.requires h) in
    tells (read m u (label c.args.label.now)) duplicate_label c.of.result
    (label-refused m (shape r.growing) r.bodies.items n u b c.args.label.now (forest r.growing c.args.self.now.growing.sound) i p.0 c.in-Some.node p.1 (leads_to r.growing c.args.self.now.growing.sound p.0 c.in-Some.node p.2) c.if-node-body.false)
    c.of.ensures.kind c.of.ensures.at

pub returns-in_ok-give-in-None-clause-meaning : goal.returns-in_ok-give-in-None-clause-meaning
returns-in_ok-give-in-None-clause-meaning c = λ m n u h.
    let old : Reading = c.args.self.now in
    let new : Reading = record { growing = c.give.new.self; bodies = old.bodies } in
    let b = c.in_ok-body.body in
    let i = inner_of (shape old.growing) old.bodies.items n u b h c.in_ok-body.ensures.0 in
    let none = c.in-None.ensures.named u.events (grown_so_far old n u c.requires h) in
    goes_on (read m u (label c.args.label.now)) new (n + 1)
    (label-goes-new m (shape old.growing) (shape new.growing) old.bodies.items n u b c.args.label.now (forest old.growing c.args.self.now.growing.sound) h i none c.in-None.ensures.alone c.in_ok-give-in-None.ensures.given)

pub returns-in_ok-give-in-None-clause-whole : goal.returns-in_ok-give-in-None-clause-whole
returns-in_ok-give-in-None-clause-whole c =
    let old : Reading = c.args.self.now in
    let new : Reading = record { growing = c.give.new.self; bodies = old.bodies } in
    whole_same old new c.requires (let z = c.in_ok-give-in-None.ensures.given.nodes.size in omega (arith, z)) refl
