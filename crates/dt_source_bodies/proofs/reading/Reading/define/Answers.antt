use Rattle.std.proofs.Common.{◌≡◌, ◌+◌, true, false, refl, sym, ◌∙◌, ap, arith}
use Rattle.dt_model.specs.Source.{read, property, duplicate_property}
use Rattle.dt_source_growing.specs.Grown.{value_held}
use Rattle.dt_source_growing.specs.Growing.{shape}
use Rattle.dt_source_bodies.specs.Reading.{is_behind}
use Rattle.dt_source_bodies.specs.declared.reading.Reading.{Reading}
use Rattle.dt_source_bodies.proofs.Items.{inner_of, define-twice, define-goes}
use Rattle.dt_source_growing.proofs.Soundness.{forest}
use Rattle.dt_source_bodies.proofs.Wholes.{goes_on, tells, whole_same}
use Rattle.dt_source_bodies.proofs.reading.Reading.define.Goals as goal

pub returns-then-is_later-clause-meaning : goal.returns-then-is_later-clause-meaning
returns-then-is_later-clause-meaning c = λ m u h.
    let r : Reading = c.args.self.now in
    let b = c.in_ok-body.body in
    let i = inner_of (shape r.growing) r.bodies.items c.args.item u b h c.in_ok-body.ensures.0 in
    let twice : is_behind b.item ((shape r.growing).defined b.node c.args.name.now) ≡ true = ap (is_behind b.item) (sym c.in_ok-last.ensures.last) ∙ sym c.if-is_later.ensures in
    tells (read m u (property c.args.name.now (value_held c.args.value))) duplicate_property c.of.result
    (define-twice m (shape r.growing) r.bodies.items c.args.item u b c.args.name.now (value_held c.args.value) i twice) c.of.ensures.kind c.of.ensures.at

pub returns-clause-meaning : goal.returns-clause-meaning
returns-clause-meaning c = λ m u h.
    let old : Reading = c.args.self.now in
    let new : Reading = record { growing = c.define.new.self; bodies = old.bodies } in
    let b = c.in_ok-body.body in
    let i = inner_of (shape old.growing) old.bodies.items c.args.item u b h c.in_ok-body.ensures.0 in
    let once : is_behind b.item ((shape old.growing).defined b.node c.args.name.now) ≡ false = ap (is_behind b.item) (sym c.in_ok-last.ensures.last) ∙ sym c.if-is_later.ensures in
    goes_on (read m u (property c.args.name.now (value_held c.args.value))) new (c.args.item + 1)
    (define-goes m (shape old.growing) (shape new.growing) old.bodies.items c.args.item u b c.args.name.now (value_held c.args.value) (forest old.growing c.args.self.now.growing.sound) h i once c.in_ok-last.ensures.defined)

pub returns-clause-whole : goal.returns-clause-whole
returns-clause-whole c =
    let old : Reading = c.args.self.now in
    let new : Reading = record { growing = c.define.new.self; bodies = old.bodies } in
    whole_same old new c.requires (let z = c.in_ok-last.ensures.defined.nodes.size in omega (arith, z)) refl
