use Rattle.std.proofs.Common.{◌+◌, refl, arith}
use Rattle.dt_model.specs.Source.{read, delete_property}
use Rattle.dt_source_growing.specs.Growing.{shape}
use Rattle.dt_source_bodies.specs.declared.reading.Reading.{Reading}
use Rattle.dt_source_bodies.proofs.Items.{inner_of, undefine-goes}
use Rattle.dt_source_growing.proofs.Soundness.{forest}
use Rattle.dt_source_bodies.proofs.Wholes.{goes_on, whole_same}
use Rattle.dt_source_bodies.proofs.reading.Reading.undefine.Goals as goal

pub returns-clause-meaning : goal.returns-clause-meaning
returns-clause-meaning c = λ m n u h.
    let old : Reading = c.args.self.now in
    let new : Reading = record { growing = c.undefine.new.self; bodies = old.bodies } in
    let b = c.in_ok-body.body in
    let i = inner_of (shape old.growing) old.bodies.items n u b h c.in_ok-body.ensures.0 in
    goes_on (read m u (delete_property c.args.name.now)) new (n + 1)
    (undefine-goes m (shape old.growing) (shape new.growing) old.bodies.items n u b c.args.name.now (forest old.growing c.args.self.now.growing.sound) h i c.undefine.ensures.dropped)

pub returns-clause-whole : goal.returns-clause-whole
returns-clause-whole c =
    let old : Reading = c.args.self.now in
    let new : Reading = record { growing = c.undefine.new.self; bodies = old.bodies } in
    whole_same old new c.requires (let z = c.undefine.ensures.dropped.nodes.size in omega (arith, z)) refl
