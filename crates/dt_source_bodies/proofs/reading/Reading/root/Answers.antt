use Rattle.std.proofs.Common.{◌+◌, inl, inr}
use Rattle.dt_model.specs.Source.{root, read}
use Rattle.dt_source_growing.specs.Growing.{shape}
use Rattle.dt_source_bodies.specs.declared.reading.Reading.{Reading}
use Rattle.dt_source_bodies.proofs.Items.{root-goes-new, root-goes-again}
use Rattle.dt_source_growing.proofs.Soundness.{forest}
use Rattle.dt_source_bodies.proofs.Wholes.{goes_on_more}
use Rattle.dt_source_bodies.proofs.reading.Reading.root.Goals as goal

pub returns-clause-meaning : goal.returns-clause-meaning
returns-clause-meaning c = λ m u h.
    let old : Reading = c.args.self.now in
    let new : Reading = record { growing = c.open_root.new.self; bodies = c.enter.new.bodies } in
    goes_on_more (read m u root) new (c.args.item + 1) _ c.in_ok-enter.ensures
    (elim c.in_ok-open_root.ensures.opened [
      | inl made ↦ root-goes-new m (shape old.growing) (shape new.growing) old.bodies.items c.args.item u (forest old.growing c.args.self.now.growing.sound) h c.in_ok-outside.ensures made
      | inr there ↦ rw there.1 (root-goes-again m (shape old.growing) old.bodies.items c.args.item u (forest old.growing c.args.self.now.growing.sound) h c.in_ok-outside.ensures there.0)
    ])
