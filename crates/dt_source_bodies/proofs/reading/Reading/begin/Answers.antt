use Rattle.std.proofs.Common.{refl, arith}
use Rattle.dt_source_growing.specs.Growing.{shape}
use Rattle.dt_source_bodies.specs.declared.reading.Reading.{Reading}
use Rattle.dt_source_bodies.proofs.NewFragments.{begins, made_root}
use Rattle.dt_source_growing.proofs.Soundness.{forest}
use Rattle.dt_source_bodies.proofs.Wholes.{whole_same}
use Rattle.dt_source_bodies.proofs.reading.Reading.begin.Goals as goal

pub returns-clause-meaning : goal.returns-clause-meaning
returns-clause-meaning c =
    let old : Reading = c.args.self.now in
    let made = made_root (shape old.growing) (shape c.open_root.new.self) old.bodies.items _ c.requires.nothing c.in_ok-open_root.ensures.opened in
    begins (shape old.growing) (shape c.open_root.new.self) old.bodies.items (forest old.growing c.args.self.now.growing.sound) c.requires.nothing made

pub returns-clause-whole : goal.returns-clause-whole
returns-clause-whole c =
    let old : Reading = c.args.self.now in
    let new : Reading = record { growing = c.open_root.new.self; bodies = old.bodies } in
    let made = made_root (shape old.growing) (shape c.open_root.new.self) old.bodies.items _ c.requires.nothing c.in_ok-open_root.ensures.opened in
    whole_same old new c.requires.whole (omega (arith, made.none, made.size)) refl

pub returns-clause-rooted : goal.returns-clause-rooted
returns-clause-rooted c =
    let old : Reading = c.args.self.now in
    let made = made_root (shape old.growing) (shape c.open_root.new.self) old.bodies.items _ c.requires.nothing c.in_ok-open_root.ensures.opened in
    omega (arith, made.size)
