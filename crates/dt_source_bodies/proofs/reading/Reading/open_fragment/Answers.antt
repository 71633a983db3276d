use Rattle.std.proofs.Common.{◌≡◌, ◌+◌, ◌≤◌, Ok, codes, length, arith}
use Rattle.dt_model.specs.OverlaySource.{open_fragment}
use Rattle.dt_model.specs.Source.{outside}
use Rattle.dt_source_growing.specs.Grown.{value_held}
use Rattle.dt_source_growing.specs.Growing.{shape}
use Rattle.dt_source_growing.specs.declared.growing.Growing.{Growing}
use Rattle.dt_source_bodies.specs.declared.reading.Reading.{Reading}
use Rattle.dt_source_bodies.proofs.NewFragments.{fragment-goes, opens_within}
use Rattle.dt_source_growing.proofs.Soundness.{forest}
use Rattle.dt_source_bodies.proofs.Wholes.{goes_on_more, whole_more}
use Rattle.dt_source_bodies.proofs.reading.Reading.open_fragment.Goals as goal

pub returns-clause-meaning : goal.returns-clause-meaning
returns-clause-meaning c = λ u h.
    let old : Reading = c.args.self.now in
    let new : Reading = record { growing = c.open_child-2.new.self; bodies = c.enter.new.bodies } in
    let f = c.args.name.now in
    let m = c.args.property.now in
    let v = value_held c.args.value in
    goes_on_more (outside u.bodies (Ok (open_fragment f m v u))) new (c.args.item + 1) _ c.in_ok-enter.ensures
    (fragment-goes (shape old.growing) (shape c.open_child.new.self) (shape c.define.new.self) (shape new.growing) old.bodies.items c.args.item u
    (forest old.growing c.args.self.now.growing.sound) (forest c.open_child.new.self c.open_child.new.self.sound) (forest c.define.new.self c.define.new.self.sound)
    h c.in_ok-outside.ensures c.requires.rooted f m v c.in_ok-fragment.fragment c.in_ok-content.content
    c.in_ok-fragment.ensures.opened c.in_ok-define.ensures.defined c.in_ok-content.ensures.opened)

pub returns-clause-whole : goal.returns-clause-whole
returns-clause-whole c =
    let old : Reading = c.args.self.now in
    let new : Reading = record { growing = c.open_child-2.new.self; bodies = c.enter.new.bodies } in
    let s : Growing = c.open_child.new.self in
    let t : Growing = c.define.new.self in
    let first = opens_within (shape old.growing) (shape s) (forest old.growing c.args.self.now.growing.sound) 0 c.args.name.now c.args.item c.in_ok-fragment.fragment c.in_ok-fragment.ensures.opened in
    let second = opens_within (shape t) (shape new.growing) (forest t c.define.new.self.sound) c.in_ok-fragment.fragment (codes "__overlay__") c.args.item c.in_ok-content.content
    c.in_ok-content.ensures.opened in
    let more : length old.growing.nodes.items ≤ length s.nodes.items = first.0 in
    let same : length t.nodes.items ≡ length s.nodes.items = c.in_ok-define.ensures.defined.nodes.size in
    let most : length t.nodes.items ≤ length new.growing.nodes.items = second.0 in
    whole_more old new _ c.requires.whole (omega arith) second.1 c.in_ok-enter.ensures
