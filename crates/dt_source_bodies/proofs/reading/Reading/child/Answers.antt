use Rattle.std.proofs.Common.{◌≡◌, ◌+◌, true, false, inl, inr, length, arith, sym, ◌∙◌, ap}
use Rattle.std.proofs.lemmas.Result.{err_from_is_err_and}
use Rattle.dt_model.specs.Source.{read, child, duplicate_node, too_deep}
use Rattle.dt_source_growing.specs.Growing.{shape}
use Rattle.dt_source_bodies.specs.Reading.{is_behind}
use Rattle.dt_source_bodies.specs.Refusals.{mode_said}
use Rattle.dt_source_bodies.specs.declared.reading.Reading.{Reading}
use Rattle.dt_source_bodies.proofs.Items.{inner_of, child-twice, child-deep, child-goes-new, child-goes-again}
use Rattle.dt_source_growing.proofs.Soundness.{forest}
use Rattle.dt_source_bodies.proofs.Wholes.{tells, goes_on_more, whole_more}
use Rattle.dt_source_bodies.proofs.reading.Reading.child.Goals as goal

pub returns-in_err-body-clause-meaning : goal.returns-in_err-body-clause-meaning
returns-in_err-body-clause-meaning c = λ u h.
    let q = err_from_is_err_and c.from_residual.result c.from_residual.ensures.1 in
    rw (q.1, q.2) (c.in_err-body.ensures.meaning u c.args.item h)

pub returns-then-is_later-clause-meaning : goal.returns-then-is_later-clause-meaning
returns-then-is_later-clause-meaning c = λ u h.
    let old : Reading = c.args.self.now in
    let m = mode_said c.args.mode in
    let b = c.in_ok-body.body in
    let i = inner_of (shape old.growing) old.bodies.items c.args.item u b h c.in_ok-body.ensures.innermost in
    let free = c.in_ok-body.ensures.meaning u c.args.item h in
    let twice : is_behind b.item ((shape old.growing).opened b.node c.args.name.now) ≡ true = ap (is_behind b.item) (sym c.in_ok-node.ensures.last) ∙ sym c.if-is_later.ensures in
    tells (read m u (child c.args.name.now)) duplicate_node c.of.result (child-twice m (shape old.growing) old.bodies.items c.args.item u b c.args.name.now i free twice) c.of.ensures.kind c.of.ensures.at

pub returns-then-body-ge-MOST_NAMES-clause-meaning : goal.returns-then-body-ge-MOST_NAMES-clause-meaning
returns-then-body-ge-MOST_NAMES-clause-meaning c = λ u h.
    let old : Reading = c.args.self.now in
    let m = mode_said c.args.mode in
    let b = c.in_ok-body.body in
    let i = inner_of (shape old.growing) old.bodies.items c.args.item u b h c.in_ok-body.ensures.innermost in
    let free = c.in_ok-body.ensures.meaning u c.args.item h in
    let once : is_behind b.item ((shape old.growing).opened b.node c.args.name.now) ≡ false = ap (is_behind b.item) (sym c.in_ok-node.ensures.last) ∙ sym c.if-is_later.ensures in
    tells (read m u (child c.args.name.now)) too_deep c.of-then-body-ge-MOST_NAMES.result
    (child-deep m (shape old.growing) old.bodies.items c.args.item u b c.args.name.now i free once c.if-body-ge-MOST_NAMES.true) c.of-then-body-ge-MOST_NAMES.ensures.kind c.of-then-body-ge-MOST_NAMES.ensures.at

pub returns-clause-meaning : goal.returns-clause-meaning
returns-clause-meaning c = λ u h.
    let old : Reading = c.args.self.now in
    let new : Reading = record { growing = c.open_child.new.self; bodies = c.enter.new.bodies } in
    let m = mode_said c.args.mode in
    let b = c.in_ok-body.body in
    let i = inner_of (shape old.growing) old.bodies.items c.args.item u b h c.in_ok-body.ensures.innermost in
    let once : is_behind b.item ((shape old.growing).opened b.node c.args.name.now) ≡ false = ap (is_behind b.item) (sym c.in_ok-node.ensures.last) ∙ sym c.if-is_later.ensures in
    let few = c.if-body-ge-MOST_NAMES.false in
    let free = c.in_ok-body.ensures.meaning u c.args.item h in
    let f = forest old.growing c.args.self.now.growing.sound in
    goes_on_more (read m u (child c.args.name.now)) new (c.args.item + 1) _ c.in_ok-enter.ensures
    (elim c.in_ok-node.ensures.opened [
      | inl made ↦ rw made.2 (child-goes-new m (shape old.growing) (shape new.growing) old.bodies.items c.args.item u b c.args.name.now f h i free once few made.0 made.1)
      | inr there ↦ child-goes-again m (shape old.growing) (shape new.growing) old.bodies.items c.args.item u b c.args.name.now c.in_ok-node.node f h i free once few there.0 there.1
    ])

pub returns-clause-whole : goal.returns-clause-whole
returns-clause-whole c =
    let old : Reading = c.args.self.now in
    let new : Reading = record { growing = c.open_child.new.self; bodies = c.enter.new.bodies } in
    let f = forest old.growing c.args.self.now.growing.sound in
    (elim c.in_ok-node.ensures.opened [
      | inl made ↦ (let z : length new.growing.nodes.items ≡ length old.growing.nodes.items + 1 = made.1.size in
          whole_more old new _ c.requires (omega arith) (omega (arith, made.2)) c.in_ok-enter.ensures)
      | inr there ↦ (let z : length new.growing.nodes.items ≡ length old.growing.nodes.items = there.1.size in
          whole_more old new _ c.requires (omega arith) (let e = (f.edge _ _ _ there.0).1 in omega (arith, e)) c.in_ok-enter.ensures)
    ])
