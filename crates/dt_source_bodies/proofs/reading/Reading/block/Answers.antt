use Rattle.std.proofs.Common.{◌+◌, arith}
use Rattle.std.proofs.lemmas.Result.{err_from_is_err_and}
use Rattle.dt_model.specs.Source.{read, block}
use Rattle.dt_source_items.specs.Said.{reference_of}
use Rattle.dt_source_growing.specs.Growing.{shape}
use Rattle.dt_source_bodies.specs.declared.reading.Reading.{Reading}
use Rattle.dt_source_bodies.proofs.Items.{block-goes}
use Rattle.dt_source_growing.proofs.Leading.{leads_to, leads_inside}
use Rattle.dt_source_growing.proofs.Soundness.{forest}
use Rattle.dt_source_bodies.proofs.Wholes.{goes_on_more, whole_more}
use Rattle.dt_source_bodies.proofs.reading.Reading.block.Goals as goal

pub returns-in_err-node-clause-meaning : goal.returns-in_err-node-clause-meaning
returns-in_err-node-clause-meaning c = λ m u h.
    let q = err_from_is_err_and c.from_residual.result c.from_residual.ensures.1 in
    rw (q.1, q.2) (c.in_err-node.ensures.target u c.args.item h m).0

pub returns-clause-meaning : goal.returns-clause-meaning
returns-clause-meaning c = λ m u h.
    let old : Reading = c.args.self.now in
    let new : Reading = record { growing = old.growing; bodies = c.enter.new.bodies } in
    let f = reference_of c.args.reference.now in
    let t = c.in_ok-node.ensures.target u c.args.item h in
    goes_on_more (read m u (block f)) new (c.args.item + 1) _ c.in_ok-enter.ensures
    (block-goes m (shape old.growing) old.bodies.items c.args.item u (forest old.growing c.args.self.now.growing.sound) h t.0 f t.1.0 c.in_ok-node.node c.in_ok-node.depth t.1.1
    (leads_to old.growing c.args.self.now.growing.sound t.1.0 c.in_ok-node.node t.1.2) t.1.3)

pub returns-clause-whole : goal.returns-clause-whole
returns-clause-whole c =
    let old : Reading = c.args.self.now in
    let new : Reading = record { growing = old.growing; bodies = c.enter.new.bodies } in
    let p = c.in_ok-node.ensures.stands in
    whole_more old new _ c.requires (omega arith) (leads_inside old.growing p.0 c.in_ok-node.node p.1) c.in_ok-enter.ensures
