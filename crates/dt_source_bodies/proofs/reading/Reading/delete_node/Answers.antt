use Rattle.std.proofs.Common.{◌+◌, Some, refl, ◌∙◌, ap, arith}
use Rattle.std.proofs.lemmas.Result.{err_from_is_err_and}
use Rattle.dt_model.specs.Source.{read, delete_node, no_such_target}
use Rattle.dt_source_items.specs.Said.{reference_of}
use Rattle.dt_source_growing.specs.Growing.{shape, nodes_listed}
use Rattle.dt_source_growing.specs.Shape.{Cuts}
use Rattle.dt_source_bodies.specs.declared.reading.Reading.{Reading}
use Rattle.dt_source_bodies.proofs.Items.{delete_root-refused, delete-goes}
use Rattle.dt_source_growing.proofs.Leading.{leads_inside}
use Rattle.dt_source_growing.proofs.Soundness.{forest}
use Rattle.dt_source_bodies.proofs.Targets.{root_names, standing}
use Rattle.dt_source_bodies.proofs.Wholes.{goes_on, tells, whole_same}
use Rattle.dt_source_bodies.proofs.reading.Reading.delete_node.Goals as goal

pub returns-in_err-node-clause-meaning : goal.returns-in_err-node-clause-meaning
returns-in_err-node-clause-meaning c = λ m u h.
    let q = err_from_is_err_and c.from_residual.result c.from_residual.ensures.1 in
    rw (q.1, q.2) (c.in_err-node.ensures.target u c.args.item h m).1

pub returns-then-node-eq0-clause-meaning : goal.returns-then-node-eq0-clause-meaning
returns-then-node-eq0-clause-meaning c = λ m u h.
    let old : Reading = c.args.self.now in
    let f = reference_of c.args.reference.now in
    let t = c.in_ok-node.ensures.target u c.args.item h in
    let root = root_names old.growing t.1.0 c.in_ok-node.node t.1.2 c.if-node-eq0.true in
    tells (read m u (delete_node f)) no_such_target c.of.result (delete_root-refused m (shape old.growing) old.bodies.items c.args.item u h t.0 f (t.1.1 ∙ ap Some root)) c.of.ensures.kind c.of.ensures.at

pub cut-requires-clause-inside : goal.cut-requires-clause-inside
cut-requires-clause-inside c = let p = c.in_ok-node.ensures.stands in leads_inside c.args.self.now.growing p.0 c.in_ok-node.node p.1

pub cut-requires-clause-stands : goal.cut-requires-clause-stands
cut-requires-clause-stands c = let p = c.in_ok-node.ensures.stands in (standing c.args.self.now.growing c.args.self.now.growing.sound p.0 c.in_ok-node.node p.1 c.if-node-eq0.false).stands

pub returns-clause-meaning : goal.returns-clause-meaning
returns-clause-meaning c = λ m u h.
    let old : Reading = c.args.self.now in
    let new : Reading = record { growing = c.cut.new.self; bodies = old.bodies } in
    let l = nodes_listed old.growing.nodes.items old.growing.children in
    let f = reference_of c.args.reference.now in
    let t = c.in_ok-node.ensures.target u c.args.item h in
    let s = standing old.growing c.args.self.now.growing.sound t.1.0 c.in_ok-node.node t.1.2 c.if-node-eq0.false in
    let cut : Cuts (shape old.growing) (shape new.growing) (l.owner c.in_ok-node.node) s.name = rw s.named at c.cut.ensures.cut in
    goes_on (read m u (delete_node f)) new (c.args.item + 1)
    (delete-goes m (shape old.growing) (shape new.growing) old.bodies.items c.args.item u (forest old.growing c.args.self.now.growing.sound) h t.0 f s.name s.rest (l.owner c.in_ok-node.node) (t.1.1 ∙ ap Some s.is) s.parent cut)

pub returns-clause-whole : goal.returns-clause-whole
returns-clause-whole c =
    let old : Reading = c.args.self.now in
    let new : Reading = record { growing = c.cut.new.self; bodies = old.bodies } in
    whole_same old new c.requires (let z = c.cut.ensures.cut.size in omega (arith, z)) refl
