use Rattle.std.proofs.Common.{◌≡◌, None, ◌∙◌, ap, length}
use Rattle.std.proofs.lemmas.Result.{err_from_is_err_and}
use Rattle.dt_model.specs.Source.{read, block, delete_node, misplaced, no_such_target, referent}
use Rattle.dt_source_items.specs.Said.{reference_of}
use Rattle.dt_source_growing.specs.Grown.{IsGrown}
use Rattle.dt_source_growing.specs.Growing.{shape}
use Rattle.dt_source_bodies.specs.declared.reading.Reading.{Reading}
use Rattle.dt_source_bodies.proofs.Items.{block-refused, delete-refused}
use Rattle.dt_source_growing.proofs.Leading.{leads_inside}
use Rattle.dt_source_growing.proofs.Referents.{leads_once}
use Rattle.dt_source_bodies.proofs.Targets.{grown_so_far, misplaced_block, misplaced_delete}
use Rattle.dt_source_bodies.proofs.Wholes.{tells}
use Rattle.dt_source_bodies.proofs.reading.Reading.target.Goals as goal

pub returns-in_err-outside-clause-target : goal.returns-in_err-outside-clause-target
returns-in_err-outside-clause-target c = λ u n h.
    let r = c.args.self.now in
    let f = reference_of c.args.reference.now in
    let q = err_from_is_err_and c.from_residual.result c.from_residual.ensures.1 in
    let k = c.in_err-outside.ensures in
    rw (q.1, q.2)
    (λ m. (tells (read m u (block f)) misplaced c.in_err-outside.field-0.0 (misplaced_block r n u h k.2 m f) k.0 k.1, tells (read m u (delete_node f)) misplaced c.in_err-outside.field-0.0 (misplaced_delete r n u h k.2 m f) k.0 k.1))

pub returns-in_default-clause-target : goal.returns-in_default-clause-target
returns-in_default-clause-target c = λ u n h m.
    let r : Reading = c.args.self.now in
    let f = reference_of c.args.reference.now in
    let w : IsGrown r.growing.nodes.items r.growing.properties.items r.growing.givings.items u.events = grown_so_far r n u c.requires h in
    let lost : referent u.events f ≡ None = c.in_default.ensures.refers u.events w in (
      tells (read m u (block f)) no_such_target c.of.result (block-refused m (shape r.growing) r.bodies.items n u h c.in_ok-outside.ensures f lost) c.of.ensures.kind c.of.ensures.at,
      tells (read m u (delete_node f)) no_such_target c.of.result (delete-refused m (shape r.growing) r.bodies.items n u h c.in_ok-outside.ensures f lost) c.of.ensures.kind c.of.ensures.at,
    )

pub depth-requires : goal.depth-requires
depth-requires c = let p = c.in-Some.ensures.stands in record { inside = leads_inside c.args.self.now.growing p.0 c.in-Some.node p.1 }

pub returns-in-Some-depth-clause-target : goal.returns-in-Some-depth-clause-target
returns-in-Some-depth-clause-target c = λ u n h.
    let r : Reading = c.args.self.now in
    let w : IsGrown r.growing.nodes.items r.growing.properties.items r.growing.givings.items u.events = grown_so_far r n u c.requires h in
    let p = c.in-Some.ensures.refers u.events w in
    let q = c.in-Some-depth.ensures in
    let same = leads_once r.growing c.args.self.now.growing.sound q.0 p.0 c.in-Some.node q.1 p.2 in
    (c.in_ok-outside.ensures, (p.0, p.1, p.2, q.2 ∙ ap length same))
