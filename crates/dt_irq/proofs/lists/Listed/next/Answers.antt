use Rattle.std.proofs.Common.{◌-◌, ◌*◌, length, refl, ap, ◌∙◌, arith}
use Rattle.std.proofs.lemmas.List.{length-drop}
use Rattle.dt_trees.specs.Placed.{reading_of}
use Rattle.dt_resolve_model.specs.World.{tree_world}
use Rattle.dt_names.specs.declared.fault.FaultKind.TheVariants.{NoInterrupts}
use Rattle.dt_resolve_model.specs.Answers.{answer, refuse}
use Rattle.dt_irq.specs.Seen.{sent_in}
use Rattle.dt_resolve_model.proofs.Entries.{one_entry}
use Rattle.dt_irq.proofs.Lefts.{at_once, listed_later}
use Rattle.dt_irq.proofs.lists.Listed.next.Goals as goal

pub returns-in_default-clause-is : goal.returns-in_default-clause-is
returns-in_default-clause-is g c = λ p i left.
    (at_once (tree_world (reading_of (g.V.TreeView.tree c.args.view.now))) p i (refuse NoInterrupts) (refuse NoInterrupts) refl (c.in_default.ensures.is p i left), left)

pub cells_after-self-requires : goal.cells_after-self-requires
cells_after-self-requires g c =
    let left = c.requires.2 in
    let room = one_entry c.args.self.now.count (4 * c.args.self.now.cells) c.in-Some.ensures.there in
    omega (arith, room, left.long)

pub overflow_sub-self : goal.overflow_sub-self
overflow_sub-self g c = let some = c.in-Some.ensures.there in omega arith

pub returns-clause-is : goal.returns-clause-is
returns-clause-is g c = λ p i left.
    let some = c.in-Some.ensures.there in
    let t = g.V.TreeView.tree c.args.view.now in (
      at_once (tree_world (reading_of t)) p i (answer (sent_in t c.in-Some.sent)) (answer (sent_in t c.in-Some.sent)) refl (c.in-Some.ensures.is p i left),
      listed_later (g.V.TreeView.tree c.args.view.now) p i (c.args.self.now.count - 1) _ _ left (omega arith) refl refl refl (ap length c.cells_after-self.ensures.bytes ∙ length-drop (4 * c.args.self.now.cells) c.args.self.now.rest.now) c.cells_after-self.ensures.cells,
    )

pub returns-clause-shorter : goal.returns-clause-shorter
returns-clause-shorter g c =
    let left = c.requires.2 in
    let room = one_entry c.args.self.now.count (4 * c.args.self.now.cells) c.in-Some.ensures.there in
    let some = left.some in
    omega (arith, room, left.long, ap length c.cells_after-self.ensures.bytes, length-drop (4 * c.args.self.now.cells) c.args.self.now.rest.now)
