use Rattle.std.proofs.Common.{◌+◌, sym, subst}
use Rattle.dt_names.specs.declared.fault.FaultKind.TheVariants.{NoInterrupts}
use Rattle.dt_trees.specs.Placed.{reading_of}
use Rattle.dt_resolve_model.specs.World.{tree_world}
use Rattle.dt_resolve_model.specs.Interrupts.{IsSent}
use Rattle.dt_resolve_model.proofs.Told.{refuses}
use Rattle.dt_irq.specs.Left.{AreSentFrom, entries_left}
use Rattle.dt_irq.proofs.lists.Entries.nth.Goals as goal

pub returns-in-Extended-clause-is : goal.returns-in-Extended-clause-is
returns-in-Extended-clause-is g c = λ p i left.
    let t = g.V.TreeView.tree c.args.view.now in
    let are = subst (λ r. AreSentFrom t p i (entries_left r)) c.in-Extended.is left in
    subst (IsSent (tree_world (reading_of t)) p (i + c.args.index)) (sym c.entry_sent.ensures.is) (are c.args.index)

pub returns-in-Some-clause-is : goal.returns-in-Some-clause-is
returns-in-Some-clause-is g c = λ p i left.
    c.in-Some.ensures.is p i (subst (λ r. AreSentFrom (g.V.TreeView.tree c.args.view.now) p i (entries_left r)) c.in-Plain.is left)

pub returns-in-None-clause-is : goal.returns-in-None-clause-is
returns-in-None-clause-is g c = λ p i left.
    let t = g.V.TreeView.tree c.args.view.now in
    subst (IsSent (tree_world (reading_of t)) p (i + c.args.index)) (sym (refuses c.of.result NoInterrupts c.of.ensures.kind c.of.ensures.at))
    (c.in-None.ensures.is p i (subst (λ r. AreSentFrom t p i (entries_left r)) c.in-Plain.is left))
