use Rattle.std.proofs.Common.{refl, subst}
use Rattle.dt_names.specs.declared.fault.FaultKind.TheVariants.{NoInterrupts}
use Rattle.dt_trees.specs.Placed.{reading_of}
use Rattle.dt_resolve_model.specs.Answers.{refuse, refused, told_as}
use Rattle.dt_resolve_model.specs.World.{quads_of, tree_world}
use Rattle.dt_resolve_model.specs.Interrupts.{IsSent}
use Rattle.dt_irq.specs.Seen.{sent_in}
use Rattle.dt_irq.proofs.Senders.{route_by}
use Rattle.dt_irq.proofs.routing.Routes.next.Goals as goal

pub returns-in_default-clause-is : goal.returns-in_default-clause-is
returns-in_default-clause-is g c = λ p i left.
    let h = c.in_default.ensures.is p i left.entries in
    ((refuse NoInterrupts, h.0, refl), record { entries = h.1; unit = left.unit })

pub returns-in-Ok-clause-is : goal.returns-in-Ok-clause-is
returns-in-Ok-clause-is g c = λ p i left.
    let t = g.V.TreeView.tree c.args.view.now in
    let h = c.in-Some.ensures.is p i left.entries in
    let sent = subst (λ r. IsSent (tree_world (reading_of t)) p i (told_as (sent_in t) r)) c.in-Ok.is h.0 in
    (route_by (reading_of t) p i (sent_in t c.in-Ok.sent) (quads_of c.args.self.now.unit.now) _ sent left.unit c.routed.ensures.is, record { entries = h.1; unit = left.unit })

pub returns-in-Err-clause-is : goal.returns-in-Err-clause-is
returns-in-Err-clause-is g c = λ p i left.
    let t = g.V.TreeView.tree c.args.view.now in
    let h = c.in-Some.ensures.is p i left.entries in
    let sent = subst (λ r. IsSent (tree_world (reading_of t)) p i (told_as (sent_in t) r)) c.in-Err.is h.0 in
    ((refused c.in-Err.fault, sent, refl), record { entries = h.1; unit = left.unit })
