use Rattle.std.proofs.Common.{◌≡◌, ◌+◌, subst, arith}
use Rattle.dt_trees.specs.Placed.{path_at, reading_of}
use Rattle.dt_resolve_model.specs.Answers.{answer, refused}
use Rattle.dt_resolve_model.specs.World.{quads_of, tree_world}
use Rattle.dt_resolve_model.specs.Interrupts.{IsSent}
use Rattle.dt_irq.specs.Seen.{route_in, sent_in}
use Rattle.dt_irq.proofs.Senders.{route_by}
use Rattle.dt_resolve_model.proofs.Told.{told_fault}
use Rattle.dt_irq.proofs.routing.route.Goals as goal

pub returns-in_err-of-clause-is : goal.returns-in_err-of-clause-is
returns-in_err-of-clause-is g c =
    let t = g.V.TreeView.tree c.args.view.now in
    let e = c.in_err-of.field-0.0 in
    (refused e, c.in_err-of.ensures.refused c.args.index, told_fault c.from_residual.result e (route_in t) c.from_residual.ensures.1)

pub nth-requires : goal.nth-requires
nth-requires g c = (path_at (g.V.TreeView.tree c.args.view.now) c.args.node, 0, c.in_ok-of.ensures.left)

pub returns-in_err-sent-clause-is : goal.returns-in_err-sent-clause-is
returns-in_err-sent-clause-is g c =
    let t = g.V.TreeView.tree c.args.view.now in
    let p = path_at t c.args.node in
    let e = c.in_err-sent.field-0.0 in
    let is = subst (λ j. IsSent (tree_world (reading_of t)) p j (refused e)) (let z : 0 + c.args.index ≡ c.args.index = omega arith in z) (c.in_err-sent.ensures.is p 0 c.in_ok-of.ensures.left) in
    (refused e, is, told_fault c.from_residual-in_err-sent.result e (route_in t) c.from_residual-in_err-sent.ensures.1)

pub returns-clause-is : goal.returns-clause-is
returns-clause-is g c =
    let t = g.V.TreeView.tree c.args.view.now in
    let p = path_at t c.args.node in
    let sent = sent_in t c.in_ok-sent.sent in
    let is = subst (λ j. IsSent (tree_world (reading_of t)) p j (answer sent)) (let z : 0 + c.args.index ≡ c.args.index = omega arith in z) (c.in_ok-sent.ensures.is p 0 c.in_ok-of.ensures.left) in
    route_by (reading_of t) p c.args.index sent (quads_of c.unit_of-unit.result.now) _ is c.unit_of-unit.ensures c.routed.ensures.is
