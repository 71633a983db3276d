use Rattle.std.proofs.Common.{◌≡◌, ◌∙◌, ◌∷◌, ap, subst, arith}
use Rattle.dt_model.specs.Lists.{IsIn}
use Rattle.dt_read.specs.Walked.{opens}
use Rattle.dt_read.specs.StepsLeft.{node_step_view}
use Rattle.dt_read.proofs.Opened.{opened}
use Rattle.dt_read.proofs.Walking.{is_kept, room_counted, at_node_kept, begun_kept, begun_here_kept, ended_kept}
use Rattle.dt_read.proofs.tree_view.parent_of.Goals as goal

pub loop-step-init : goal.loop-step-init
loop-step-init c =
    let whole = c.into_iter-step-iterator.ensures.into_iter_gives ∙ c.node_steps-step-items.ensures in
    (tt, tt, rw whole (is_kept c.args.blob.now c.args.node c.depth_of-level.result c.validity.ensures.valid c.validity.ensures.within c.validity.ensures.places c.requires))

pub returns-then-here-node : goal.returns-then-here-node
returns-then-here-node c =
    let e = c.in-Some.ensures.steps ∙ ap (λ s. node_step_view s ∷ c.next.new.self) c.in-Open.is in
    at_node_kept c.args.blob.now c.args.node c.validity.ensures.valid c.validity.ensures.places c.loop-step.depth c.loop-step.step-iterator c.next.new.self c.depth_of-level.result c.loop-step.above c.in-Open.name.now c.loop-step.invariant.2 c.depth_of-level.ensures
    (subst (λ k. c.loop-step.step-iterator ≡ opens k c.in-Open.name.now ∷ c.next.new.self) c.if-here-node.true e)

pub overflow_add-depth : goal.overflow_add-depth
overflow_add-depth c =
    let e = c.in-Some.ensures.steps ∙ ap (λ s. node_step_view s ∷ c.next.new.self) c.in-Open.is in
    let room = room_counted c.args.blob.now c.args.node c.validity.ensures.valid c.validity.ensures.places c.loop-step.depth c.loop-step.step-iterator c.next.new.self c.in-Open.here c.in-Open.name.now c.loop-step.invariant.2.counted e in
    omega arith

pub loop-step-preserved-then-depth-level : goal.loop-step-preserved-then-depth-level
loop-step-preserved-then-depth-level c =
    let e = c.in-Some.ensures.steps ∙ ap (λ s. node_step_view s ∷ c.next.new.self) c.in-Open.is in
    (tt, tt, begun_here_kept c.args.blob.now c.args.node c.validity.ensures.valid c.validity.ensures.places c.loop-step.depth c.loop-step.step-iterator c.next.new.self c.depth_of-level.result c.loop-step.above c.in-Open.here c.in-Open.name.now c.loop-step.invariant.2 e c.if-here-node.false c.if-depth-level.true)

pub loop-step-preserved-else-depth-level : goal.loop-step-preserved-else-depth-level
loop-step-preserved-else-depth-level c =
    let e = c.in-Some.ensures.steps ∙ ap (λ s. node_step_view s ∷ c.next.new.self) c.in-Open.is in
    (tt, tt, begun_kept c.args.blob.now c.args.node c.validity.ensures.valid c.validity.ensures.places c.loop-step.depth c.loop-step.step-iterator c.next.new.self c.depth_of-level.result c.loop-step.above c.in-Open.here c.in-Open.name.now c.loop-step.invariant.2 e c.if-here-node.false c.if-depth-level.false)

pub loop-step-preserved : goal.loop-step-preserved
loop-step-preserved c =
    let e = c.in-Some.ensures.steps ∙ ap (λ s. node_step_view s ∷ c.next.new.self) c.in-Close.is in
    (tt, tt, rw c.saturating_sub-depth.ensures (ended_kept c.args.blob.now c.args.node c.validity.ensures.valid c.validity.ensures.places c.loop-step.depth c.loop-step.step-iterator c.next.new.self c.depth_of-level.result c.loop-step.above c.loop-step.invariant.2 e))

pub returns : goal.returns
returns c = absurd (subst (λ steps. IsIn c.args.node (opened steps)) c.in-None.ensures.steps.0 c.loop-step.invariant.2.counted.ahead.ahead)
