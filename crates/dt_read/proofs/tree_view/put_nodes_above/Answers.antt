use Rattle.std.proofs.Common.{◌∙◌, ◌∷◌, ap, subst}
use Rattle.dt_model.specs.Lists.{IsIn}
use Rattle.dt_read.specs.StepsLeft.{node_step_view}
use Rattle.dt_trees.specs.Views.{AreAbove}
use Rattle.dt_read.proofs.Opened.{opened}
use Rattle.dt_read.proofs.Walking.{is_ahead, room_walked, at_beginning, past_beginning, past_end}
use Rattle.dt_read.proofs.tree_view.put_nodes_above.Goals as goal

pub loop-step-init : goal.loop-step-init
loop-step-init c =
    let whole = c.into_iter-step-iterator.ensures.into_iter_gives ∙ c.node_steps-step-items.ensures in
    (tt, tt, rw (whole, c.requires.none) (is_ahead c.args.blob.now c.args.node c.validity.ensures.valid c.validity.ensures.within c.validity.ensures.places c.requires.node))

pub returns-then-here-node : goal.returns-then-here-node
returns-then-here-node c =
    let t = c.args.blob.now in
    let e = c.in-Some.ensures.steps ∙ ap (λ s. node_step_view s ∷ c.next.new.self) c.in-Open.is in
    let above = at_beginning t c.args.node c.validity.ensures.valid c.validity.ensures.places c.loop-step.above c.loop-step.step-iterator c.next.new.self c.loop-step.invariant.2 c.in-Open.here c.in-Open.name.now e in
    subst (λ k. AreAbove t k c.loop-step.above) c.if-here-node.true above

pub push-requires : goal.push-requires
push-requires c =
    let e = c.in-Some.ensures.steps ∙ ap (λ s. node_step_view s ∷ c.next.new.self) c.in-Open.is in
    room_walked c.args.blob.now c.loop-step.above c.in-Open.here c.in-Open.name.now c.loop-step.step-iterator c.next.new.self c.loop-step.invariant.2.walked e

pub loop-step-preserved-in-Open : goal.loop-step-preserved-in-Open
loop-step-preserved-in-Open c =
    let e = c.in-Some.ensures.steps ∙ ap (λ s. node_step_view s ∷ c.next.new.self) c.in-Open.is in
    (tt, tt, past_beginning c.args.blob.now c.args.node c.validity.ensures.valid c.validity.ensures.places c.loop-step.above c.loop-step.step-iterator c.next.new.self c.loop-step.invariant.2 c.in-Open.here c.in-Open.name.now c.push.new.self e c.if-here-node.false c.push.ensures)

pub loop-step-preserved : goal.loop-step-preserved
loop-step-preserved c =
    let e = c.in-Some.ensures.steps ∙ ap (λ s. node_step_view s ∷ c.next.new.self) c.in-Close.is in
    (tt, tt, past_end c.args.blob.now c.args.node c.validity.ensures.valid c.validity.ensures.places c.loop-step.above c.loop-step.step-iterator c.next.new.self c.loop-step.invariant.2 c.pop.new.self e c.pop.ensures)

pub returns : goal.returns
returns c = absurd (subst (λ steps. IsIn c.args.node (opened steps)) c.in-None.ensures.steps.0 c.loop-step.invariant.2.ahead)
