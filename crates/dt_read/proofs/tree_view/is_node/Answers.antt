use Rattle.std.proofs.Common.{◌∷◌, refl, sym, ap, subst, ◌∙◌, inl}
use Rattle.dt_model.specs.Lists.{IsIn}
use Rattle.dt_read.specs.StepsLeft.{node_step_view}
use Rattle.dt_read.specs.Walked.{steps_of}
use Rattle.dt_read.proofs.Opened.{opened}
use Rattle.dt_read.proofs.Walking.{opened_without}
use Rattle.dt_read.proofs.Places.{opened_is_node, node_is_opened}
use Rattle.dt_read.proofs.tree_view.is_node.Goals as goal

pub loop-step-init : goal.loop-step-init
loop-step-init c =
    let whole = c.into_iter-step-iterator.ensures.into_iter_gives ∙ c.node_steps-step-items.ensures in
    let same = opened_without (steps_of c.args.blob.now) ∙ ap opened (sym whole) in
    (tt, tt, subst (IsIn c.args.node) same, subst (IsIn c.args.node) (sym same))

pub returns-then-here-node : goal.returns-then-here-node
returns-then-here-node c =
    let t = c.args.blob.now in
    let e = c.in-Some.ensures.steps ∙ ap (λ s. node_step_view s ∷ c.next.new.self) c.in-Open.is in
    let here = subst (λ steps. IsIn c.args.node (opened steps)) (sym e) (inl (sym c.if-here-node.true)) in
    (λ told. opened_is_node t c.args.node c.validity.ensures.valid c.validity.ensures.places (c.loop-step.invariant.3 here), λ is. refl)

pub returns : goal.returns
returns c =
    let t = c.args.blob.now in
    (λ told. absurd cc, λ is. absurd (subst (λ steps. IsIn c.args.node (opened steps)) c.in-None.ensures.steps.0 (c.loop-step.invariant.2 (node_is_opened t c.args.node c.validity.ensures.valid is))))
