use Rattle.std.proofs.Common.{◌∷◌, refl, sym, ap, ◌∙◌}
use Rattle.dt_trees.specs.Placed.{reading_of}
use Rattle.dt_read.specs.StepsLeft.{node_step_view}
use Rattle.dt_read.specs.Walked.{steps_of, without_properties}
use Rattle.dt_read.proofs.Walking.{opened_without}
use Rattle.dt_read.proofs.Opened.{opened}
use Rattle.dt_resolve_lines.specs.Listed.{AreOwn, AreOwnBegun}
use Rattle.dt_resolve_lines.proofs.Nodes.{none_past, next_is_node, past_one, past_another, cut_at_one, all_past}
use Rattle.dt_resolve_model.proofs.Told.{if_fault}
use Rattle.dt_resolve_lines.proofs.listing.put_nodes.Goals as goal

pub loop-step-init : goal.loop-step-init
loop-step-init g c =
    let t = c.args.index.now in
    let own = AreOwn c.args.listing (reading_of t) in
    let whole = c.into_iter-step-iterator.ensures.into_iter_gives ∙ c.node_steps-step-items.ensures ∙ ap (λ u. without_properties (steps_of u)) c.blob.ensures in
    (tt, tt, past_another own t (steps_of t) _ (opened_without (steps_of t) ∙ ap opened (sym whole)) (none_past own t _ (steps_of t) c.validity.ensures.valid refl))

pub put_node-requires : goal.put_node-requires
put_node-requires g c =
    let e = c.in-Some.ensures.steps ∙ ap (λ s. node_step_view s ∷ c.next.new.self) c.in-Open.is in
    next_is_node (AreOwn c.args.listing (reading_of c.args.index.now)) c.args.index.now c.validity.ensures.places c.in-Open.node c.in-Open.name.now _ _ e c.loop-step.invariant.2

pub loop-step-preserved-in-Continue-1 : goal.loop-step-preserved-in-Continue-1
loop-step-preserved-in-Continue-1 g c =
    let e = c.in-Some.ensures.steps ∙ ap (λ s. node_step_view s ∷ c.next.new.self) c.in-Open.is in
    (tt, tt, past_one (AreOwn c.args.listing (reading_of c.args.index.now)) c.args.index.now c.validity.ensures.places c.in-Open.node c.in-Open.name.now _ _ e c.loop-step.invariant.2 c.in_ok-put_node-in-Open.ensures.written)

pub loop-step-preserved : goal.loop-step-preserved
loop-step-preserved g c =
    let e = c.in-Some.ensures.steps ∙ ap (λ s. node_step_view s ∷ c.next.new.self) c.in-Close.is in
    (tt, tt, past_another (AreOwn c.args.listing (reading_of c.args.index.now)) c.args.index.now _ _ (ap opened e) c.loop-step.invariant.2)

pub returns-in_err-put_node-in-Open-clause-refused : goal.returns-in_err-put_node-in-Open-clause-refused
returns-in_err-put_node-in-Open-clause-refused g c =
    let e = c.in-Some.ensures.steps ∙ ap (λ s. node_step_view s ∷ c.next.new.self) c.in-Open.is in
    let t = c.args.index.now in
    if_fault _ _ _ c.from_residual.ensures.1
    (cut_at_one (AreOwn c.args.listing (reading_of t)) t c.validity.ensures.places c.in-Open.node c.in-Open.name.now _ _ e (AreOwnBegun c.args.listing (reading_of t)) c.loop-step.invariant.2 c.in_err-put_node-in-Open.ensures.refused)

pub returns-clause-written : goal.returns-clause-written
returns-clause-written g c =
    all_past (AreOwn c.args.listing (reading_of c.args.index.now)) c.args.index.now _ c.in-None.ensures.steps.0 c.loop-step.invariant.2
