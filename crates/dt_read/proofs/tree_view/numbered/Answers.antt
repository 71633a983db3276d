use Rattle.std.proofs.Common.{[], ◌∷◌, ◌∙◌, refl, sym, ap, subst}
use Rattle.dt_model.specs.Applied.{is_cell}
use Rattle.dt_read.specs.StepsLeft.{node_step_view}
use Rattle.dt_read.proofs.Openings.{all_opened}
use Rattle.dt_read.proofs.Walking.{nodes_opened}
use Rattle.dt_read.proofs.Numbered.{Finds, opens_node, found, passed}
use Rattle.dt_read.proofs.tree_view.numbered.Goals as goal

pub loop-step-init : goal.loop-step-init
loop-step-init c =
    let t = c.args.blob.now in
    let whole = c.into_iter-step-iterator.ensures.into_iter_gives ∙ c.node_steps-step-items.ensures in
    (tt, tt, subst (Finds t c.args.number) (sym whole) (record { before = []; nodes = _; opened = nodes_opened t [] _ _ (all_opened t c.validity.ensures.valid); same = refl }))

pub value_of-requires : goal.value_of-requires
value_of-requires c =
    let e = c.in-Some.ensures.steps ∙ ap (λ s. node_step_view s ∷ c.next.new.self) c.in-Open.is in
    opens_node c.args.blob.now c.args.number c.in-Open.node c.in-Open.name.now c.loop-step.step-iterator c.next.new.self c.validity.ensures.places c.loop-step.invariant.2 e

pub returns-then-is_number-clause-finds : goal.returns-then-is_number-clause-finds
returns-then-is_number-clause-finds c =
    let e = c.in-Some.ensures.steps ∙ ap (λ s. node_step_view s ∷ c.next.new.self) c.in-Open.is in
    let has = ap (is_cell c.args.number) (sym c.value_of.ensures) ∙ sym c.is_number.ensures ∙ c.if-is_number.true in
    found c.args.blob.now c.args.number c.in-Open.node c.in-Open.name.now c.loop-step.step-iterator c.next.new.self c.validity.ensures.valid c.validity.ensures.places c.loop-step.invariant.2 e has

pub returns-then-is_number-clause-node : goal.returns-then-is_number-clause-node
returns-then-is_number-clause-node c =
    let e = c.in-Some.ensures.steps ∙ ap (λ s. node_step_view s ∷ c.next.new.self) c.in-Open.is in
    opens_node c.args.blob.now c.args.number c.in-Open.node c.in-Open.name.now c.loop-step.step-iterator c.next.new.self c.validity.ensures.places c.loop-step.invariant.2 e

pub loop-step-preserved-else-is_number : goal.loop-step-preserved-else-is_number
loop-step-preserved-else-is_number c =
    let e = c.in-Some.ensures.steps ∙ ap (λ s. node_step_view s ∷ c.next.new.self) c.in-Open.is in
    let has = ap (is_cell c.args.number) (sym c.value_of.ensures) ∙ sym c.is_number.ensures ∙ c.if-is_number.false in
    (tt, tt, passed c.args.blob.now c.args.number c.in-Open.node c.in-Open.name.now c.loop-step.step-iterator c.next.new.self c.validity.ensures.valid c.validity.ensures.places c.loop-step.invariant.2 e has)
