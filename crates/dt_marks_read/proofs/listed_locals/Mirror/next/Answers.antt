use Rattle.std.proofs.Common.{◌≡◌, [], ap, sym, subst, ◌∙◌}
use Rattle.dt_model.specs.Object.{words_of}
use Rattle.dt_read.specs.StepsLeft.{step_view}
use Rattle.dt_marks_read.specs.declared.listed_locals.Mirror.{Mirror}
use Rattle.dt_marks_read.specs.LocalFixupsLeft.{walk_told}
use Rattle.dt_marks_read.specs.MirrorViews.{mirror_left}
use Rattle.dt_marks_read.proofs.ToldLocalFixups.{offsets_done, next_step, no_step, walk_ended}
use Rattle.dt_marks_read.proofs.listed_locals.Mirror.next.Goals as goal

-- what is told where no offset is left
at_steps : (s n l : Mirror) → mirror_left l ≡ mirror_left s → n ≡ l → words_of l.offsets.now ≡ [] → mirror_left s ≡ walk_told n.blob.now n.open_nodes n.steps
at_steps s n l kept same none =
    sym kept ∙ ap mirror_left (sym same)
    ∙ offsets_done n.blob.now n.node n.property.now n.value.now n.offsets.now n.open_nodes n.steps (subst (λ (m : Mirror). words_of m.offsets.now ≡ []) (sym same) none)

pub returns-in_err-node-clause-told : goal.returns-in_err-node-clause-told
returns-in_err-node-clause-told c =
    let n = c.next_offset.new.self in
    let told = c.in_default.ensures.told in
    let closed = ap (λ ks. walk_told n.blob.now ks n.steps) c.in_err-node.ensures ∙ walk_ended n.blob.now n.steps in
    rw c.from_residual.ensures (
      at_steps c.args.self.now n c.loop-told.self c.loop-told.invariant.1 told.1 told.0 ∙ closed,
      at_steps n n c.loop-told.self (ap mirror_left (sym told.1)) told.1 told.0 ∙ closed,
    )

pub returns-in_err-step-clause-told : goal.returns-in_err-step-clause-told
returns-in_err-step-clause-told c =
    let n = c.next_offset.new.self in
    let told = c.in_default.ensures.told in
    let steps = c.in_err-step.ensures.steps in
    let none = subst (λ (m : Mirror). words_of m.offsets.now ≡ []) (sym told.1) told.0 in
    rw c.from_residual-in_err-step.ensures (
      at_steps c.args.self.now n c.loop-told.self c.loop-told.invariant.1 told.1 told.0 ∙ no_step n.blob.now n.open_nodes n.steps steps.0,
      offsets_done n.blob.now n.node n.property.now n.value.now n.offsets.now n.open_nodes c.next.new.self none ∙ no_step n.blob.now n.open_nodes c.next.new.self steps.1,
    )

pub returns-in-Err-clause-told : goal.returns-in-Err-clause-told
returns-in-Err-clause-told c =
    let n = c.next_offset.new.self in
    let told = c.in_default.ensures.told in
    at_steps c.args.self.now n c.loop-told.self c.loop-told.invariant.1 told.1 told.0
    ∙ next_step n.blob.now n.open_nodes n.steps c.next.new.self (step_view c.in_ok-step.step) c.in_ok-step.ensures.steps
    ∙ c.in-Err.ensures.told

pub loop-told-preserved : goal.loop-told-preserved
loop-told-preserved c =
    let n = c.next_offset.new.self in
    let told = c.in_default.ensures.told in (
      c.take.ensures.may,
      sym (at_steps c.args.self.now n c.loop-told.self c.loop-told.invariant.1 told.1 told.0
          ∙ next_step n.blob.now n.open_nodes n.steps c.next.new.self (step_view c.in_ok-step.step) c.in_ok-step.ensures.steps
          ∙ c.in_default-take.ensures.told),
    )
