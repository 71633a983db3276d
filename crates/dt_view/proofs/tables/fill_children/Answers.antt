use Rattle.std.proofs.Common.{◌∷◌, [], ℕ, Option, sym, ap, subst, ◌∙◌}
use Rattle.dt_read.specs.StepsLeft.{node_step_view}
use Rattle.dt_read.specs.Walked.{steps_of, without_properties}
use Rattle.dt_view.specs.Tables.{PutsChild}
use Rattle.dt_read.proofs.Opened.{innermost, opened}
use Rattle.dt_read.proofs.Walking.{IsWalked, not_walked, nodes_walked, one_walked, is_innermost, room_walked, above_walked, end_walked, opened_without}
use Rattle.dt_view.proofs.Children.{names_told, names_without, none_found, one_found, others_found, all_found}
use Rattle.dt_view.proofs.tables.fill_children.Goals as goal

pub loop-step-init : goal.loop-step-init
loop-step-init c =
    let t = c.args.blob.now in
    let steps = steps_of t in
    let valid = c.validity.ensures.valid in
    let whole = c.into_iter-step-iterator.ensures.into_iter_gives ∙ c.node_steps-step-items.ensures in (
      tt,
      tt,
      rw (whole, c.new-open_nodes.ensures) (nodes_walked t [] steps (not_walked t valid c.validity.ensures.within c.validity.ensures.places)),
      rw (whole, c.requires) (others_found t [] steps (without_properties steps) (none_found t valid) (opened_without steps) (names_without steps)),
    )

pub push-requires : goal.push-requires
push-requires c =
    let e = c.in-Some.ensures.steps ∙ ap (λ s. node_step_view s ∷ c.next.new.self) c.in-Open.is in
    room_walked c.args.blob.now c.loop-step.open_nodes c.in-Open.node c.in-Open.name.now c.loop-step.step-iterator c.next.new.self c.loop-step.invariant.2 e

pub loop-step-preserved-in-Open : goal.loop-step-preserved-in-Open
loop-step-preserved-in-Open c =
    let t = c.args.blob.now in
    let e = c.in-Some.ensures.steps ∙ ap (λ s. node_step_view s ∷ c.next.new.self) c.in-Open.is in
    let inner = is_innermost c.innermost-above.result c.loop-step.open_nodes c.innermost-above.ensures in (
      tt,
      tt,
      subst (λ ks. IsWalked t ks c.next.new.self) (sym c.push.ensures)
          (one_walked t c.loop-step.open_nodes c.in-Open.node c.in-Open.name.now c.loop-step.step-iterator c.next.new.self c.loop-step.invariant.2 e),
      one_found t c.loop-step.children.entries c.put_child.new.children.entries c.in-Open.node c.in-Open.name.now (innermost c.loop-step.open_nodes) c.loop-step.step-iterator c.next.new.self c.validity.ensures.places c.loop-step.invariant.3 e
          (above_walked t c.loop-step.open_nodes c.in-Open.node c.in-Open.name.now c.loop-step.step-iterator c.next.new.self c.loop-step.invariant.2 e c.validity.ensures.valid c.validity.ensures.places)
          (subst (λ (a : Option ℕ). PutsChild c.loop-step.children.entries c.put_child.new.children.entries a c.in-Open.name.now c.in-Open.node) inner c.in_ok-put_child-in-Open.ensures),
    )

pub loop-step-preserved : goal.loop-step-preserved
loop-step-preserved c =
    let e = c.in-Some.ensures.steps ∙ ap (λ s. node_step_view s ∷ c.next.new.self) c.in-Close.is in (
      tt,
      tt,
      end_walked c.args.blob.now c.loop-step.open_nodes c.pop.new.self c.loop-step.step-iterator c.next.new.self c.loop-step.invariant.2 e c.pop.ensures,
      others_found c.args.blob.now c.loop-step.children.entries c.loop-step.step-iterator c.next.new.self c.loop-step.invariant.3 (ap opened e) (ap names_told e),
    )

pub returns : goal.returns
returns c = all_found c.args.blob.now c.loop-step.children.entries c.loop-step.step-iterator c.loop-step.invariant.3 c.in-None.ensures.steps.0
