use Rattle.std.proofs.Common.{◌≡◌, ◌+◌, true, false, sym, ap, subst, ◌∙◌, Some, None, arith}
use Rattle.std.specs.Prelude.{is_some, option_map, codes, length, IfSome}
use Rattle.dt_model.specs.Tree.{nodes_of, value_in}
use Rattle.dt_names.specs.declared.fault.FaultKind.TheVariants.{NoParent, Loop}
use Rattle.dt_trees.specs.Placed.{path_at, reading_of, IsNode}
use Rattle.dt_trees.proofs.NodePlaces.{stands_place}
use Rattle.dt_resolve_model.specs.Answers.{answer, refused, refuse}
use Rattle.dt_resolve_model.specs.World.{tree_world}
use Rattle.dt_resolve_model.specs.Interrupts.{step_of, IsInterruptParent}
use Rattle.dt_resolve_model.proofs.Told.{refuses}
use Rattle.dt_resolve_model.proofs.Told.{told_fault}
use Rattle.dt_irq.proofs.Telling.{copied_some}
use Rattle.dt_irq.proofs.Ways.{Leads, here_first, step_more, ends_here, goes_round, too_many, leads_nowhere, is_refused, leads_to, leads_on}
use Rattle.dt_irq.proofs.parents.interrupt_parent.Goals as goal
use Rattle.dt_irq.proofs.parents.interrupt_parent.Goals.{then-is_power_of_two, else-is_power_of_two}

pub loop-steps-init : goal.loop-steps-init
loop-steps-init g c =
    let t = g.V.TreeView.tree c.args.view.now in
    let first = here_first (tree_world (reading_of t)) (path_at t c.args.node) in
    record { there = c.requires; on = first; back = (0, first); round = (0, first) }

pub returns-in_err-next-clause-is : goal.returns-in_err-next-clause-is
returns-in_err-next-clause-is g c =
    let t = g.V.TreeView.tree c.args.view.now in
    let w = tree_world (reading_of t) in
    let p = path_at t c.args.node in
    let here = path_at t c.loop-steps.here in
    let e = c.in_err-next.field-0.0 in
    subst (IsInterruptParent w p) (sym (told_fault c.from_residual.result e (path_at t) c.from_residual.ensures.1))
    (ends_here w c.loop-steps.steps p here (refused e) c.loop-steps.invariant.on (is_refused w here e (sym c.in_err-next.ensures.is)))

pub returns-in_default-clause-is : goal.returns-in_default-clause-is
returns-in_default-clause-is g c =
    let t = g.V.TreeView.tree c.args.view.now in
    let w = tree_world (reading_of t) in
    let p = path_at t c.args.node in
    let here = path_at t c.loop-steps.here in
    let none : step_of w here ≡ answer None = sym c.in_ok-next.ensures.is ∙ ap (λ o. answer (option_map (path_at t) o)) c.in_default.is in
    subst (IsInterruptParent w p) (sym (refuses c.of.result NoParent c.of.ensures.kind c.of.ensures.at))
    (ends_here w c.loop-steps.steps p here (refuse NoParent) c.loop-steps.invariant.on (leads_nowhere w here none))

pub returns-then-is_some-clause-is : goal.returns-then-is_some-clause-is
returns-then-is_some-clause-is g c =
    let t = g.V.TreeView.tree c.args.view.now in
    let w = tree_world (reading_of t) in
    let here = path_at t c.loop-steps.here in
    let next = path_at t c.in-Some.next in
    let to : step_of w here ≡ answer (Some next) = sym c.in_ok-next.ensures.is ∙ ap (λ o. answer (option_map (path_at t) o)) c.in-Some.is in
    let some : is_some (value_in (reading_of t) next (codes "#interrupt-cells")) ≡ true = ap is_some (sym c.value.ensures) ∙ copied_some c.value.result ∙ sym c.is_some.ensures ∙ c.if-is_some.true in
    ends_here w c.loop-steps.steps (path_at t c.args.node) here (answer next) c.loop-steps.invariant.on (leads_to (reading_of t) here next to some)

pub returns-then-next-passed-clause-is : goal.returns-then-next-passed-clause-is
returns-then-next-passed-clause-is g c =
    let t = g.V.TreeView.tree c.args.view.now in
    let w = tree_world (reading_of t) in
    let p = path_at t c.args.node in
    let here = path_at t c.loop-steps.here in
    let next = path_at t c.in-Some.next in
    let passed = path_at t c.loop-steps.passed in
    let to : step_of w here ≡ answer (Some next) = sym c.in_ok-next.ensures.is ∙ ap (λ o. answer (option_map (path_at t) o)) c.in-Some.is in
    let none : is_some (value_in (reading_of t) next (codes "#interrupt-cells")) ≡ false = ap is_some (sym c.value.ensures) ∙ copied_some c.value.result ∙ sym c.is_some.ensures ∙ c.if-is_some.false in
    let back = c.loop-steps.invariant.back in
    let round = c.loop-steps.invariant.round in
    subst (IsInterruptParent w p) (sym (refuses c.of-then-next-passed.result Loop c.of-then-next-passed.ensures.kind c.of-then-next-passed.ensures.at))
    (goes_round w back.0 round.0 p passed next back.1 (step_more w round.0 passed here next round.1 (leads_on (reading_of t) here next to none)) (ap (path_at t) (sym c.if-next-passed.true)))

pub loop-steps-preserved : goal.loop-steps-preserved
loop-steps-preserved g c =
    let t = g.V.TreeView.tree c.args.view.now in
    let w = tree_world (reading_of t) in
    let p = path_at t c.args.node in
    let here = path_at t c.loop-steps.here in
    let next = path_at t c.in-Some.next in
    let passed = path_at t c.loop-steps.passed in
    let to : step_of w here ≡ answer (Some next) = sym c.in_ok-next.ensures.is ∙ ap (λ o. answer (option_map (path_at t) o)) c.in-Some.is in
    let none : is_some (value_in (reading_of t) next (codes "#interrupt-cells")) ≡ false = ap is_some (sym c.value.ensures) ∙ copied_some c.value.result ∙ sym c.is_some.ensures ∙ c.if-is_some.false in
    let lead = leads_on (reading_of t) here next to none in
    let on = step_more w c.loop-steps.steps p here next c.loop-steps.invariant.on lead in
    let back = c.loop-steps.invariant.back in
    let round = c.loop-steps.invariant.round in
    record {
      there = subst (λ o. IfSome o (IsNode t)) c.in-Some.is c.in_ok-next.ensures.node;
      on = on;
      back = elim c.if-is_power_of_two.branch [
        | then-is_power_of_two v ↦ (c.loop-steps.steps + 1, subst (λ k. Leads w (c.loop-steps.steps + 1) p (path_at t k)) (sym v.passed-is) on)
        | else-is_power_of_two v ↦ (back.0, subst (λ k. Leads w back.0 p (path_at t k)) (sym v.passed-is) back.1)
      ];
      round = elim c.if-is_power_of_two.branch [
        | then-is_power_of_two v ↦ (0, subst (λ k. Leads w 0 (path_at t k) next) (sym v.passed-is) (here_first w next))
        | else-is_power_of_two v ↦ (round.0 + 1, subst (λ k. Leads w (round.0 + 1) (path_at t k) next) (sym v.passed-is) (step_more w round.0 passed here next round.1 lead))
      ];
    }

pub returns-clause-is : goal.returns-clause-is
returns-clause-is g c =
    let t = g.V.TreeView.tree c.args.view.now in
    let w = tree_world (reading_of t) in
    let p = path_at t c.args.node in
    let here = path_at t c.loop-steps.here in
    let there = sym (stands_place t p) ∙ ap is_some c.requires in
    let all : c.loop-steps.steps ≡ length (nodes_of (reading_of t)) = omega (arith, c.node_count-steps-end.ensures) in
    subst (IsInterruptParent w p) (sym (refuses c.of-2.result Loop c.of-2.ensures.kind c.of-2.ensures.at))
    (too_many (reading_of t) p here c.loop-steps.steps c.validity.ensures.valid there all c.loop-steps.invariant.on)
