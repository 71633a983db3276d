use Rattle.std.proofs.Common.{◌≡◌, suc, ◌+◌, ◌-◌, ◌/◌, true, false, length, take, replicate, refl, sym, ap, ◌∙◌, arith}
use Rattle.std.specs.Prelude.{is_some, option_map, codes}
use Rattle.dt_model.specs.Tree.{value_in}
use Rattle.dt_names.specs.declared.fault.FaultKind.TheVariants.{BadMap, Loop}
use Rattle.dt_trees.specs.Placed.{reading_of}
use Rattle.dt_resolve_model.specs.Answers.{Answer, answer, refused, ◌>>=◌}
use Rattle.dt_resolve_model.specs.World.{tree_world, value_of_bytes}
use Rattle.dt_resolve_model.specs.Interrupts.{Interrupt, hop, routed}
use Rattle.dt_resolve_model.proofs.Told.{refuses}
use Rattle.dt_irq.specs.Cells.{numbers_of}
use Rattle.dt_irq.specs.Seen.{interrupt_in, route_in}
use Rattle.dt_irq.proofs.Figures.{are_numbers, figure_count}
use Rattle.dt_irq.proofs.MapSteps.{arrives, no_map, too_far, goes_on}
use Rattle.dt_resolve_model.proofs.Told.{told_fault}
use Rattle.dt_irq.proofs.Telling.{some_value, no_value, copied_some}
use Rattle.dt_irq.proofs.Zeros.{take_front}
use Rattle.dt_irq.proofs.routing.routed.Goals as goal

pub returns-then-is_some-clause-is : goal.returns-then-is_some-clause-is
returns-then-is_some-clause-is g c =
    let t = g.V.TreeView.tree c.args.view.now in
    let w = tree_world (reading_of t) in
    let at = interrupt_in t c.loop-at.at in
    let specifier = c.loop-at.at.specifier.now in
    let o = value_in (reading_of t) at.node (codes "interrupt-controller") in
    let some : is_some o ≡ true = ap is_some (sym c.value.ensures) ∙ copied_some c.value.result ∙ sym c.is_some.ensures ∙ c.if-is_some.true in
    let v = some_value o some in
    let cells : take (length specifier / 4) c.cells_of.result ≡ numbers_of specifier =
    ap (take (length specifier / 4)) c.cells_of.ensures ∙ take_front (numbers_of specifier) (replicate (8 - length specifier / 4) 0) (length specifier / 4) (sym (figure_count specifier)) in
    (λ i. answer (record { controller = at.node; cells = cells i; hops = c.loop-at.hops }))
    ∙ sym (arrives w (64 - c.loop-at.hops) c.loop-at.hops at v.0 (option_map value_of_bytes (value_in (reading_of t) at.node (codes "interrupt-map"))) (numbers_of specifier) (ap (λ x. answer x) v.1) refl (are_numbers specifier))
    ∙ c.loop-at.invariant.on

pub returns-in_default-clause-is : goal.returns-in_default-clause-is
returns-in_default-clause-is g c =
    let t = g.V.TreeView.tree c.args.view.now in
    let w = tree_world (reading_of t) in
    let at = interrupt_in t c.loop-at.at in
    let o = value_in (reading_of t) at.node (codes "interrupt-controller") in
    let none : is_some o ≡ false = ap is_some (sym c.value.ensures) ∙ copied_some c.value.result ∙ sym c.is_some.ensures ∙ c.if-is_some.false in
    refuses c.of.result BadMap c.of.ensures.kind c.of.ensures.at
    ∙ sym (no_map w (64 - c.loop-at.hops) c.loop-at.hops at (ap (λ x. answer x) (no_value o none)) (ap (λ x. answer (option_map value_of_bytes x)) (sym c.in_default.ensures)))
    ∙ c.loop-at.invariant.on

pub returns-then-hops-eq-MOST_HOPS-clause-is : goal.returns-then-hops-eq-MOST_HOPS-clause-is
returns-then-hops-eq-MOST_HOPS-clause-is g c =
    let t = g.V.TreeView.tree c.args.view.now in
    let w = tree_world (reading_of t) in
    let at = interrupt_in t c.loop-at.at in
    let o = value_in (reading_of t) at.node (codes "interrupt-controller") in
    let none : is_some o ≡ false = ap is_some (sym c.value.ensures) ∙ copied_some c.value.result ∙ sym c.is_some.ensures ∙ c.if-is_some.false in
    let all : 64 - c.loop-at.hops ≡ 0 = omega (arith, c.if-hops-eq-MOST_HOPS.true) in
    refuses c.of-then-hops-eq-MOST_HOPS.result Loop c.of-then-hops-eq-MOST_HOPS.ensures.kind c.of-then-hops-eq-MOST_HOPS.ensures.at
    ∙ sym (too_far w c.loop-at.hops at (value_of_bytes c.in-Some.map.now) (ap (λ x. answer x) (no_value o none)) (ap (λ x. answer (option_map value_of_bytes x)) (sym c.in-Some.ensures)))
    ∙ ap (λ n. routed w n c.loop-at.hops at) (sym all)
    ∙ c.loop-at.invariant.on

pub returns-in_err-at-clause-is : goal.returns-in_err-at-clause-is
returns-in_err-at-clause-is g c =
    let t = g.V.TreeView.tree c.args.view.now in
    let w = tree_world (reading_of t) in
    let at = interrupt_in t c.loop-at.at in
    let e = c.in_err-at.field-0.0 in
    let o = value_in (reading_of t) at.node (codes "interrupt-controller") in
    let none : is_some o ≡ false = ap is_some (sym c.value.ensures) ∙ copied_some c.value.result ∙ sym c.is_some.ensures ∙ c.if-is_some.false in
    let left = 64 - (c.loop-at.hops + 1) in
    let few = c.loop-at.invariant.few in
    let more : 64 - c.loop-at.hops ≡ suc left = omega (arith, c.if-hops-eq-MOST_HOPS.false) in
    let refused_so : hop w at (value_of_bytes c.in-Some.map.now) ≡ refused e = sym c.in_err-at.ensures.is in
    told_fault c.from_residual.result e (route_in t) c.from_residual.ensures.1
    ∙ ap (λ (x : Answer Interrupt). x >>= routed w left (c.loop-at.hops + 1)) (sym refused_so)
    ∙ sym (goes_on w left c.loop-at.hops at (value_of_bytes c.in-Some.map.now) (ap (λ x. answer x) (no_value o none)) (ap (λ x. answer (option_map value_of_bytes x)) (sym c.in-Some.ensures)))
    ∙ ap (λ n. routed w n c.loop-at.hops at) (sym more)
    ∙ c.loop-at.invariant.on

pub loop-at-preserved : goal.loop-at-preserved
loop-at-preserved g c =
    let t = g.V.TreeView.tree c.args.view.now in
    let w = tree_world (reading_of t) in
    let at = interrupt_in t c.loop-at.at in
    let next = interrupt_in t c.in_ok-at.at in
    let o = value_in (reading_of t) at.node (codes "interrupt-controller") in
    let none : is_some o ≡ false = ap is_some (sym c.value.ensures) ∙ copied_some c.value.result ∙ sym c.is_some.ensures ∙ c.if-is_some.false in
    let left = 64 - (c.loop-at.hops + 1) in
    let few = c.loop-at.invariant.few in
    let more : 64 - c.loop-at.hops ≡ suc left = omega (arith, c.if-hops-eq-MOST_HOPS.false) in
    let on : hop w at (value_of_bytes c.in-Some.map.now) ≡ answer next = sym c.in_ok-at.ensures.is in
    record {
      few = omega (arith, c.if-hops-eq-MOST_HOPS.false);
      there = c.in_ok-at.ensures.there;
      on =
          ap (λ (x : Answer Interrupt). x >>= routed w left (c.loop-at.hops + 1)) (sym on)
          ∙ sym (goes_on w left c.loop-at.hops at (value_of_bytes c.in-Some.map.now) (ap (λ x. answer x) (no_value o none)) (ap (λ x. answer (option_map value_of_bytes x)) (sym c.in-Some.ensures)))
          ∙ ap (λ n. routed w n c.loop-at.hops at) (sym more)
          ∙ c.loop-at.invariant.on;
    }
