use Rattle.std.proofs.Common.{◌≡◌, suc, ◌+◌, ◌-◌, ◌/◌, length, take, drop, replicate, sym, ap, ◌∙◌, arith}
use Rattle.std.specs.Prelude.{option_map}
use Rattle.dt_names.specs.declared.fault.FaultKind.TheVariants.{Loop}
use Rattle.dt_trees.specs.Placed.{path_at, reading_of}
use Rattle.dt_resolve_model.specs.Answers.{Answer, answer, refused, ◌>>=◌}
use Rattle.dt_resolve_model.specs.World.{tree_world, value_of_bytes}
use Rattle.dt_resolve_model.specs.Interrupts.{Sent}
use Rattle.dt_resolve_model.specs.Specifiers.{provided, provider_hop}
use Rattle.dt_resolve_model.proofs.Told.{refuses, told_fault}
use Rattle.dt_irq.specs.Cells.{numbers_of, quads}
use Rattle.dt_irq.specs.Seen.{end_of, route_in}
use Rattle.dt_irq.proofs.Figures.{figure_count, numbers_are, quads_are}
use Rattle.dt_irq.proofs.Providing.{arrives, too_far, goes_on}
use Rattle.dt_irq.proofs.Zeros.{take_front, drop_front}
use Rattle.dt_irq.proofs.providers.provided.Goals as goal

pub loop-map-init : goal.loop-map-init
loop-map-init g c =
    let t = g.V.TreeView.tree c.args.view.now in
    let w = tree_world (reading_of t) in
    let specifier = c.args.sent.specifier.now in
    let few = c.requires.few in
    let k = length specifier / 4 in
    let cells : take k c.cells_of.result ≡ numbers_of specifier = ap (take k) c.cells_of.ensures ∙ take_front (numbers_of specifier) (replicate (8 - k) 0) k (sym (figure_count specifier)) in
    record {
      few = omega arith;
      arrived = record {
        there = c.requires.there;
        few = omega arith;
        zeros = ap (drop k) c.cells_of.ensures ∙ drop_front (numbers_of specifier) (replicate (8 - k) 0) k (sym (figure_count specifier));
      };
      on = ap (λ s. provided w c.args.kind.now 64 0 (record { node = path_at t c.args.sent.node; specifier = s })) (ap quads cells ∙ quads_are specifier);
    }

pub returns-then-route-eq-MOST_HOPS-clause-is : goal.returns-then-route-eq-MOST_HOPS-clause-is
returns-then-route-eq-MOST_HOPS-clause-is g c =
    let t = g.V.TreeView.tree c.args.view.now in
    let w = tree_world (reading_of t) in
    let kind = c.args.kind.now in
    let route = c.loop-map.route in
    let at = end_of t route in
    let all : 64 - route.hops ≡ 0 = omega (arith, c.if-route-eq-MOST_HOPS.true) in
    refuses c.of.result Loop c.of.ensures.kind c.of.ensures.at
    ∙ sym (too_far w kind route.hops at (value_of_bytes c.in-Some.map.now) (ap (λ x. answer (option_map value_of_bytes x)) (sym c.in-Some.ensures)))
    ∙ ap (λ n. provided w kind n route.hops at) (sym all)
    ∙ c.loop-map.invariant.on

pub returns-in_err-route-clause-is : goal.returns-in_err-route-clause-is
returns-in_err-route-clause-is g c =
    let t = g.V.TreeView.tree c.args.view.now in
    let w = tree_world (reading_of t) in
    let kind = c.args.kind.now in
    let route = c.loop-map.route in
    let at = end_of t route in
    let e = c.in_err-route.field-0.0 in
    let left = 64 - (route.hops + 1) in
    let few = c.loop-map.invariant.few in
    let more : 64 - route.hops ≡ suc left = omega (arith, c.if-route-eq-MOST_HOPS.false) in
    let refused_so : provider_hop w kind at (value_of_bytes c.in-Some.map.now) ≡ refused e = sym c.in_err-route.ensures.is in
    told_fault c.from_residual.result e (route_in t) c.from_residual.ensures.1
    ∙ ap (λ (x : Answer Sent). x >>= provided w kind left (route.hops + 1)) (sym refused_so)
    ∙ sym (goes_on w kind left route.hops at (value_of_bytes c.in-Some.map.now) (ap (λ x. answer (option_map value_of_bytes x)) (sym c.in-Some.ensures)))
    ∙ ap (λ n. provided w kind n route.hops at) (sym more)
    ∙ c.loop-map.invariant.on

pub loop-map-preserved : goal.loop-map-preserved
loop-map-preserved g c =
    let t = g.V.TreeView.tree c.args.view.now in
    let w = tree_world (reading_of t) in
    let kind = c.args.kind.now in
    let route = c.loop-map.route in
    let at = end_of t route in
    let next = end_of t c.in_ok-route.route in
    let left = 64 - (route.hops + 1) in
    let few = c.loop-map.invariant.few in
    let hops : c.in_ok-route.route.hops ≡ route.hops + 1 = c.in_ok-route.ensures.hops in
    let more : 64 - route.hops ≡ suc left = omega (arith, c.if-route-eq-MOST_HOPS.false) in
    let on : provider_hop w kind at (value_of_bytes c.in-Some.map.now) ≡ answer next = sym c.in_ok-route.ensures.is in
    record {
      few = omega (arith, c.if-route-eq-MOST_HOPS.false);
      arrived = c.in_ok-route.ensures.arrived;
      on =
          ap (λ n. provided w kind (64 - n) n next) hops
          ∙ ap (λ (x : Answer Sent). x >>= provided w kind left (route.hops + 1)) (sym on)
          ∙ sym (goes_on w kind left route.hops at (value_of_bytes c.in-Some.map.now) (ap (λ x. answer (option_map value_of_bytes x)) (sym c.in-Some.ensures)))
          ∙ ap (λ n. provided w kind n route.hops at) (sym more)
          ∙ c.loop-map.invariant.on;
    }

pub returns-clause-is : goal.returns-clause-is
returns-clause-is g c =
    let t = g.V.TreeView.tree c.args.view.now in
    let w = tree_world (reading_of t) in
    let kind = c.args.kind.now in
    let route = c.loop-map.route in
    let at = end_of t route in
    sym (arrives w kind (64 - route.hops) route.hops at (take route.len route.cells) (ap (λ x. answer (option_map value_of_bytes x)) (sym c.in_default.ensures)) (numbers_are (take route.len route.cells)))
    ∙ c.loop-map.invariant.on
