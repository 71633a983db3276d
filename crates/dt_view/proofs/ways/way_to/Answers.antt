use Rattle.std.proofs.Common.{◌≤◌, ◌++◌, length, sym, ap, ◌∙◌, subst, arith}
use Rattle.std.specs.Prelude.{is_some}
use Rattle.dt_model.specs.Limits.{most_names}
use Rattle.dt_trees.specs.Placed.{path_at, reading_of}
use Rattle.dt_trees.proofs.NodePlaces.{stands_place}
use Rattle.dt_model.proofs.Depths.{within_depth}
use Rattle.dt_view.specs.Ways.{names_text, way_text, AreNodes}
use Rattle.dt_view.proofs.PathTexts.{one_name_less, one_shorter}
use Rattle.dt_view.proofs.ways.way_to.Goals as goal

pub push-requires : goal.push-requires
push-requires g c =
    let t = g.V.TreeView.tree c.args.view.now in
    let p = path_at t c.args.node in
    let deep : length p ≤ most_names = within_depth (reading_of t) p c.validity.ensures.within (sym (stands_place t p) ∙ ap is_some c.requires) in
    let long = c.loop-above.invariant.long in
    omega (arith, deep, long)

pub loop-above-smaller : goal.loop-above-smaller
loop-above-smaller g c =
    let t = g.V.TreeView.tree c.args.view.now in
    let less = one_shorter (path_at t c.loop-above.here) (path_at t c.in-Some.above) c.in-Some.ensures.2 c.in-Some.ensures.1 in
    omega (arith, less)

pub loop-above-preserved : goal.loop-above-preserved
loop-above-preserved g c =
    let t = g.V.TreeView.tree c.args.view.now in
    let here = path_at t c.loop-above.here in
    let above = path_at t c.in-Some.above in
    let less = one_shorter here above c.in-Some.ensures.2 c.in-Some.ensures.1 in
    let long = c.loop-above.invariant.long in
    record {
      there = c.in-Some.ensures.0;
      nodes = subst (AreNodes t) (sym c.push.ensures) (c.loop-above.invariant.there, c.loop-above.invariant.nodes);
      text = ap (λ ks. names_text above ++ way_text t ks) c.push.ensures ∙ one_name_less here above (way_text t c.loop-above.way) c.in-Some.ensures.2 c.in-Some.ensures.1 ∙ c.loop-above.invariant.text;
      long = omega (arith, less, long, ap length c.push.ensures);
    }
