use Rattle.std.proofs.Common.{◌≡◌, ◌++◌, [], List, ℕ, length, sym, ap, subst, ◌∙◌, arith}
use Rattle.dt_trees.specs.Placed.{path_at}
use Rattle.dt_trees.specs.Views.{AreAbove}
use Rattle.dt_view.specs.Ways.{AreNodes}
use Rattle.dt_view.proofs.PathTexts.{one_shorter}
use Rattle.dt_edit.proofs.DownPaths.{names_down, one_up}
use Rattle.dt_overlay_base.proofs.LooksNames.{path_short}
use Rattle.dt_edit.proofs.finding.way_to.Goals as goal

pub push-requires : goal.push-requires
push-requires c =
    let short = path_short c.args.blob.now c.args.node c.validity.ensures.within c.requires in
    let long = c.loop-next.invariant.long in
    omega (arith, short, long)

pub loop-next-smaller : goal.loop-next-smaller
loop-next-smaller c = omega (arith, ap (λ (ks : List ℕ). length ks) c.in-Some.ensures, ap (λ (ks : List ℕ). length ks) c.pop.ensures)

pub loop-next-preserved : goal.loop-next-preserved
loop-next-preserved c =
    let t = c.args.blob.now in
    let above = subst (AreAbove t c.loop-next.here) c.in-Some.ensures c.loop-next.invariant.above in
    let less = one_shorter (path_at t c.loop-next.here) (path_at t c.in-Some.next) above.0.2 above.0.1 in
    let long = c.loop-next.invariant.long in
    record {
      there = above.0.0;
      above = subst (AreAbove t c.in-Some.next) (sym c.pop.ensures) above.1;
      nodes = subst (AreNodes t) (sym c.push.ensures) (c.loop-next.invariant.there, c.loop-next.invariant.nodes);
      names = ap (λ (ks : List ℕ). path_at t c.in-Some.next ++ names_down t ks) c.push.ensures ∙ one_up t c.loop-next.here c.in-Some.next c.loop-next.way above.0.1 above.0.2 ∙ c.loop-next.invariant.names;
      long = omega (arith, less, long, ap (λ (ks : List ℕ). length ks) c.push.ensures);
    }

pub returns-clause-names : goal.returns-clause-names
returns-clause-names c =
    let t = c.args.blob.now in
    let top : path_at t c.loop-next.here ≡ [] = subst (AreAbove t c.loop-next.here) c.in_default.ensures c.loop-next.invariant.above in
    ap (λ p. p ++ names_down t c.loop-next.way) (sym top) ∙ c.loop-next.invariant.names
