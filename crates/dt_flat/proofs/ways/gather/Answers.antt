use Rattle.std.proofs.Common.{◌≡◌, ◌<◌, ◌≤◌, ◌-◌, ◌∷◌, ◌∙◌, sym, ap, subst, ℕ, suc, List, length, map, drop, set, arith}
use Rattle.std.specs.List.{AllByRecursion}
use Rattle.dt_flat.specs.Arena.{depth_of, parent_of, name_of, node_from}
use Rattle.dt_flat.proofs.ToRoot.{from_parent, drop-set}
use Rattle.dt_flat.proofs.ways.gather.Goals as goal

pub loop-at-preserved : goal.loop-at-preserved
loop-at-preserved c =
    let slots = c.args.places.now in
    let at = c.loop-at.at in
    let k = c.loop-at.first - 1 in
    let way = c.loop-at.way in
    let ok = c.loop-at.invariant in
    let rooted = c.requires.rooted in
    let pos : 0 < at = omega (arith, c.loop-at-test.true) in
    let up : c.parent-at.result ≡ parent_of slots at = c.parent-at.ensures in
    let above : parent_of slots at < at = rooted.above at pos ok.there in
    let deeper = rooted.deeper at pos ok.there in
    let next : suc k ≡ c.loop-at.first = omega (arith, deeper, ok.deep) in
    let room : k < length way = omega (arith, c.loop-at.auto.way, c.requires.room, ok.within, next) in
    let split : drop k (set way k at) ≡ at ∷ drop c.loop-at.first way = drop-set way k at room ∙ ap (λ (n : ℕ). at ∷ drop n way) next in
    record {
      there = omega (arith, up, above, ok.there);
      deep = subst (λ (i : ℕ). depth_of slots i ≤ k) (sym up) (omega (arith, deeper, ok.deep));
      within = omega (arith, ok.within);
      leads = ap (λ (i : ℕ). node_from slots i (map (name_of slots) (drop k (set way k at)))) up ∙ ap (λ (xs : List ℕ). node_from slots (parent_of slots at) (map (name_of slots) xs)) split
          ∙ from_parent slots at c.args.node (map (name_of slots) (drop c.loop-at.first way)) rooted c.requires.valid pos ok.there ok.leads;
      nodes = subst (AllByRecursion (λ i. (0 < i) × (i < length slots))) (sym split) ((pos, ok.there), ok.nodes);
    }
