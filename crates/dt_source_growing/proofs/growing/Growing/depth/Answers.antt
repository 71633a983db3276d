use Rattle.std.proofs.Common.{◌≡◌, ◌<◌, ◌∷◌, [], ℕ, true, Some, length, get_or, slice_get, arith}
use Rattle.dt_source_growing.specs.Grown.{name_said}
use Rattle.dt_source_growing.specs.declared.growing.Node.{Node}
use Rattle.dt_source_growing.specs.declared.growing.Growing.{Growing}
use Rattle.dt_source_growing.proofs.Leading.{leads_above, leads_below}
use Rattle.dt_source_growing.proofs.Found.{node_read}
use Rattle.dt_source_growing.proofs.growing.Growing.depth.Goals as goal

read_at : (g : Growing) (k : ℕ) (n : Node) → k < length g.nodes.items → n ≡ get_or g.nodes.items k n → slice_get g.nodes.items k ≡ Some n
read_at g k n inside read = node_read g k n (omega (arith, g.nodes.ok.0)) read

pub returns-then-not-below : goal.returns-then-not-below
returns-then-not-below c = λ p l.
    let g : Growing = c.args.self.now in
    let n : Node = c.index-below.result.now in
    let at : slice_get g.nodes.items c.loop-at.at ≡ Some n = read_at g c.loop-at.at n c.loop-at.invariant.inside c.index-below.ensures in
    let q = c.loop-at.invariant.from p l in
    let up = leads_above g c.loop-at.at n at c.loop-at-test.true q.0 q.1 in
    let fell = c.if-not-below.true in
    cc

pub loop-at-smaller : goal.loop-at-smaller
loop-at-smaller c =
    let g : Growing = c.args.self.now in
    let n : Node = c.index-below.result.now in
    let at : slice_get g.nodes.items c.loop-at.at ≡ Some n = read_at g c.loop-at.at n c.loop-at.invariant.inside c.index-below.ensures in
    c.args.self.now.sound.has_nodes.above c.loop-at.at n (omega (arith, c.loop-at-test.true)) at

pub loop-at-preserved : goal.loop-at-preserved
loop-at-preserved c =
    let g : Growing = c.args.self.now in
    let n : Node = c.index-below.result.now in
    let at : slice_get g.nodes.items c.loop-at.at ≡ Some n = read_at g c.loop-at.at n c.loop-at.invariant.inside c.index-below.ensures in
    let from : 0 < c.loop-at.at = omega (arith, c.loop-at-test.true) in
    let above : n.parent < c.loop-at.at = c.args.self.now.sound.has_nodes.above c.loop-at.at n from at in
    let stands : n.stands ≡ true = c.if-not-below.false in
    record {
      inside = omega (arith, above, c.loop-at.invariant.inside);
      low = omega (arith, above, c.loop-at.invariant.low);
      to = λ p l. let q = c.loop-at.invariant.to (name_said n.name ∷ p) (leads_below g c.loop-at.at n at from stands p l) in (q.0, q.1, omega (arith, q.2));
      from = λ p l. let q = c.loop-at.invariant.from p l in (leads_above g c.loop-at.at n at c.loop-at-test.true q.0 q.1).1;
    }

pub returns : goal.returns
returns c =
    let q = c.loop-at.invariant.to [] (c.loop-at-test.false, omega (arith, c.loop-at.invariant.inside)) in
    (q.0, q.1, omega (arith, q.2))
