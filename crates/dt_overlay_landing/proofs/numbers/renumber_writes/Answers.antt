use Rattle.std.proofs.Common.{◌≡◌, ◌∙◌, ◌++◌, ◌+◌, ◌<◌, length, ℕ, suc, sym, ap, subst, map, take, drop, arith}
use Rattle.std.specs.Prelude.{slice_set}
use Rattle.dt_overlay_object.specs.Plans.{own_number, renumbered}
use Rattle.dt_overlay_object.specs.declared.kept.Write.{Write}
use Rattle.dt_overlay_landing.proofs.NumbersLanded.{get_or_same, set_next, length_set}
use Rattle.dt_trees.specs.Placed.{reading_of}
use Rattle.dt_overlay_landing.proofs.numbers.renumber_writes.Goals as goal

pub loop-i-preserved : goal.loop-i-preserved
loop-i-preserved g c numbers brought =
    let r = reading_of (g.V.TreeView.tree c.args.object.now) in
    let f = renumbered r numbers in
    let old = c.args.writes.now.items in
    let now = c.loop-i.writes.items in
    let i = c.loop-i.i in
    let w : Write = c.index_mut.result.now in
    let there : i < length old = omega (arith, c.loop-i-test.true, c.len-i-end.ensures, c.args.writes.now.ok.0) in
    let all = length_set f old now i (c.loop-i.invariant numbers brought) in
    let same : c.index.result.now ≡ w = c.index.ensures ∙ get_or_same now i c.index.result.now w (omega (arith, there, all)) ∙ sym c.index_mut.ensures.value in
    let next : Write = record w { number = c.new_number.result } in
    let more : suc i ≡ i + 1 = omega arith in
    subst (λ (k : ℕ). slice_set now i next ≡ map f (take k old) ++ drop k old) more
    (set_next f old now i w next (c.loop-i.invariant numbers brought) there c.index_mut.ensures.value
    (ap (λ (n : ℕ). record w { number = n }) (c.new_number.ensures numbers brought ∙ ap (λ (v : Write). own_number r numbers v.number) same)))
