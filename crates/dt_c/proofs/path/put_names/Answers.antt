use Rattle.std.proofs.Common.{◌≡◌, ◌++◌, List, ℕ, codes, length, reverse, sym, ap, subst, ◌∙◌, arith}
use Rattle.std.proofs.lemmas.List.{length-reverse}
use Rattle.dt_trees.specs.Placed.{path_at, last_name}
use Rattle.dt_c.proofs.Texts.{AreNamesPut, same_length, one_put, one_name_put, no_room}
use Rattle.dt_c.proofs.path.put_names.Goals as goal

pub returns-in_err-end : goal.returns-in_err-end
returns-in_err-end c =
    let t = c.args.blob.now in
    let name : c.name.result.now ≡ last_name (path_at t c.loop-next.here) = c.name.ensures (path_at t c.loop-next.here) c.loop-next.invariant.there in
    let lt = c.in_err-end.ensures.0 in
    rw c.from_residual.ensures
    (no_room t c.args.node c.loop-next.here c.in-Some.next c.loop-next.end c.loop-next.above c.args.out.now c.loop-next.out c.put_reversed.new.out c.name.result.now name c.in-Some.ensures c.loop-next.invariant
    (ap length c.in_err-end.ensures.1) (omega (arith, lt)))

pub returns-in_err-end-2 : goal.returns-in_err-end-2
returns-in_err-end-2 c =
    let t = c.args.blob.now in
    let h = c.loop-next.invariant in
    let name : c.name.result.now ≡ last_name (path_at t c.loop-next.here) = c.name.ensures (path_at t c.loop-next.here) h.there in
    let (size, fits, is) = c.in_ok-end.ensures in
    let turned = length-reverse c.name.result.now in
    let first = one_put (reverse h.text) (reverse c.name.result.now) c.loop-next.end c.in_ok-end.end c.args.out.now c.loop-next.out c.put_reversed.new.out h.put (omega (arith, size, turned)) fits is in
    let long = same_length (reverse h.text ++ reverse c.name.result.now) c.in_ok-end.end c.args.out.now c.put_reversed.new.out first in
    let before = same_length (reverse h.text) c.loop-next.end c.args.out.now c.loop-next.out h.put in
    let lt = c.in_err-end-2.ensures.0 in
    rw c.from_residual-in_err-end-2.ensures
    (no_room t c.args.node c.loop-next.here c.in-Some.next c.loop-next.end c.loop-next.above c.args.out.now c.loop-next.out c.put_reversed-in-Some.new.out c.name.result.now name c.in-Some.ensures h
    (ap length c.in_err-end-2.ensures.1 ∙ long ∙ sym before) (omega (arith, lt, size, long, before)))

pub loop-next-preserved : goal.loop-next-preserved
loop-next-preserved c =
    let t = c.args.blob.now in
    let h = c.loop-next.invariant in
    let name : c.name.result.now ≡ last_name (path_at t c.loop-next.here) = c.name.ensures (path_at t c.loop-next.here) h.there in
    let (size, fits, is) = c.in_ok-end.ensures in
    let (size', fits', is') = c.in_ok-end-2.ensures in
    let turned = length-reverse c.name.result.now in
    let first = one_put (reverse h.text) (reverse c.name.result.now) c.loop-next.end c.in_ok-end.end c.args.out.now c.loop-next.out c.put_reversed.new.out h.put (omega (arith, size, turned)) fits is in
    let both = one_put (reverse h.text ++ reverse c.name.result.now) (codes "/") c.in_ok-end.end c.in_ok-end-2.end c.args.out.now c.put_reversed.new.out c.put_reversed-in-Some.new.out first size' fits' is' in
    subst (λ (ks : List ℕ). AreNamesPut t c.args.node c.in-Some.next c.in_ok-end-2.end ks c.args.out.now c.put_reversed-in-Some.new.out) (sym c.pop.ensures)
    (one_name_put t c.args.node c.loop-next.here c.in-Some.next c.loop-next.end c.in_ok-end.end c.in_ok-end-2.end c.loop-next.above c.args.out.now c.loop-next.out c.put_reversed.new.out c.put_reversed-in-Some.new.out c.name.result.now name c.in-Some.ensures h first both)
