use Rattle.std.proofs.Common.{◌≡◌, ◌-◌, ◌∙◌, ap, suc, cond, Bool, Some, drop, drop-cons, get_or, arith}
use Rattle.dt_flat.specs.Rows.{entry}
use Rattle.dt_flat.proofs.IndexLemmas.{place_from, from-first, row-flip, hashed-row}
use Rattle.dt_flat.proofs.keys.fill.Goals as goal

pub loop-place-preserved : goal.loop-place-preserved
loop-place-preserved c =
    let rs = c.args.rows.now in
    let i = c.loop-place.place - 1 in
    let r = get_or rs i (0, 0) in
    let next : c.loop-place.place ≡ suc i = omega (arith, c.loop-place-test.true) in
    record {
      within = omega (arith, c.loop-place.invariant.within);
      hashed = hashed-row rs i r c.loop-place.index.entries c.insert.new.self.entries (drop-cons rs i (0, 0) (omega (arith, c.loop-place.invariant.within, c.loop-place-test.true)))
          (λ p k. c.loop-place.invariant.hashed p k ∙ (λ j. place_from (next j) p k (drop (next j) rs)))
          (λ p k. c.in_ok-insert.ensures.updates.0 (p, k) ∙ ap (λ (b : Bool). cond b (Some i) (entry c.loop-place.index.entries p k)) (row-flip p k r));
    }

pub returns : goal.returns
returns c p k =
    let rs = c.args.rows.now in
    let none : c.loop-place.place ≡ 0 = omega (arith, c.loop-place-test.false) in
    c.loop-place.invariant.hashed p k ∙ (λ j. place_from (none j) p k (drop (none j) rs)) ∙ from-first p k rs
