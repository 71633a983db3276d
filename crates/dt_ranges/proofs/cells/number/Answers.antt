use Rattle.std.proofs.Common.{ℕ, ◌+◌, ◌*◌, ◌^◌, ◌≤◌, ◌<◌, drop, ap, sym, ◌∙◌, arith}
use Rattle.dt_resolve_model.specs.World.{quads_of}
use Rattle.dt_resolve_model.specs.Regions.{joined_to}
use Rattle.dt_ranges.proofs.RangesMap.{more_low}
use Rattle.dt_ranges.proofs.cells.number.Goals as goal

pub overflow_mul-number : goal.overflow_mul-number
overflow_mul-number c =
    let le : c.loop-i.i ≤ 3 = omega arith in
    let low = c.loop-i.invariant.low in
    let fits = (more_low c.loop-i.i c.loop-i.number 0 le low (omega arith)).1 in
    omega (arith, fits)

pub overflow_add-number : goal.overflow_add-number
overflow_add-number c =
    let le : c.loop-i.i ≤ 3 = omega arith in
    let low = c.loop-i.invariant.low in
    let few : c.from.result < 2 ^ 32 = omega arith in
    let fits = (more_low c.loop-i.i c.loop-i.number c.from.result le low few).1 in
    omega (arith, fits)

pub loop-i-preserved : goal.loop-i-preserved
loop-i-preserved c =
    let le : c.loop-i.i ≤ 3 = omega arith in
    let low = c.loop-i.invariant.low in
    let few : c.from.result < 2 ^ 32 = omega arith in
    record {
      low = (more_low c.loop-i.i c.loop-i.number c.from.result le low few).0;
      rest =
          ap (λ (n : ℕ). joined_to (c.loop-i.number * 2 ^ 32 + n) (drop (c.loop-i.i + 1) (quads_of c.args.bytes.now))) c.from.ensures
          ∙ sym (ap (joined_to c.loop-i.number) c.cell_at.ensures)
          ∙ c.loop-i.invariant.rest;
    }
