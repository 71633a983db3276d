use Rattle.std.proofs.Common.{◌-◌, ◌^◌, arith}
use Rattle.dt_flat.specs.Numbers.{Table, table_of}
use Rattle.dt_flat.proofs.FirstFree.{taken_below, taken_elsewhere, most_taken}
use Rattle.dt_flat.proofs.phandles.Phandles.take.Goals as goal

pub invariant_of-self : goal.invariant_of-self
invariant_of-self c =
    let old : Table = table_of c.self.inside.holders in
    let new : Table = table_of c.swap_remove.new.self in
    let is = c.swap_remove.ensures.updates.0 in (
      most_taken old new c.args.number (2 ^ 32 - 1) is c.self.invariant.0,
      taken_below old new c.args.number c.self.inside.first_free is c.if-number-gt0.true c.if-number-self.true c.self.invariant.1,
    )

pub invariant_of-self-else-number-self : goal.invariant_of-self-else-number-self
invariant_of-self-else-number-self c =
    let old : Table = table_of c.self.inside.holders in
    let new : Table = table_of c.swap_remove.new.self in
    let is = c.swap_remove.ensures.updates.0 in (
      most_taken old new c.args.number (2 ^ 32 - 1) is c.self.invariant.0,
      taken_elsewhere old new c.args.number c.self.inside.first_free is (λ pos lt. omega (arith, c.if-number-self.false, lt)) c.self.invariant.1,
    )

pub invariant_of-self-else-number-gt0 : goal.invariant_of-self-else-number-gt0
invariant_of-self-else-number-gt0 c =
    let old : Table = table_of c.self.inside.holders in
    let new : Table = table_of c.swap_remove.new.self in
    let is = c.swap_remove.ensures.updates.0 in (
      most_taken old new c.args.number (2 ^ 32 - 1) is c.self.invariant.0,
      taken_elsewhere old new c.args.number c.self.inside.first_free is (λ pos lt. omega (arith, c.if-number-gt0.false, pos)) c.self.invariant.1,
    )
