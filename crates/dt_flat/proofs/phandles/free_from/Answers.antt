use Rattle.std.proofs.Common.{arith}
use Rattle.dt_flat.specs.Numbers.{table_of}
use Rattle.dt_flat.proofs.FirstFree.{taken_more}
use Rattle.dt_flat.proofs.phandles.free_from.Goals as goal

pub loop-number-preserved : goal.loop-number-preserved
loop-number-preserved c = record {
  above = omega (arith, c.loop-number.invariant.above);
  taken = taken_more (table_of c.args.holders.now) c.args.from c.loop-number.number c.loop-number.invariant.taken c.loop-number-test.ensures;
}
