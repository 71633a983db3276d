use Rattle.dt_flat.proofs.Soundness.{IsSound-root}
use Rattle.dt_flat.proofs.tree.FlatTree.seeded.Goals as goal

pub invariant_of-result : goal.invariant_of-result
invariant_of-result c = rw (c.new.ensures.items, c.new-2.ensures) (IsSound-root c.args.boot_cpu c.new-3.result c.ranges.boot_cpu.fits c.new-3.ensures)
