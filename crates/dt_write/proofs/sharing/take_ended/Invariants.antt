use Rattle.std.proofs.Common.{◌≡◌, None, reverse, length}
use Rattle.dt_write.specs.Rows.{gathered, left}
use Rattle.dt_write.proofs.sharing.take_ended.Given as goal

abbrev pub decreases-loop-last : goal.decreases-loop-last
decreases-loop-last l = length l.stack.items

abbrev pub invariant-loop-last : goal.invariant-loop-last
invariant-loop-last l =
    (gathered l.row.name.now l.least (reverse l.stack.items) ≡ gathered l.row.name.now None (reverse l.initial.stack.items))
    × (left l.row.name.now (reverse l.stack.items) ≡ left l.row.name.now (reverse l.initial.stack.items))
