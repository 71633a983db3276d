-- What is reserved and what is left is all.
use Rattle.std.proofs.Common.{◌≡◌, ◌++◌, length}
use Rattle.std.specs.List.{AllByRecursion}
use Rattle.dt_model.specs.Valid.{IsReservation}
use Rattle.dt_read.specs.Pairs.{pairs_of}
use Rattle.dt_read.proofs.flatten.reserve.Given as goal

abbrev pub invariant-loop-address : goal.invariant-loop-address
invariant-loop-address l =
    AllByRecursion IsReservation (pairs_of l.rest)
    × (record l.tree { reservations = l.tree.reservations ++ pairs_of l.rest } ≡ record l.fn.tree { reservations = l.fn.tree.reservations ++ pairs_of l.pairs })

abbrev pub decreases-loop-address : goal.decreases-loop-address
decreases-loop-address l = length l.rest
