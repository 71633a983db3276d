-- What is reserved and what is left is all.
use Rattle.std.proofs.Common.{◌≡◌, ◌++◌, drop}
use Rattle.std.specs.List.{AllByRecursion}
use Rattle.dt_model.specs.Valid.{IsReservation}
use Rattle.dt_phandle.proofs.numbered.reserve.Given as goal

abbrev pub invariant-loop-address : goal.invariant-loop-address
invariant-loop-address l = record {
  reservations : AllByRecursion IsReservation (drop l.address-index l.reservations);
  same : record l.tree { reservations = l.tree.reservations ++ drop l.address-index l.reservations }
      ≡ record l.fn.tree { reservations = l.fn.tree.reservations ++ l.reservations };
}
