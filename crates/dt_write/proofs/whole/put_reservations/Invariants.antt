use Rattle.std.proofs.Common.{◌≡◌, ◌++◌, take}
use Rattle.std.specs.List.{flat_map}
use Rattle.dt_model.specs.Format.{pair}
use Rattle.dt_write.proofs.whole.put_reservations.Given as goal

abbrev pub invariant-loop-address : goal.invariant-loop-address
invariant-loop-address l = l.out.items ≡ l.fn.out.items ++ flat_map pair (take l.address-index l.reservations)
