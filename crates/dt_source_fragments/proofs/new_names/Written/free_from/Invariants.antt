-- From here on it is found by the tries that are left.
use Rattle.std.proofs.Common.{◌≡◌, ◌-◌, length}
use Rattle.dt_model.specs.OverlaySource.{free_from}
use Rattle.dt_source_fragments.proofs.new_names.Written.free_from.Given as goal

abbrev pub invariant-loop-number : goal.invariant-loop-number
invariant-loop-number l = free_from l.self (l.last - l.number) l.number ≡ free_from l.self (length l.self) l.next
