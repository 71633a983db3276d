-- The bytes that are left decide as the whole does.
use Rattle.std.proofs.Common.{◌↔◌, drop, false}
use Rattle.dt_names.proofs.Names.{IsRest}
use Rattle.dt_names.proofs.name.is_node_name.Given as goal

abbrev pub invariant-loop-byte : goal.invariant-loop-byte
invariant-loop-byte l = IsRest false l.bytes ↔ IsRest l.has_at (drop l.byte-index l.bytes)
