use Rattle.std.proofs.Common.{◌≡◌, ◌*◌, ◌^◌, ◌<◌, drop}
use Rattle.dt_resolve_model.specs.World.{quads_of}
use Rattle.dt_resolve_model.specs.Regions.{joined, joined_to}
use Rattle.dt_ranges.proofs.cells.number.Given as goal

-- the number so far, joined to the cells that are left, is the number of all
abbrev pub invariant-loop-i : goal.invariant-loop-i
invariant-loop-i l = record {
  low : l.number < 2 ^ (32 * l.i);
  rest : joined_to l.number (drop l.i (quads_of l.bytes)) ≡ joined (quads_of l.bytes);
}
