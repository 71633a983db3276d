-- The writes that are left give all.
use Rattle.std.proofs.Common.{List, drop}
use Rattle.dt_model.specs.Applied.{Write as ModelWrite}
use Rattle.dt_overlay_landing.specs.Values.{MayWriteAll}
use Rattle.dt_overlay_landing.proofs.ValuesKept.{WritesLeft}
use Rattle.dt_overlay_landing.proofs.values.Values.write_all.Given as goal

abbrev pub invariant-loop-write : goal.invariant-loop-write
invariant-loop-write g l =
    let t = g.V.TreeView.tree l.object in
    (written all : List ModelWrite) → MayWriteAll t l.initial.self written l.writes all → WritesLeft t l.self written (drop l.write-index l.writes) all
