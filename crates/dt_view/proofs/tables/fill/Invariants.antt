-- The tables have the nodes that were opened, and their values; the others' properties come next behind their beginnings.
use Rattle.std.proofs.Common.{length}
use Rattle.dt_view.proofs.Led.{AreLed}
use Rattle.dt_view.proofs.Tabled.{IsFilled}
use Rattle.dt_view.proofs.Valued.{AreValued}
use Rattle.dt_view.proofs.Kinded.{AreKinded}
use Rattle.dt_view.proofs.tables.fill.Given as goal

abbrev pub invariant-loop-step : goal.invariant-loop-step
invariant-loop-step l =
    IsFilled l.blob l.rows.entries l.phandles.entries l.open_nodes l.count l.steps
    × AreLed l.blob l.steps
    × AreValued l.blob l.values.items l.rows.entries l.steps
    × AreKinded l.blob l.kinds.entries l.steps

abbrev pub decreases-loop-step : goal.decreases-loop-step
decreases-loop-step l = length l.steps
