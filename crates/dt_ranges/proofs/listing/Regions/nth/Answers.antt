use Rattle.std.proofs.Common.{sym, ◌∙◌}
use Rattle.dt_ranges.proofs.Listed.{left_past, left_there}
use Rattle.dt_ranges.proofs.listing.Regions.nth.Goals as goal

pub returns-then-index-self-clause-is : goal.returns-then-index-self-clause-is
returns-then-index-self-clause-is g c = λ p i left. left_past (g.V.TreeView.tree c.args.view.now) p i c.args.index _ left c.if-index-self.true

pub returns-clause-is : goal.returns-clause-is
returns-clause-is g c = λ p i left.
    left_there (g.V.TreeView.tree c.args.view.now) p i c.args.index _ c.cells_after-entry.result.now c.part_at-address.result c.part_at-size.result left c.if-index-self.false c.cells_after-entry.ensures.cells c.part_at-address.ensures c.part_at-size.ensures
    ∙ sym c.region_at.ensures
