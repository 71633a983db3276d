use Rattle.std.proofs.Common.{take, ap, ◌∙◌}
use Rattle.dt_irq.proofs.Lefts.{listed_none, listed_one}
use Rattle.dt_irq.proofs.lists.Listed.nth.Goals as goal

pub returns-then-index-self-clause-is : goal.returns-then-index-self-clause-is
returns-then-index-self-clause-is g c = λ p i left. listed_none (g.V.TreeView.tree c.args.view.now) p i c.args.index _ left c.if-index-self.true

pub returns-clause-is : goal.returns-clause-is
returns-clause-is g c = λ p i left.
    listed_one (g.V.TreeView.tree c.args.view.now) p i c.args.index _ _ left c.if-index-self.false
    (c.first_cells-specifier.ensures.cells ∙ ap (take c.args.self.now.cells) c.cells_after.ensures.cells)
