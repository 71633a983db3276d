-- What is listed for the properties that are left completes what is listed for all.
use Rattle.std.proofs.Common.{drop}
use Rattle.dt_trees.specs.Views.{props_said}
use Rattle.dt_overlay_read.proofs.SymbolsListed.{NamedLeft}
use Rattle.dt_overlay_read.proofs.symbols.list_symbols.Given as goal

abbrev pub invariant-loop-symbol : goal.invariant-loop-symbol
invariant-loop-symbol g l =
    NamedLeft (g.V.TreeView.tree l.object) (props_said l.symbol-items) (drop l.symbol-index (props_said l.symbol-items)) l.initial.out.items l.out.items
