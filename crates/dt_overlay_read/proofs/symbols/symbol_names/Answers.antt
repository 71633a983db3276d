use Rattle.std.proofs.Common.{refl, sym}
use Rattle.dt_trees.specs.Placed.{reading_of}
use Rattle.dt_overlay_read.proofs.SymbolsNodes.{no_path_named, nowhere_named, led_named}
use Rattle.dt_overlay_read.proofs.symbols.symbol_names.Goals as goal

pub returns-in_default : goal.returns-in_default
returns-in_default g c =
    (c.if-not-is_within_fragment.ensures.0 refl, no_path_named (reading_of (g.V.TreeView.tree c.args.object.now)) c.args.text.now c.validity.ensures.valid c.in_default.ensures)

pub returns-in-Some-node_of : goal.returns-in-Some-node_of
returns-in-Some-node_of g c = (
  c.if-not-is_within_fragment.ensures.0 refl,
  (c.in-Some.path, led_named (g.V.TreeView.tree c.args.object.now) c.args.text.now c.in-Some.path c.in-Some-node_of.node c.validity.ensures.valid c.in-Some.ensures (sym c.in-Some-node_of.ensures.is), sym c.in-Some-node_of.ensures.is),
)

pub returns-in-None : goal.returns-in-None
returns-in-None g c =
    (c.if-not-is_within_fragment.ensures.0 refl, nowhere_named (g.V.TreeView.tree c.args.object.now) c.args.text.now c.in-Some.path c.validity.ensures.valid c.in-Some.ensures (sym c.in-None.ensures.is))
