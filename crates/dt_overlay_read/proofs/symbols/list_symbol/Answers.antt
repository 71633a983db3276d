use Rattle.std.proofs.Common.{inr, refl}
use Rattle.dt_trees.specs.Views.{prop_said}
use Rattle.dt_trees.specs.Placed.{reading_of}
use Rattle.dt_overlay_read.proofs.SymbolsListed.{missing_symbol, ListsNamed-nothing, ListsNamed-node}
use Rattle.dt_overlay_read.proofs.symbols.list_symbol.Goals as goal

pub returns-in-Nothing-clause-listed : goal.returns-in-Nothing-clause-listed
returns-in-Nothing-clause-listed g c =
    ListsNamed-nothing (g.V.TreeView.tree c.args.object.now) (prop_said c.args.symbol.now) c.in-Some.text.now c.args.out.now.items c.validity.ensures.valid c.in-Some.ensures c.in-Nothing.ensures

pub returns-in-Missing-clause-refused : goal.returns-in-Missing-clause-refused
returns-in-Missing-clause-refused g c = (
  c.of-in-Missing.ensures.at,
  inr (
    c.of-in-Missing.ensures.kind,
    missing_symbol (reading_of (g.V.TreeView.tree c.args.object.now)) c.args.symbol.now.value.now c.in-Some.text.now c.in-Some.ensures c.in-Missing.ensures.0 c.in-Missing.ensures.1,
  ),
)

pub returns-in_ok-push-in-Node-clause-listed : goal.returns-in_ok-push-in-Node-clause-listed
returns-in_ok-push-in-Node-clause-listed g c =
    let named = c.in-Node.ensures.1 in
    ListsNamed-node (g.V.TreeView.tree c.args.object.now) (prop_said c.args.symbol.now) c.in-Some.text.now named.0
    (record { label = c.args.symbol.now.name; node = c.in-Node.node }) c.args.out.now.items c.push.new.self.items c.validity.ensures.valid c.in-Some.ensures
    c.in-Node.ensures.0 named.1 (record { label = refl; node = named.2 }) c.in_ok-push-in-Node.ensures.items
