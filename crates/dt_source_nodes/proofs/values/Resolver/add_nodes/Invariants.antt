use Rattle.std.proofs.Common.{map, take}
use Rattle.dt_source_named_tree.specs.Said.{node_said}
use Rattle.dt_source_nodes.specs.Resolving.{EachNaming, AreRowsRead}
use Rattle.dt_source_nodes.proofs.values.Resolver.add_nodes.Given as goal

abbrev pub invariant-loop-row : goal.invariant-loop-row
invariant-loop-row l =
    EachNaming l.self.growing.now l.self.belongings.now.places.items (λ es place.
    AreRowsRead l.self.unnamed es place l.self.growing.now l.self.belongings.now (take l.row-index l.rows) (map node_said l.nodes.items))
