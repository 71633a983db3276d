-- What was read of the value, and what is left of it.
use Rattle.std.proofs.Common.{◌≡◌, ◌++◌, List, Some, drop}
use Rattle.dt_model.specs.Source.{Part}
use Rattle.dt_source_items.specs.Said as source_said
use Rattle.dt_source_items.specs.Said.{parts_said}
use Rattle.dt_source_named_tree.specs.Said.{value_said}
use Rattle.dt_source_nodes.specs.Contents.{named_parts}
use Rattle.dt_source_nodes.specs.Resolving.{EachNaming}
use Rattle.dt_source_nodes.proofs.values.Resolver.add_value.Given as goal

abbrev pub invariant-loop-piece : goal.invariant-loop-piece
invariant-loop-piece l =
    (read : List Part) × (source_said.value_said l.source ≡ read ++ parts_said (drop l.piece-index l.source.pieces.now) l.rest)
    × EachNaming l.self.growing.now l.self.belongings.now.places.items (λ es place. named_parts l.self.unnamed es place read ≡ Some (value_said l.value))
