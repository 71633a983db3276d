use Rattle.std.proofs.Common.{◌≡◌, map, take}
use Rattle.dt_source_nodes.specs.Contents.{label_owner}
use Rattle.dt_source_nodes.proofs.belongings.label_owners.Given as goal

abbrev pub invariant-loop-giving : goal.invariant-loop-giving
invariant-loop-giving l = l.owners.items ≡ map label_owner (take l.giving-index l.givings)
