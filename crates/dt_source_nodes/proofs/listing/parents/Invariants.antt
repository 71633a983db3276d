use Rattle.std.proofs.Common.{◌≡◌, take}
use Rattle.dt_source_nodes.specs.Listing.{parents_of}
use Rattle.dt_source_nodes.proofs.listing.parents.Given as goal

abbrev pub invariant-loop-index : goal.invariant-loop-index
invariant-loop-index l = l.parents.items ≡ parents_of (take l.index l.nodes)
