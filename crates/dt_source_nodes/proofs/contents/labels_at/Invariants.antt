use Rattle.std.proofs.Common.{◌≡◌, map, take}
use Rattle.dt_source_nodes.specs.Contents.{label_at}
use Rattle.dt_source_nodes.proofs.contents.labels_at.Given as goal

abbrev pub invariant-loop-index : goal.invariant-loop-index
invariant-loop-index l = map (λ s. s.now) l.labels.items ≡ map (label_at l.givings) (take l.index-index l.indices)
