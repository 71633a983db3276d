use Rattle.std.proofs.Common.{◌≡◌, ◌<◌, ◌-◌, length}
use Rattle.std.specs.List.{AllByRecursion}
use Rattle.dt_flat.specs.Arena.{children}
use Rattle.dt_write.specs.Parts.{trees_at}
use Rattle.dt_write.specs.Written.{used_below}
use Rattle.dt_write.proofs.names.Names.+note_node.Given as goal

abbrev pub decreases-note_node : goal.decreases-note_node
decreases-note_node l = length l.tree.now.slots - l.node

abbrev pub invariant-loop-child : goal.invariant-loop-child
invariant-loop-child l = record {
  next : (goal.iterator-loop-child).can_next l.child-iterator;
  ends : (goal.iterator-loop-child).is_finite l.child-iterator;
  left : used_below l.self (trees_at l.tree.slots l.child-iterator) ≡ used_below l.initial.self (trees_at l.tree.slots (children l.tree.slots l.node));
  below : AllByRecursion (λ child. (l.node < child) × (child < length l.tree.slots)) l.child-iterator;
}
