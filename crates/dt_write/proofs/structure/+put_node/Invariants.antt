use Rattle.std.proofs.Common.{◌<◌, ◌-◌, length}
use Rattle.std.specs.List.{AllByRecursion}
use Rattle.dt_flat.specs.Arena.{children}
use Rattle.dt_write.proofs.Puts.{NodesLeft}
use Rattle.dt_write.proofs.structure.+put_node.Given as goal

abbrev pub decreases-put_node : goal.decreases-put_node
decreases-put_node l = length l.tree.now.slots - l.node

abbrev pub invariant-loop-child : goal.invariant-loop-child
invariant-loop-child l = record {
  next : (goal.iterator-loop-child).can_next l.child-iterator;
  ends : (goal.iterator-loop-child).is_finite l.child-iterator;
  left : NodesLeft l.strings l.tree.slots (children l.tree.slots l.node) l.child-iterator l.initial.out.items l.out.items;
  below : AllByRecursion (λ child. (l.node < child) × (child < length l.tree.slots)) l.child-iterator;
}
