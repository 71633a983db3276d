-- The properties so far are in the list.
use Rattle.std.proofs.Common.{◌≡◌, ◌++◌}
use Rattle.dt_flat.specs.Arena.{properties}
use Rattle.dt_trees.specs.Views.{props_said}
use Rattle.dt_trees.proofs.flat.props_of.Given as goal

abbrev pub invariant-loop-name : goal.invariant-loop-name
invariant-loop-name l = record {
  next : (goal.iterator-loop-name).can_next l.name-iterator;
  ends : (goal.iterator-loop-name).is_finite l.name-iterator;
  said : props_said l.props.items ++ l.name-iterator ≡ properties l.tree.slots l.node;
}
