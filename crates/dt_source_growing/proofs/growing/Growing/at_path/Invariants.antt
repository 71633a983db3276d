-- What is left of the path leads on to where the whole path leads.
use Rattle.std.proofs.Common.{◌≡◌, reverse}
use Rattle.dt_source_growing.specs.Growing.{shape}
use Rattle.dt_source_growing.specs.Shape.{node_at}
use Rattle.dt_source_growing.proofs.Descents.{descend}
use Rattle.dt_source_growing.proofs.growing.Growing.at_path.Given as goal

abbrev pub invariant-loop-name : goal.invariant-loop-name
invariant-loop-name l = record {
  next : (goal.iterator-loop-name).can_next l.name-iterator;
  ends : (goal.iterator-loop-name).is_finite l.name-iterator;
  left : descend (shape l.self).child l.at l.name-iterator ≡ node_at (shape l.self) (reverse l.path);
}
