-- The entry that is sought is one of the rest.
use Rattle.std.specs.Prelude.{◌≡◌, ◌-◌}
use Rattle.dt_trees.specs.Placed.{reading_of}
use Rattle.dt_resolve_model.specs.World.{quads_of, tree_world, value_of_bytes}
use Rattle.dt_resolve_model.specs.Interrupts.{entry_sent, is_ragged}
use Rattle.dt_irq.specs.Spaces.{count_in}
use Rattle.dt_irq.proofs.sending.entry_sent.Given as goal

abbrev pub invariant-loop-passed : goal.invariant-loop-passed
invariant-loop-passed g l =
    let w = tree_world (reading_of (g.V.TreeView.tree l.view)) in
    record {
      ragged : is_ragged (value_of_bytes l.rest) ≡ is_ragged (value_of_bytes l.list);
      left : entry_sent w (count_in l.space w) (is_ragged (value_of_bytes l.list)) (l.index - l._passed) (quads_of l.rest) ≡ entry_sent w (count_in l.space w) (is_ragged (value_of_bytes l.list)) l.index (quads_of l.list);
    }
