-- The row that is sought is one of the rest.
use Rattle.std.specs.Prelude.{◌≡◌, length}
use Rattle.dt_trees.specs.Placed.{reading_of}
use Rattle.dt_resolve_model.specs.World.{quads_of, tree_world, value_of_bytes}
use Rattle.dt_resolve_model.specs.Interrupts.{first_match, is_ragged}
use Rattle.dt_irq.specs.Cells.{quads}
use Rattle.dt_irq.specs.Spaces.{widths_in}
use Rattle.dt_irq.proofs.rows.first_match.Given as goal

abbrev pub invariant-loop-rest : goal.invariant-loop-rest
invariant-loop-rest g l =
    let w = tree_world (reading_of (g.V.TreeView.tree l.view)) in
    record {
      ragged : is_ragged (value_of_bytes l.rest) ≡ is_ragged (value_of_bytes l.map);
      left : first_match w (widths_in l.space w) (is_ragged (value_of_bytes l.map)) l.width (quads l.key) (quads_of l.mask) 0 (quads_of l.rest)
          ≡ first_match w (widths_in l.space w) (is_ragged (value_of_bytes l.map)) l.width (quads l.key) (quads_of l.mask) 0 (quads_of l.map);
    }

abbrev pub decreases-loop-rest : goal.decreases-loop-rest
decreases-loop-rest g l = length l.rest
