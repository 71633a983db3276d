-- The way so far leads on, and from the node that was passed to here.
use Rattle.std.specs.Prelude.{ℕ}
use Rattle.dt_trees.specs.Placed.{path_at, reading_of, IsNode}
use Rattle.dt_resolve_model.specs.World.{tree_world}
use Rattle.dt_irq.proofs.Ways.{Leads}
use Rattle.dt_irq.proofs.parents.interrupt_parent.Given as goal

abbrev pub invariant-loop-steps : goal.invariant-loop-steps
invariant-loop-steps g l =
    let t = g.V.TreeView.tree l.view in
    let w = tree_world (reading_of t) in
    record {
      there : IsNode t l.here;
      on : Leads w l.steps (path_at t l.node) (path_at t l.here);
      back : (j : ℕ) × Leads w j (path_at t l.node) (path_at t l.passed);
      round : (d : ℕ) × Leads w d (path_at t l.passed) (path_at t l.here);
    }
