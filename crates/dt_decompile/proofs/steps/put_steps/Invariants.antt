-- A front of the lines passed, and there are at most as many open nodes as began.
use Rattle.std.proofs.Common.{◌≡◌, List, ℕ, ◌++◌, ◌+◌, ◌≤◌}
use Rattle.dt_decompile.specs.Lines.{lines_of, opened}
use Rattle.dt_text_writer.specs.Written.{Puts}
use Rattle.dt_decompile.proofs.steps.put_steps.Given as goal

abbrev pub invariant-loop-step : goal.invariant-loop-step
invariant-loop-step g l =
    (goal.iterator-loop-step g).can_next l.step-iterator × (goal.iterator-loop-step g).is_finite l.step-iterator
    × (l.depth + opened l.step-iterator ≤ opened l.fn.steps)
    × (front : List ℕ) × (lines_of 0 l.fn.steps ≡ front ++ lines_of l.depth l.step-iterator)
    × Puts g.S.Sink.taken front l.initial.writer l.writer
