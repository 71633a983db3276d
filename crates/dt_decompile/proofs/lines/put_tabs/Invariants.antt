-- A front of the tabs passed.
use Rattle.std.proofs.Common.{◌≡◌, List, ℕ, ◌++◌}
use Rattle.dt_model.specs.Printed.{tabs}
use Rattle.dt_text_writer.specs.Written.{Puts}
use Rattle.dt_decompile.proofs.lines.put_tabs.Given as goal

abbrev pub invariant-loop-left : goal.invariant-loop-left
invariant-loop-left g l =
    (front : List ℕ) × (tabs l.count ≡ front ++ tabs l.left)
    × Puts g.S.Sink.taken front l.initial.writer l.writer

abbrev pub decreases-loop-left : goal.decreases-loop-left
decreases-loop-left g l = l.left
