-- A front of the texts passed.
use Rattle.std.proofs.Common.{◌≡◌, List, ℕ, ◌++◌, length}
use Rattle.dt_model.specs.Printed.{texts_from}
use Rattle.dt_text_writer.specs.Written.{Puts}
use Rattle.dt_decompile.proofs.texts.put_texts_from.Given as goal

abbrev pub invariant-loop-plain : goal.invariant-loop-plain
invariant-loop-plain g l =
    (front : List ℕ) × (texts_from l.texts ≡ front ++ texts_from l.rest)
    × Puts g.S.Sink.taken front l.initial.writer l.writer

abbrev pub decreases-loop-plain : goal.decreases-loop-plain
decreases-loop-plain g l = length l.rest
