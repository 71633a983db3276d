use Rattle.std.proofs.Common.{ℕ, ◌≤◌, List, length, Option}
use Rattle.std.specs.Borrow.{Bor}
use Rattle.dt_lex.specs.Words.{Skips}
use Rattle.dt_lex.specs.Vocabulary.{Closing}
use Rattle.dt_lex.proofs.word.after_closing.Given as goal

abbrev pub invariant-loop-later : goal.invariant-loop-later
invariant-loop-later l = record {
  shorter : length l.rest ≤ length l.text;
  follows : (r : Option (Bor (List ℕ))) → Skips Closing l.rest r → Skips Closing l.text r;
}

abbrev pub decreases-loop-later : goal.decreases-loop-later
decreases-loop-later l = length l.rest
