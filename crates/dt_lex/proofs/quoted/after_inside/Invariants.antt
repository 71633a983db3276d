use Rattle.std.proofs.Common.{ℕ, ◌≤◌, List, length, Option}
use Rattle.std.specs.Borrow.{Bor}
use Rattle.dt_lex.specs.Words.{Skips}
use Rattle.dt_lex.specs.Letters.{ClosedText}
use Rattle.dt_lex.proofs.quoted.after_inside.Given as goal

abbrev pub invariant-loop-behind : goal.invariant-loop-behind
invariant-loop-behind l = record {
  shorter : length l.rest ≤ length l.text;
  follows : (r : Option (Bor (List ℕ))) → Skips ClosedText l.rest r → Skips ClosedText l.text r;
}

abbrev pub decreases-loop-behind : goal.decreases-loop-behind
decreases-loop-behind l = length l.rest
