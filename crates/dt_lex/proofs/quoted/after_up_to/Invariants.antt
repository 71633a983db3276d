use Rattle.std.proofs.Common.{◌≡◌, ℕ, List, ◌++◌, length}
use Rattle.dt_lex.specs.Bytes.{is_in}
use Rattle.dt_lex.specs.Words.{Each}
use Rattle.dt_lex.proofs.quoted.after_up_to.Given as goal

abbrev pub invariant-loop-taken : goal.invariant-loop-taken
invariant-loop-taken l = (w : List ℕ) × (l.text ≡ w ++ l.rest) × Each (is_in l.class) w × (length w ≡ l._taken)
