use Rattle.std.proofs.Common.{◌≡◌, ◌++◌, ℕ, List, length}
use Rattle.dt_lex.specs.Words.{Each}
use Rattle.dt_lex.specs.Bytes.{is_in}
use Rattle.dt_lex.specs.Numbers.{digits}
use Rattle.dt_lex.proofs.NumberLemmas.{value_at}
use Rattle.dt_lex.proofs.number.read_integer.Given as goal

abbrev pub invariant-loop-first : goal.invariant-loop-first
invariant-loop-first l = record {
  value : value_at l.base l.value (digits (is_in l.class) l.rest) ≡ value_at l.base 0 (digits (is_in l.class) l.text);
  front : (w : List ℕ) × (l.text ≡ w ++ l.rest) × Each (is_in l.class) w;
}

abbrev pub decreases-loop-first : goal.decreases-loop-first
decreases-loop-first l = length l.rest
