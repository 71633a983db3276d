use Rattle.std.proofs.Common.{◌≡◌, ◌+◌, ◌≤◌, ◌++◌, length}
use Rattle.dt_lex.specs.Texts.{plain, unescaped}
use Rattle.dt_lex.proofs.letter.push_letters.Given as goal

abbrev pub invariant-loop-byte : goal.invariant-loop-byte
invariant-loop-byte l = record {
  same : l.out.items ++ unescaped plain l.rest ≡ l.fn.out.items ++ unescaped plain l.letters;
  room : l.out.len + length l.rest ≤ l.out.cap;
}

abbrev pub decreases-loop-byte : goal.decreases-loop-byte
decreases-loop-byte l = length l.rest
