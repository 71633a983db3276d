use Rattle.std.proofs.Common.{◌≡◌, ◌<◌, ◌≤◌, length}
use Rattle.dt_lex.specs.Texts.{octal, unescaped}
use Rattle.dt_lex.proofs.ValueLemmas.{octal_bound}
use Rattle.dt_lex.proofs.letter.octal_byte.Given as goal

abbrev pub invariant-loop-taken : goal.invariant-loop-taken
invariant-loop-taken l = record {
  same : unescaped (octal 0 0) l.text ≡ unescaped (octal l.value l._taken) l.rest;
  below : l.value < octal_bound l._taken;
  shorter : length l.rest ≤ length l.text;
}
