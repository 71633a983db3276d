use Rattle.std.proofs.Common.{◌≡◌, ◌<◌, ◌≤◌, length}
use Rattle.dt_lex.specs.Texts.{hex, unescaped}
use Rattle.dt_lex.proofs.ValueLemmas.{hex_bound}
use Rattle.dt_lex.proofs.letter.hex_byte.Given as goal

abbrev pub invariant-loop-taken : goal.invariant-loop-taken
invariant-loop-taken l = record {
  same : unescaped (hex 0 0) l.text ≡ unescaped (hex l.value l._taken) l.rest;
  below : l.value < hex_bound l._taken;
  shorter : length l.rest ≤ length l.text;
}
