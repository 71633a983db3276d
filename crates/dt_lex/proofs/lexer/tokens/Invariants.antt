use Rattle.std.proofs.Common.{◌-◌, ◌≤◌, length, true}
use Rattle.dt_model.specs.Limits.{most_bytes}
use Rattle.dt_lex.specs.declared.token.Mode.TheVariants as mode
use Rattle.dt_lex.specs.Lexing.{Lexed, Lexes, with_tokens}
use Rattle.dt_lex.specs.Labels.{IsUnlabelled}
use Rattle.dt_lex.proofs.lexer.tokens.Given as goal

-- what holds of the rest from here on holds of the text
abbrev pub invariant-loop-rest : goal.invariant-loop-rest
invariant-loop-rest l = record {
  short : length l.text ≤ most_bytes;
  within : length l.rest ≤ length l.text;
  free : IsUnlabelled (length l.rest - l.unknown) l.rest;
  follows : (a : Lexed) → Lexes l.mode l.fresh (length l.text - length l.rest) l.rest a → Lexes mode.Name true 0 l.text (with_tokens l.out.items a);
}

abbrev pub decreases-loop-rest : goal.decreases-loop-rest
decreases-loop-rest l = length l.rest
