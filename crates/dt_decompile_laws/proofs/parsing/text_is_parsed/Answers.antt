use Rattle.std.proofs.Common.{subst, sym}
use Rattle.dt_grammar.specs.Grammar.{SpellsSource}
use Rattle.dt_decompile_laws.specs.Said.{said}
use Rattle.dt_decompile_laws.proofs.parsing.text_is_parsed.Goals as goal

pub returns : goal.returns
returns c = λ t valid bytes within size.
    let (tokens, lexed, same) = c.text_has_tokens.ensures t valid bytes in
    record {
      size = size;
      tokens = tokens;
      lexed = lexed;
      spelled = subst (λ ws. SpellsSource ws (said t)) (sym same) (c.tokens_are_source.ensures t valid bytes within);
    }
