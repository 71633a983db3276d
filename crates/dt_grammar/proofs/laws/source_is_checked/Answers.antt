use Rattle.std.proofs.Common.{subst}
use Rattle.dt_grammar.specs.Grammar.{SpellsSource}
use Rattle.dt_grammar.proofs.OneSource.{source_of}
use Rattle.dt_grammar.proofs.CheckedSources.{source_back}
use Rattle.dt_grammar.proofs.laws.source_is_checked.Goals as goal

pub returns : goal.returns
returns c = λ ws s. (
  λ h. (let r = source_of ws s h in record { raw = r.raw; relaxed = r.relaxed; strict = r.strict; says = r.says }),
  λ k. subst (SpellsSource ws) k.says (source_back ws k.raw k.relaxed k.strict),
)
