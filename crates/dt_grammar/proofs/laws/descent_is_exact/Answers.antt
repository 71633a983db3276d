use Rattle.dt_grammar.specs.Wanted.{made_source, Prim}
use Rattle.dt_grammar.specs.Descent.{found}
use Rattle.dt_grammar.proofs.Expressions.{complete}
use Rattle.dt_grammar.proofs.Headers.{complete_source}
use Rattle.dt_grammar.proofs.Sound.{sound, source_read, none_goes_on}
use Rattle.dt_grammar.proofs.laws.descent_is_exact.Goals as goal

pub returns : goal.returns
returns c = record {
  reads = λ ws s. (complete_source ws s, source_read ws (made_source s));
  primary = λ us rest e s. (complete s rest).2;
  spelled = λ ws rest m d. (let r = sound Prim ws (found m rest) d in (r.0, r.1, r.2.expression));
  stuck = none_goes_on;
}
