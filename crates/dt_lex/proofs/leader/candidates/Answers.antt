use Rattle.std.proofs.Common.{sym, ◌∙◌, ap}
use Rattle.std.specs.List.{filter}
use Rattle.dt_lex.specs.declared.leader.Leader.{Leader}
use Rattle.dt_lex.specs.Rules.{rules}
use Rattle.dt_lex.specs.Leaders.{leads}
use Rattle.dt_lex.proofs.leader.candidates.Goals as goal

pub returns-in-Slash : goal.returns-in-Slash
returns-in-Slash c = c.behind_slash.ensures ∙ ap (λ (x : Leader). filter (leads x) rules) (sym c.in-Slash.is)
