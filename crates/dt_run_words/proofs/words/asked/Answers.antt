use Rattle.std.proofs.Common.{map, subst, MatchOption}
use Rattle.clap.specs.Words.{subcommand_rows_of}
use Rattle.dt_run_words.specs.Words.{Names, NamesNone}
use Rattle.std.proofs.lemmas.Result.{err_from_is_err_and}
use Rattle.dt_run_words.proofs.WordLemmas.{asked, not_asked, told}
use Rattle.dt_run_words.proofs.words.asked.Goals as goal

pub returns-in_err-matches-clause-refused : goal.returns-in_err-matches-clause-refused
returns-in_err-matches-clause-refused g c =
    let p = err_from_is_err_and c.from_residual.result c.from_residual.ensures.1 in
    rw p.1 (told _ c.requires _ _ p.0 c.in_err-matches.ensures.kinds p.2)

pub returns-in-Some-clause-line : goal.returns-in-Some-clause-line
returns-in-Some-clause-line g c =
    let names = subst (λ o. MatchOption o (NamesNone (subcommand_rows_of c.in_ok-matches.matches)) (Names (subcommand_rows_of c.in_ok-matches.matches))) c.in-Some.is c.in_ok-line.ensures in
    asked _ c.requires _ c.in_ok-matches.matches c.in-Some.line c.in_ok-matches.ensures.kinds c.in_ok-matches.ensures.ok.2 names

pub returns-clause-refused : goal.returns-clause-refused
returns-clause-refused g c =
    let none = subst (λ o. MatchOption o (NamesNone (subcommand_rows_of c.in_ok-matches.matches)) (Names (subcommand_rows_of c.in_ok-matches.matches))) c.in-None.is c.in_ok-line.ensures in
    c.no_line.ensures (map g.S.AsStr.text c.args.words.now) (not_asked _ c.requires _ c.in_ok-matches.matches c.in_ok-matches.ensures.ok.2 none)
