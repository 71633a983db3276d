use Rattle.std.proofs.Common.{◌≡◌, ◌≢◌, [], Some, sym, ◌∙◌}
use Rattle.dt_lex.specs.declared.token.TokenKind.TheVariants as kind
use Rattle.dt_lex.specs.declared.token.Keyword.TheVariants as keyword
use Rattle.dt_grammar.specs.Wanted.{kind_at}
use Rattle.dt_grammar.specs.Descent.{first}
use Rattle.dt_parse.proofs.LabelLists.{none_read, all_read}
use Rattle.dt_parse.proofs.parser.statement_labels.Goals as goal

pub returns-then-at_reservation-clause-ok : goal.returns-then-at_reservation-clause-ok
returns-then-at_reservation-clause-ok c =
    let now = c.args.cursor.now in
    let is : kind_at (first now) ≡ Some (kind.Keyword keyword.Memreserve) = c.at_reservation.ensures.0 c.if-at_reservation.true in
    let other : kind_at (first now) ≢ Some kind.Label = λ e. (let both : Some (kind.Keyword keyword.Memreserve) ≡ Some kind.Label = sym is ∙ e in cc) in
    let r = all_read now now [] (none_read now) other in
    (r.0, r.1, is)
