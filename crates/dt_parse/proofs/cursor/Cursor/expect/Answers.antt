use Rattle.std.proofs.Common.{sym, ◌∙◌}
use Rattle.std.proofs.lemmas.Bool.{not-false}
use Rattle.dt_grammar.proofs.SameKinds.{same_next}
use Rattle.dt_parse.proofs.cursor.Cursor.expect.Goals as goal

pub returns-clause-ok : goal.returns-clause-ok
returns-clause-ok c = (sym c.kind.ensures ∙ same_next c.kind.result c.args.kind (not-false _ (sym c.if-ne.ensures)), c.advance.ensures)
