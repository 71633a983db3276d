use Rattle.std.proofs.Common.{Ok, sym, subst}
use Rattle.std.specs.Prelude.{IfSome}
use Rattle.dt_lex.specs.declared.token.Mode.{Mode}
use Rattle.dt_lex.specs.Pieces.{IsPiece}
use Rattle.dt_lex.specs.declared.token.Mode.TheVariants as mode
use Rattle.dt_lex.proofs.Decided.{decided_here}
use Rattle.dt_lex.proofs.piece.decided.Goals as goal

pub returns-in-Name-clause-exact : goal.returns-in-Name-clause-exact
returns-in-Name-clause-exact c = subst (λ (m : Mode). IfSome c.mark_or_named.result (λ p. IsPiece m c.args.fresh c.args.text.now (Ok p))) (sym c.in-Name.is) c.mark_or_named.ensures.exact

pub returns-in-Bytes-clause-exact : goal.returns-in-Bytes-clause-exact
returns-in-Bytes-clause-exact c = decided_here mode.Bytes c.args.mode c.args.fresh c.args.text.now c.byte_or_mark.result c.in-Bytes.is c.byte_or_mark.ensures.exact

pub returns-in-Plain-clause-exact : goal.returns-in-Plain-clause-exact
returns-in-Plain-clause-exact c = decided_here mode.Plain c.args.mode c.args.fresh c.args.text.now c.value.result c.in-Plain.is c.value.ensures.exact
