use Rattle.std.proofs.Common.{ℕ, List, Ok, Err, inr, sym, ◌∙◌, ap, subst}
use Rattle.std.proofs.lemmas.Result.{err_from_is_err_and}
use Rattle.dt_lex.specs.Lexing.{IsCut}
use Rattle.dt_lex.specs.Outcomes.{outcome}
use Rattle.dt_lex.specs.Pieces.{IsWordOf}
use Rattle.dt_lex.proofs.Cuts.{front_of, word_of}
use Rattle.dt_lex.proofs.lexer.ruled_piece.Goals as goal

pub outcome-requires : goal.outcome-requires
outcome-requires c =
    let s = c.args.text.now in
    let cut = c.in-Some.ensures.exact in
    let rest = c.in-Some.rest.now in
    subst (IsWordOf c.in-Some.rule) (sym (front_of s cut.0 rest cut.1.longest.split)) (word_of c.args.mode c.args.fresh s c.in-Some.rule cut.0 rest cut.1)

pub returns-in_err-kind-clause-exact : goal.returns-in_err-kind-clause-exact
returns-in_err-kind-clause-exact c =
    let s = c.args.text.now in
    let cut = c.in-Some.ensures.exact in
    let rest = c.in-Some.rest.now in
    let e = err_from_is_err_and c.from_residual.result c.from_residual.ensures.1 in
    let same = front_of s cut.0 rest cut.1.longest.split in
    rw e.1 (inr (c.in-Some.rule, cut.0, rest, cut.1, ap (outcome c.in-Some.rule) (sym same) ∙ sym c.in_err-kind.ensures ∙ ap Err (sym e.2)))

pub returns-clause-exact : goal.returns-clause-exact
returns-clause-exact c =
    let s = c.args.text.now in
    let cut = c.in-Some.ensures.exact in
    let word = c.piece_of.ensures.word cut.0 cut.1.longest.split in
    let rest = sym c.piece_of.ensures.rest in (
      c.in-Some.rule,
      cut.0,
      subst (λ (x : List ℕ). IsCut c.args.mode c.args.fresh s c.in-Some.rule cut.0 x) rest cut.1,
      ap (outcome c.in-Some.rule) (sym (front_of s cut.0 c.in-Some.rest.now cut.1.longest.split)) ∙ sym c.in_ok-kind.ensures ∙ ap Ok (sym c.piece_of.ensures.kind),
      word.0,
      word.1,
    )
