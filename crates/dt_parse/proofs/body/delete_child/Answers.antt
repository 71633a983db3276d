use Rattle.std.proofs.Common.{◌∙◌, ap, subst, ◌≡◌, true, Some, length}
use Rattle.std.proofs.lemmas.Result.{err_from_is_err_and, IfErr-weaker, on_ok_weaker}
use Rattle.dt_lex.specs.declared.token.TokenKind.TheVariants as kind
use Rattle.dt_lex.specs.declared.token.Mark.TheVariants as mark
use Rattle.dt_grammar.specs.Words.{Words}
use Rattle.dt_grammar.specs.Unchecked.{raw_delete_child}
use Rattle.dt_grammar.specs.Wanted.{kind_at, bytes_at}
use Rattle.dt_grammar.specs.Descent.{first, after}
use Rattle.dt_parse.specs.Reading.{no_memory}
use Rattle.dt_parse.proofs.Members.{err_is, said_one, delete_child_at, delete_child_unended, delete_child_bad}
use Rattle.dt_model.specs.Source as model
use Rattle.dt_model.specs.Names.{IsNodeName}
use Rattle.dt_parse.proofs.Members.{NotEnded}
use Rattle.dt_parse.proofs.body.delete_child.Goals as goal

pub returns-in_err-name_ends-clause-err : goal.returns-in_err-name_ends-clause-err
returns-in_err-name_ends-clause-err c =
    let p = err_from_is_err_and c.from_residual.result c.from_residual.ensures.1 in err_is _ c.from_residual.result _ p.0 p.1 p.2 (λ ls late outer. delete_child_unended late outer ls c.args.cursor.now _ c.requires c.in_err-name_ends.ensures.err.0 (subst (λ (x : Words). NotEnded x c.in_err-name_ends.field-0.0.left) c.advance.ensures c.in_err-name_ends.ensures.err.1))

pub returns-in_err-name-clause-err : goal.returns-in_err-name-clause-err
returns-in_err-name-clause-err c =
    let p = err_from_is_err_and c.from_residual-in_err-name.result c.from_residual-in_err-name.ensures.1 in err_is _ c.from_residual-in_err-name.result _ p.0 p.1 p.2 (λ ls late outer. delete_child_bad late outer ls c.args.cursor.now _ c.requires (subst (λ (x : Words). kind_at (first x) ≡ Some kind.Name) c.advance.ensures c.in_ok-name_ends.ensures.ok.0) (subst (λ (x : Words). kind_at (first (after true x)) ≡ Some (kind.Mark mark.Semicolon)) c.advance.ensures c.in_ok-name_ends.ensures.ok.1) (subst (λ (x : Words). ¬ IsNodeName (bytes_at (first x))) (c.in_ok-name_ends.ensures.ok.2 ∙ c.advance.ensures) c.in_err-name.ensures.0) c.in_err-name.ensures.1 (c.in_err-name.ensures.2 ∙ ap length (c.in_ok-name_ends.ensures.ok.2 ∙ c.advance.ensures)))

pub returns-clause-ok : goal.returns-clause-ok
returns-clause-ok c =
    λ ls t. on_ok_weaker c.push_item.result
    (λ e. (
      (raw_delete_child ls (bytes_at (first (after true c.args.cursor.now)))),
      λ late. delete_child_at ls late c.args.cursor.now _ c.requires (subst (λ (x : Words). kind_at (first x) ≡ Some kind.Name) c.advance.ensures c.in_ok-name_ends.ensures.ok.0) (subst (λ (x : Words). kind_at (first (after true x)) ≡ Some (kind.Mark mark.Semicolon)) c.advance.ensures c.in_ok-name_ends.ensures.ok.1) (c.advance-3.ensures ∙ ap (after true) (c.advance-2.ensures ∙ ap (after true) (c.in_ok-name_ends.ensures.ok.2 ∙ c.advance.ensures))) t (subst (λ (x : Words). IsNodeName (bytes_at (first x))) (c.in_ok-name_ends.ensures.ok.2 ∙ c.advance.ensures) c.in_ok-name.ensures.0),
      said_one _ _ _ (raw_delete_child ls (bytes_at (first (after true c.args.cursor.now)))) e (ap model.delete_child (c.in_ok-name.ensures.1 ∙ ap (λ (x : Words). bytes_at (first x)) (c.in_ok-name_ends.ensures.ok.2 ∙ c.advance.ensures))),
    ))
    c.push_item.ensures.ok

pub returns-clause-err : goal.returns-clause-err
returns-clause-err c = IfErr-weaker c.push_item.result _ _ (λ stop k ls late outer. no_memory k) c.push_item.ensures.err
