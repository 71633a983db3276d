use Rattle.std.proofs.Common.{sym, ◌∙◌, ap, subst, ◌≡◌, true, Bool, Some, length}
use Rattle.std.proofs.lemmas.Result.{err_from_is_err_and, IfErr-weaker, on_ok_weaker}
use Rattle.dt_lex.specs.declared.token.TokenKind.TheVariants as kind
use Rattle.dt_lex.specs.declared.token.Mark.TheVariants as mark
use Rattle.dt_grammar.specs.Words.{Words}
use Rattle.dt_grammar.specs.Unchecked.{raw_delete_property}
use Rattle.dt_grammar.specs.Wanted.{kind_at, bytes_at, AfterMemberLabels}
use Rattle.dt_grammar.specs.Descent.{first, after}
use Rattle.dt_parse.specs.Reading.{IsBroken, no_memory}
use Rattle.dt_parse.specs.Nested.{in_body}
use Rattle.dt_parse.proofs.Members.{err_is, said_one, delete_property_at, delete_property_late, delete_property_unended, delete_property_bad}
use Rattle.dt_model.specs.Source as model
use Rattle.dt_model.specs.Names.{IsPropertyName}
use Rattle.dt_parse.proofs.Members.{NotEnded}
use Rattle.dt_parse.proofs.body.delete_property.Goals as goal

pub returns-then-late-clause-err : goal.returns-then-late-clause-err
returns-then-late-clause-err c =
    λ ls outer. subst (λ (x : Bool). IsBroken (in_body x outer) (AfterMemberLabels ls) c.args.cursor.now c.stop.result) (sym c.if-late.true) (delete_property_late outer ls c.args.cursor.now c.stop.result c.requires c.stop.ensures.kind c.stop.ensures.left)

pub returns-in_err-name_ends-clause-err : goal.returns-in_err-name_ends-clause-err
returns-in_err-name_ends-clause-err c =
    let p = err_from_is_err_and c.from_residual.result c.from_residual.ensures.1 in err_is _ c.from_residual.result _ p.0 p.1 p.2 (λ ls outer. subst (λ (x : Bool). IsBroken (in_body x outer) (AfterMemberLabels ls) c.args.cursor.now c.in_err-name_ends.field-0.0) (sym c.if-late.false) (delete_property_unended outer ls c.args.cursor.now _ c.requires c.in_err-name_ends.ensures.err.0 (subst (λ (x : Words). NotEnded x c.in_err-name_ends.field-0.0.left) c.advance.ensures c.in_err-name_ends.ensures.err.1)))

pub returns-in_err-name-clause-err : goal.returns-in_err-name-clause-err
returns-in_err-name-clause-err c =
    let p = err_from_is_err_and c.from_residual-in_err-name.result c.from_residual-in_err-name.ensures.1 in err_is _ c.from_residual-in_err-name.result _ p.0 p.1 p.2 (λ ls outer. subst (λ (x : Bool). IsBroken (in_body x outer) (AfterMemberLabels ls) c.args.cursor.now c.in_err-name.field-0.0) (sym c.if-late.false) (delete_property_bad outer ls c.args.cursor.now _ c.requires (subst (λ (x : Words). kind_at (first x) ≡ Some kind.Name) c.advance.ensures c.in_ok-name_ends.ensures.ok.0) (subst (λ (x : Words). kind_at (first (after true x)) ≡ Some (kind.Mark mark.Semicolon)) c.advance.ensures c.in_ok-name_ends.ensures.ok.1) (subst (λ (x : Words). ¬ IsPropertyName (bytes_at (first x))) (c.in_ok-name_ends.ensures.ok.2 ∙ c.advance.ensures) c.in_err-name.ensures.0) c.in_err-name.ensures.1 (c.in_err-name.ensures.2 ∙ ap length (c.in_ok-name_ends.ensures.ok.2 ∙ c.advance.ensures))))

pub returns-clause-ok : goal.returns-clause-ok
returns-clause-ok c =
    λ ls t. on_ok_weaker c.push_item.result
    (λ e. (
      (raw_delete_property ls (bytes_at (first (after true c.args.cursor.now)))),
      delete_property_at ls c.args.late c.args.cursor.now _ c.if-late.false c.requires (subst (λ (x : Words). kind_at (first x) ≡ Some kind.Name) c.advance.ensures c.in_ok-name_ends.ensures.ok.0) (subst (λ (x : Words). kind_at (first (after true x)) ≡ Some (kind.Mark mark.Semicolon)) c.advance.ensures c.in_ok-name_ends.ensures.ok.1) (c.advance-3.ensures ∙ ap (after true) (c.advance-2.ensures ∙ ap (after true) (c.in_ok-name_ends.ensures.ok.2 ∙ c.advance.ensures))) t (subst (λ (x : Words). IsPropertyName (bytes_at (first x))) (c.in_ok-name_ends.ensures.ok.2 ∙ c.advance.ensures) c.in_ok-name.ensures.0),
      said_one _ _ _ (raw_delete_property ls (bytes_at (first (after true c.args.cursor.now)))) e (ap model.delete_property (c.in_ok-name.ensures.1 ∙ ap (λ (x : Words). bytes_at (first x)) (c.in_ok-name_ends.ensures.ok.2 ∙ c.advance.ensures))),
    ))
    c.push_item.ensures.ok

pub returns-clause-err : goal.returns-clause-err
returns-clause-err c = IfErr-weaker c.push_item.result _ _ (λ stop k ls outer. no_memory k) c.push_item.ensures.err
