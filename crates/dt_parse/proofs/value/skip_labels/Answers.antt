use Rattle.std.proofs.Common.{◌≡◌, ◌≢◌, [], ◌∷◌, ◌++◌, Some, refl, sym, ◌∙◌}
use Rattle.std.proofs.lemmas.Bool.{false≢true}
use Rattle.std.proofs.lemmas.Result.{err_from_is_err_and}
use Rattle.dt_lex.specs.declared.token.TokenKind.TheVariants as kind
use Rattle.dt_grammar.specs.Wanted.{kind_at}
use Rattle.dt_grammar.specs.Descent.{first}
use Rattle.dt_parse.proofs.LabelLists.{none_read, bad_label, another_read, all_read}
use Rattle.dt_parse.proofs.value.skip_labels.Goals as goal

pub loop-cursor-init : goal.loop-cursor-init
loop-cursor-init c = ([], none_read c.args.cursor.now)

pub returns-in_err-label-clause-err : goal.returns-in_err-label-clause-err
returns-in_err-label-clause-err c =
    let now = c.loop-cursor.cursor in
    let before = c.loop-cursor.invariant in
    let is : kind_at (first now) ≡ Some kind.Label = sym c.kind.ensures ∙ c.is_label.ensures.0 c.loop-cursor-test.true in
    let why = c.in_err-label.ensures in
    let p = err_from_is_err_and c.from_residual.result c.from_residual.ensures.1 in
    rw (p.1, p.2) (bad_label c.args.cursor.now now before.0 c.in_err-label.field-0.0 before.1 is why.0 why.1 why.2)

pub loop-cursor-preserved : goal.loop-cursor-preserved
loop-cursor-preserved c =
    let now = c.loop-cursor.cursor in
    let before = c.loop-cursor.invariant in
    let is : kind_at (first now) ≡ Some kind.Label = sym c.kind.ensures ∙ c.is_label.ensures.0 c.loop-cursor-test.true in
    let found = c.in_ok-label.ensures in
    rw c.advance.ensures
    (before.0 ++ c.in_ok-label.field-0 ∷ [], another_read c.args.cursor.now now before.0 (before.0 ++ c.in_ok-label.field-0 ∷ []) c.in_ok-label.field-0 before.1 is found.0 found.1 refl)

pub returns-clause-ok : goal.returns-clause-ok
returns-clause-ok c =
    let now = c.loop-cursor.cursor in
    let before = c.loop-cursor.invariant in
    let other : kind_at (first now) ≢ Some kind.Label = λ e. false≢true (sym c.loop-cursor-test.false ∙ c.is_label.ensures.1 (c.kind.ensures ∙ e)) in
    let read = all_read c.args.cursor.now now before.0 before.1 other in
    (read.0, read.1)
