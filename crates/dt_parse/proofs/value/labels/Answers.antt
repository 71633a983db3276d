use Rattle.std.proofs.Common.{◌≡◌, ◌≢◌, Some, sym, ◌∙◌}
use Rattle.std.proofs.lemmas.Bool.{false≢true}
use Rattle.std.proofs.lemmas.Result.{err_from_is_err_and}
use Rattle.dt_lex.specs.declared.token.TokenKind.TheVariants as kind
use Rattle.dt_grammar.specs.Wanted.{kind_at}
use Rattle.dt_grammar.specs.Descent.{first}
use Rattle.dt_parse.proofs.LabelLists.{bad_label, another_read, all_read}
use Rattle.dt_parse.proofs.value.labels.Goals as goal

pub returns-in_err-label-clause-err : goal.returns-in_err-label-clause-err
returns-in_err-label-clause-err c =
    let now = c.loop-names.cursor in
    let is : kind_at (first now) ≡ Some kind.Label = sym c.kind.ensures ∙ c.is_label.ensures.0 c.loop-names-test.true in
    let why = c.in_err-label.ensures in
    let p = err_from_is_err_and c.from_residual.result c.from_residual.ensures.1 in
    rw (p.1, p.2) (bad_label c.args.cursor.now now c.loop-names.names.items c.in_err-label.field-0.0 c.loop-names.invariant is why.0 why.1 why.2)

pub loop-names-preserved : goal.loop-names-preserved
loop-names-preserved c =
    let now = c.loop-names.cursor in
    let is : kind_at (first now) ≡ Some kind.Label = sym c.kind.ensures ∙ c.is_label.ensures.0 c.loop-names-test.true in
    let found = c.in_ok-label.ensures in
    rw c.advance.ensures
    (another_read c.args.cursor.now now c.loop-names.names.items c.push.new.self.items c.in_ok-label.field-0 c.loop-names.invariant is found.0 found.1 c.in_ok-push.ensures.items)

pub returns-clause-ok : goal.returns-clause-ok
returns-clause-ok c =
    let now = c.loop-names.cursor in
    let other : kind_at (first now) ≢ Some kind.Label = λ e. false≢true (sym c.loop-names-test.false ∙ c.is_label.ensures.1 (c.kind.ensures ∙ e)) in
    all_read c.args.cursor.now now c.loop-names.names.items c.loop-names.invariant other
