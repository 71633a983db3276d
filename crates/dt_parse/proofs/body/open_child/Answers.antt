use Rattle.std.proofs.Common.{arith, ◌∙◌, ap, ◌<◌, true}
use Rattle.std.proofs.lemmas.Result.{err_from_is_err_and, IfErr-weaker, on_ok_weaker}
use Rattle.dt_model.specs.Source as model
use Rattle.dt_grammar.specs.Unchecked.{raw_child}
use Rattle.dt_grammar.specs.Wanted.{bytes_at}
use Rattle.dt_grammar.specs.Descent.{first, after}
use Rattle.dt_parse.specs.Reading.{no_memory}
use Rattle.dt_parse.specs.Nested.{in_body}
use Rattle.dt_parse.proofs.Members.{err_is, said_one, bad_child, too_deep_at}
use Rattle.dt_parse.proofs.body.open_child.Goals as goal

pub returns-in_err-name-clause-err : goal.returns-in_err-name-clause-err
returns-in_err-name-clause-err c =
    let p = err_from_is_err_and c.from_residual.result c.from_residual.ensures.1 in err_is _ c.from_residual.result _ p.0 p.1 p.2 (λ ls late outer o. bad_child (in_body late outer) ls c.args.cursor.now _ c.requires.named c.requires.opened c.in_err-name.ensures.0 c.in_err-name.ensures.1 c.in_err-name.ensures.2)

pub returns-then-bodies-ge-MOST_BODIES-clause-err : goal.returns-then-bodies-ge-MOST_BODIES-clause-err
returns-then-bodies-ge-MOST_BODIES-clause-err c =
    λ ls late outer o. too_deep_at late outer ls c.args.cursor.now c.advance.new.self c.args.bodies c.stop.result c.advance.ensures c.requires.named c.requires.opened c.in_ok-name.ensures.0 o c.if-bodies-ge-MOST_BODIES.true c.stop.ensures.kind c.stop.ensures.left

pub returns-clause-ok : goal.returns-clause-ok
returns-clause-ok c =
    let few : c.args.bodies < 65 = omega (arith, c.if-bodies-ge-MOST_BODIES.false) in
    on_ok_weaker c.push_item.result
    (λ e. (c.in_ok-name.ensures.0, few, c.advance-2.ensures ∙ ap (after true) c.advance.ensures, said_one _ _ _ (raw_child (bytes_at (first c.args.cursor.now))) e (ap model.child c.in_ok-name.ensures.1)))
    c.push_item.ensures.ok

pub returns-clause-err : goal.returns-clause-err
returns-clause-err c = IfErr-weaker c.push_item.result _ _ (λ stop k ls late outer o. no_memory k) c.push_item.ensures.err
