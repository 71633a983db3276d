use Rattle.std.proofs.Common.{◌∷◌, [], map}
use Rattle.std.proofs.lemmas.Result.{err_from_is_err_and, IfErr-weaker, on_ok_weaker}
use Rattle.dt_grammar.specs.Unchecked.{raw_child, raw_label}
use Rattle.dt_grammar.specs.Wanted.{bytes_at}
use Rattle.dt_grammar.specs.Descent.{first}
use Rattle.dt_parse.specs.Reading.{no_memory}
use Rattle.dt_parse.proofs.Members.{err_is, said_more}
use Rattle.dt_parse.proofs.body.child.Goals as goal

pub returns-in_err-open_child-clause-err : goal.returns-in_err-open_child-clause-err
returns-in_err-open_child-clause-err c =
    let p = err_from_is_err_and c.from_residual.result c.from_residual.ensures.1 in err_is _ c.from_residual.result _ p.0 p.1 p.2 c.in_err-open_child.ensures.err

pub returns-clause-ok : goal.returns-clause-ok
returns-clause-ok c =
    let r = c.in_ok-open_child.ensures.ok in
    λ ls f. on_ok_weaker c.push_labels.result
    (λ e. (r.0, r.1, r.2, said_more c.args.items.now.places c.open_child.new.items.places c.push_labels.new.items.places (raw_child (bytes_at (first c.args.cursor.now)) ∷ []) (map raw_label ls) r.3 e))
    (c.push_labels.ensures.ok ls f)

pub returns-clause-err : goal.returns-clause-err
returns-clause-err c = IfErr-weaker c.push_labels.result _ _ (λ stop k ls late outer o. no_memory k) c.push_labels.ensures.err
