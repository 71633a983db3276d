use Rattle.std.proofs.Common.{refl, ◌∷◌, []}
use Rattle.std.proofs.lemmas.Result.{err_from_is_err_and, IfErr-weaker, on_ok_weaker}
use Rattle.dt_model.specs.Source as model
use Rattle.dt_grammar.specs.Unchecked.{raw_root}
use Rattle.dt_parse.specs.Reading.{no_memory}
use Rattle.dt_parse.proofs.Members.{err_is, said_one, said_more}
use Rattle.dt_parse.proofs.Beginnings.{labelled_root, root_read, root_stops}
use Rattle.dt_parse.proofs.statement.root.Goals as goal

pub returns-then-labelled-clause-err : goal.returns-then-labelled-clause-err
returns-then-labelled-clause-err c =
    λ ls e f. labelled_root ls c.args.cursor.now c.stop.result c.requires (f c.if-labelled.true) c.stop.ensures.kind c.stop.ensures.left

pub returns-in_err-push_item-clause-err : goal.returns-in_err-push_item-clause-err
returns-in_err-push_item-clause-err c =
    let p = err_from_is_err_and c.from_residual.result c.from_residual.ensures.1 in err_is _ c.from_residual.result _ p.0 p.1 p.2 (λ ls e f. no_memory c.in_err-push_item.ensures.err)

pub returns-clause-err : goal.returns-clause-err
returns-clause-err c =
    IfErr-weaker c.body.result _ _ (λ stop d ls e f. root_stops ls c.args.cursor.now c.advance.new.self stop c.requires (e c.if-labelled.false) c.advance.ensures (d (raw_root ∷ []))) c.body.ensures.err

pub returns-clause-ok : goal.returns-clause-ok
returns-clause-ok c =
    on_ok_weaker c.body.result
    (λ h. (
      c.if-labelled.false,
      (
        raw_root ∷ h.0,
        root_read c.args.cursor.now c.advance.new.self c.body.new.cursor h.0 c.requires c.advance.ensures (h.1 (raw_root ∷ [])) h.2 h.3,
        said_more c.args.items.now.places c.push_item.new.items.places c.body.new.items.places (raw_root ∷ []) h.0 (said_one c.args.items.now c.push_item.new.items model.root raw_root c.in_ok-push_item.ensures.ok refl) h.4,
      ),
    ))
    c.body.ensures.ok
