use Rattle.std.proofs.Common.{sym, ◌∙◌}
use Rattle.std.proofs.lemmas.List.{append-nil, map-id}
use Rattle.dt_parse.proofs.Members.{label_said, labels_said}
use Rattle.std.proofs.lemmas.Iterator.Adapters.{YieldsList-from_vec}
use Rattle.std.proofs.lemmas.Iterator.Consumers.{YieldsList-end}
use Rattle.dt_parse.proofs.body.push_labels.Goals as goal

pub loop-name-init : goal.loop-name-init
loop-name-init c =
    sym (append-nil c.args.items.now.places)

pub loop-name-preserved : goal.loop-name-preserved
loop-name-preserved c =
    label_said c.args.items.now.places c.loop-name.items c.push_item.new.items c.loop-name.yielded c.in-Some.name c.loop-name.invariant c.in_ok-push_item.ensures.ok

pub returns-clause-ok : goal.returns-clause-ok
returns-clause-ok c =
    let e = YieldsList-end (YieldsList-from_vec {s = c.into_iter-name-iterator.result} c.args.names.items (cc) (cc)) c.loop-name.yielded c.loop-name.name-iterator c.loop-name.yielded_by c.next.result c.next.new.self c.in-None.is c.next.ensures.steps in
    λ ls f. labels_said c.args.items.now.places c.loop-name.items.places c.loop-name.yielded ls c.loop-name.invariant (sym (map-id c.loop-name.yielded) ∙ e.0 ∙ f)
