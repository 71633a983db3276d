use Rattle.std.proofs.Common.{refl, ap, subst}
use Rattle.dt_trees.specs.Placed.{reading_of}
use Rattle.dt_resolve_model.proofs.Told.{if_fault}
use Rattle.dt_resolve_lines.specs.Asked.{WhyNoNode, no_blob, no_node, unanswered}
use Rattle.dt_resolve_lines.proofs.Questions.{answered, no_such, not_answered}
use Rattle.dt_resolve_lines.proofs.asking.ask.Goals as goal

pub returns-in_err-blob-clause-refused : goal.returns-in_err-blob-clause-refused
returns-in_err-blob-clause-refused g c =
    let (f, kind, first) = c.in_err-blob.ensures.fault in
    if_fault _ _ _ c.from_residual.ensures.1 (unanswered (no_blob f kind first) refl)

pub returns-in-Err-clause-refused : goal.returns-in-Err-clause-refused
returns-in-Err-clause-refused g c =
    let blob = c.in_ok-blob in
    let e = c.in-Err.fault in
    let why = subst (λ t. WhyNoNode e.kind t c.args.path.now) (ap reading_of c.in_ok-index.ensures.is) (no_such c.in_ok-index.index e.kind c.args.path.now c.in-Err.ensures.refused.0) in
    unanswered (no_node (reading_of blob.blob) blob.ensures.reads blob.ensures.within why c.in-Err.ensures.refused.1) refl

pub returns-in-Ok-clause-written : goal.returns-in-Ok-clause-written
returns-in-Ok-clause-written g c =
    let blob = c.in_ok-blob in
    answered c.in_ok-index.index c.validity.ensures.places c.args.question c.args.bytes.now c.args.path.now (reading_of blob.blob) (ap reading_of c.in_ok-index.ensures.is) blob.ensures.reads blob.ensures.within c.in-Ok.node c.in-Ok.ensures.is
    _ _ c.tell-told.result c.tell-told.ensures.written

pub returns-in-Ok-clause-refused : goal.returns-in-Ok-clause-refused
returns-in-Ok-clause-refused g c =
    let blob = c.in_ok-blob in
    not_answered c.in_ok-index.index c.validity.ensures.places c.args.question c.args.bytes.now c.args.path.now (reading_of blob.blob) (ap reading_of c.in_ok-index.ensures.is) blob.ensures.reads blob.ensures.within c.in-Ok.node c.in-Ok.ensures.is
    _ _ c.tell-told.result c.tell-told.ensures.refused
