use Rattle.std.proofs.Common.{◌∙◌, ap, ◌∷◌, []}
use Rattle.dt_model.specs.Source.{text_of}
use Rattle.dt_grammar.specs.Unchecked.{path_item}
use Rattle.dt_grammar.specs.Wanted.{OneItem, kind_at, bytes_at}
use Rattle.dt_grammar.specs.Descent.{first}
use Rattle.dt_grammar.specs.Faults.{Around}
use Rattle.dt_parse.specs.Reading.{IsBroken}
use Rattle.dt_source_items.specs.Gathered.{with_parts}
use Rattle.dt_parse.proofs.Leading.{handed_on}
use Rattle.dt_parse.proofs.ReadItems.{at_reference, reference_read, reference_stop}
use Rattle.dt_parse.proofs.value.path_text.Goals as goal

pub returns-in_err-target-clause-err :
    goal.returns-in_err-target-clause-err
returns-in_err-target-clause-err c =
    let t = at_reference (kind_at (first c.args.cursor.now)) c.requires in
    let k = t.1 in
    let e = c.in_err-target.ensures t.0 k in
    handed_on c.from_residual.result c.in_err-target.field-0.0 (λ stop. (a : Around) → IsBroken a OneItem c.args.cursor.now stop) c.from_residual.ensures.1
    (reference_stop t.0 _ _ k e.0 e.1 e.2)

pub returns-clause-ok :
    goal.returns-clause-ok
returns-clause-ok c =
    let t = at_reference (kind_at (first c.args.cursor.now)) c.requires in
    let k = t.1 in
    let o = c.in_ok-target.ensures t.0 k in (
      path_item t.0 (bytes_at (first c.args.cursor.now)),
      reference_read t.0 _ _ k c.advance.ensures o.0,
      c.in_ok-push_reference.ensures ∙ ap (λ r. with_parts c.args.items.now (text_of r ∷ [])) o.1,
    )
