use Rattle.std.proofs.Common.{List, ℕ, ap, subst, ◌∙◌}
use Rattle.std.specs.Prelude.{OnOk, IfErr}
use Rattle.dt_model.specs.Printed.{significant}
use Rattle.dt_names.specs.Sink.{joined}
use Rattle.dt_text_writer.specs.Written.{Puts, FailsAt}
use Rattle.dt_resolve_lines.proofs.WordTexts.{region_text}
use Rattle.dt_resolve_lines.proofs.words.put_region.Goals as goal

pub returns-clause-written : goal.returns-clause-written
returns-clause-written g c =
    let text = region_text c.args.region c.without_zeros.result.now c.without_zeros-2.result.now (joined c.region_pieces.result)
    (c.without_zeros.ensures ∙ ap significant c.digits_of-address.ensures) (c.without_zeros-2.ensures ∙ ap significant c.digits_of-size.ensures) c.region_pieces.ensures in
    subst (λ (l : List ℕ). OnOk c.put_pieces.result (Puts g.S.Sink.taken l c.args.writer.now c.put_pieces.new.self)) text c.put_pieces.ensures.written

pub returns-clause-refused : goal.returns-clause-refused
returns-clause-refused g c =
    let text = region_text c.args.region c.without_zeros.result.now c.without_zeros-2.result.now (joined c.region_pieces.result)
    (c.without_zeros.ensures ∙ ap significant c.digits_of-address.ensures) (c.without_zeros-2.ensures ∙ ap significant c.digits_of-size.ensures) c.region_pieces.ensures in
    subst (λ (l : List ℕ). IfErr c.put_pieces.result (λ failure. FailsAt g.S.Sink.taken failure l c.args.writer.now c.put_pieces.new.self)) text c.put_pieces.ensures.refused
