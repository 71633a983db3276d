use Rattle.std.proofs.Common.{sym, ap, subst, Bool, List, ℕ}
use Rattle.std.proofs.lemmas.Result.{err_from_is_err_and}
use Rattle.dt_grammar.specs.Unchecked.{raw_property, value_parts}
use Rattle.dt_grammar.specs.Wanted.{bytes_at, AfterName}
use Rattle.dt_grammar.specs.Descent.{first}
use Rattle.dt_parse.specs.Reading.{IsBroken}
use Rattle.dt_parse.specs.Nested.{in_body}
use Rattle.dt_parse.proofs.Members.{err_is, property_said, past_name_at, late_at, property_at, bad_property}
use Rattle.dt_model.specs.Source as model
use Rattle.dt_parse.proofs.body.property.Goals as goal

pub returns-in_err-name-clause-err : goal.returns-in_err-name-clause-err
returns-in_err-name-clause-err c =
    let p = err_from_is_err_and c.from_residual.result c.from_residual.ensures.1 in err_is _ c.from_residual.result _ p.0 p.1 p.2 (λ ls outer. bad_property (in_body c.args.late outer) ls c.args.cursor.now _ c.requires.named c.requires.assigned c.in_err-name.ensures.0 c.in_err-name.ensures.1 c.in_err-name.ensures.2)

pub returns-then-late-clause-err : goal.returns-then-late-clause-err
returns-then-late-clause-err c =
    λ ls outer. late_at c.args.late outer ls c.args.cursor.now c.advance.new.self c.stop.result c.if-late.true c.advance.ensures c.requires.named c.requires.assigned c.in_ok-name.ensures.0 c.stop.ensures.kind c.stop.ensures.left

pub returns-in_err-assigned-clause-err : goal.returns-in_err-assigned-clause-err
returns-in_err-assigned-clause-err c =
    let p = err_from_is_err_and c.from_residual-in_err-assigned.result c.from_residual-in_err-assigned.ensures.1 in err_is _ c.from_residual-in_err-assigned.result _ p.0 p.1 p.2 (λ ls outer. past_name_at (in_body c.args.late outer) ls c.args.cursor.now c.advance.new.self _ c.advance.ensures c.requires.named c.requires.assigned c.in_ok-name.ensures.0 (subst (λ (x : Bool). IsBroken (in_body x outer) (AfterName ls (bytes_at (first c.args.cursor.now))) c.advance.new.self c.in_err-assigned.field-0.0) (sym c.if-late.false) (c.in_err-assigned.ensures.err ls (bytes_at (first c.args.cursor.now)) outer)))

pub returns-clause-ok : goal.returns-clause-ok
returns-clause-ok c =
    let h = c.in_ok-assigned.ensures.ok in
    λ ls t. (
      raw_property ls (bytes_at (first c.args.cursor.now)) h.0,
      property_at ls c.args.late c.args.cursor.now c.advance.new.self c.assigned.new.cursor h.0 c.if-late.false c.advance.ensures c.requires.named c.requires.assigned t c.in_ok-name.ensures.0 h.1 (h.4 ls (bytes_at (first c.args.cursor.now))) h.3,
      property_said c.args.items.now c.assigned.new.items c.push_property.new.self c.in_ok-name.name (value_parts h.0) (raw_property ls (bytes_at (first c.args.cursor.now)) h.0) h.2 c.in_ok-push_property.ensures (ap (λ (n : List ℕ). model.property n (value_parts h.0)) c.in_ok-name.ensures.1),
    )
