use Rattle.std.proofs.Common.{sym, subst}
use Rattle.std.proofs.lemmas.Result.{err_from_is_err_and}
use Rattle.dt_model.specs.Tree.{Property}
use Rattle.dt_write.specs.Parts.{HasAll}
use Rattle.dt_write.proofs.Puts.{longer, properties_begin, properties_step, property_within, properties_over}
use Rattle.dt_write.proofs.structure.put_properties.Goals as goal

pub loop-name-init : goal.loop-name-init
loop-name-init c = properties_begin c.args.strings.now c.args.props c.into_iter-name-iterator.result c.args.out.now.items c.requires (sym c.into_iter-name-iterator.ensures.into_iter_gives)

pub put_property-requires : goal.put_property-requires
put_property-requires c = (subst (HasAll c.args.strings.now) c.in-Some.ensures.steps c.loop-name.invariant.has).0

pub loop-name-preserved : goal.loop-name-preserved
loop-name-preserved c =
    properties_step c.args.strings.now c.args.props c.loop-name.name-iterator c.next.new.self (record { name = c.in-Some.name.now; value = c.in-Some.value.now })
    c.args.out.now.items c.loop-name.out.items c.put_property.new.out.items c.in-Some.ensures.steps c.loop-name.invariant c.in_ok-put_property.ensures.put

pub returns-in_err-put_property-clause-refused : goal.returns-in_err-put_property-clause-refused
returns-in_err-put_property-clause-refused c =
    let e = err_from_is_err_and c.from_residual.result c.from_residual.ensures.1 in
    let r = c.in_err-put_property.ensures.refused in
    let p : Property = record { name = c.in-Some.name.now; value = c.in-Some.value.now } in
    let size = property_within c.args.strings.now c.args.props c.loop-name.name-iterator c.next.new.self p c.args.out.now.items c.loop-name.out.items c.in-Some.ensures.steps c.loop-name.invariant in
    rw (e.1, e.2) (longer c.in_err-put_property.field-0.0.kind _ _ size r.0, r.1)

pub returns-clause-put : goal.returns-clause-put
returns-clause-put c =
    properties_over c.args.strings.now c.args.props c.loop-name.name-iterator c.args.out.now.items c.loop-name.out.items c.in-None.ensures.steps.0 c.loop-name.invariant
