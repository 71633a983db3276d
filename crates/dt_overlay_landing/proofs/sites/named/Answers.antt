use Rattle.std.proofs.Common.{◌≡◌, Err, ◌∙◌, sym, ap, true≢false}
use denote.Enum.Bare.{sameb}
use Rattle.dt_names.specs.declared.fault.Fault.{Fault}
use Rattle.dt_names.specs.contracts.fault.FaultKind.{the_type}
use Rattle.dt_names.specs.declared.fault.FaultKind.TheVariants.{NoMemory}
use Rattle.dt_overlay_landing.proofs.SitesNamed.{named_found, named_missed, named_refused}
use Rattle.dt_overlay_landing.proofs.sites.named.Goals as goal

pub returns-in-Err-2-clause-value : goal.returns-in-Err-2-clause-value
returns-in-Err-2-clause-value g c object sites given valid known landings =
    let both : Err c.in-Err-2.field-0 ≡ Err c.in-Err.fault = sym c.in-Err-2.is ∙ c.in-Err.is in
    let same : c.in-Err-2.field-0 ≡ c.in-Err.fault = cc in
    named_refused (g.T.Target.reading c.args.target.now) object c.validity.ensures.valid valid c.validity.ensures.within given sites c.args.places.now known landings c.args.value.now
    c.in-Err-2.field-0.kind c.in-Err-2.ensures.refused.0
    (λ is. true≢false (sym (ap (λ kind. sameb the_type kind NoMemory) is) ∙ ap (λ (fault : Fault). sameb the_type fault.kind NoMemory) same ∙ sym c.eq.ensures ∙ c.if-eq.false))

pub returns-then-branch-clause-value : goal.returns-then-branch-clause-value
returns-then-branch-clause-value g c object sites given valid known landings =
    named_found (g.T.Target.reading c.args.target.now) object c.validity.ensures.valid valid c.validity.ensures.within given sites c.args.places.now known landings c.args.value.now
    c.in-Ok.path c.in-Ok.ensures.value.0 (sym c.in_ok-stands.ensures.value ∙ c.if-branch.true)

pub returns-else-branch-clause-value : goal.returns-else-branch-clause-value
returns-else-branch-clause-value g c object sites given valid known landings =
    named_missed (g.T.Target.reading c.args.target.now) object c.validity.ensures.valid valid c.validity.ensures.within given sites c.args.places.now known landings c.args.value.now
    c.in-Ok.path c.in-Ok.ensures.value.0 (sym c.in_ok-stands.ensures.value ∙ c.if-branch.false)
