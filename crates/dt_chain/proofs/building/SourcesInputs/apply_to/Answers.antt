use Rattle.std.proofs.Common.{sym, subst}
use Rattle.std.proofs.lemmas.Result.{err_from_is_err_and, on_ok_weaker}
use Rattle.dt_names.specs.declared.fault.Fault.{Fault}
use Rattle.dt_flat.specs.Arena.{reading}
use Rattle.dt_chain_promises.specs.Apply.{IsRead, IsNoBlob, WhyNoStep, no_object}
use Rattle.dt_chain_promises.specs.Build.{HasObject, WhyNoObject}
use Rattle.dt_chain.proofs.Stages.{if_err}
use Rattle.dt_chain.proofs.OverlayStages.{HasObjectBlob}
use Rattle.dt_chain.proofs.Objects.{of_text, not_of_text}
use Rattle.dt_chain.proofs.building.SourcesInputs.apply_to.Goals as goal

pub returns-in_err-object-clause-refused : goal.returns-in_err-object-clause-refused
returns-in_err-object-clause-refused c =
    let e = err_from_is_err_and c.from_residual.result c.from_residual.ensures.1 in
    rw (e.1, e.2) (no_object c.in_err-object.field-0.0 c.in_err-object.ensures.refused)

pub returns-clause-applied : goal.returns-clause-applied
returns-clause-applied c =
    let text = c.args.input.now in
    let blob = c.deref.result.now in
    let has : HasObjectBlob text blob = subst (HasObjectBlob text) (sym c.deref.ensures.value) c.in_ok-object.ensures.object in
    on_ok_weaker c.apply_to.result (of_text c.one_reading.ensures text blob (reading c.args.tree.now) (reading c.apply_to.new.tree) has) c.apply_to.ensures.applied

pub returns-clause-refused : goal.returns-clause-refused
returns-clause-refused c =
    let text = c.args.input.now in
    let blob = c.deref.result.now in
    let t = reading c.args.tree.now in
    let has : HasObjectBlob text blob = subst (HasObjectBlob text) (sym c.deref.ensures.value) c.in_ok-object.ensures.object in
    if_err (λ (e : Fault). WhyNoStep IsRead IsNoBlob t blob e) (WhyNoStep HasObject WhyNoObject t text) (λ e why. not_of_text c.one_reading.ensures c.blob_has_no_fault.ensures text blob t e has why)
    c.apply_to.result c.apply_to.ensures.refused
