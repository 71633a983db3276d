use Rattle.std.proofs.Common.{inl, inr}
use Rattle.std.proofs.lemmas.Result.{err_from_is_err_and}
use Rattle.dt_names.specs.declared.fault.Fault.{Fault}
use Rattle.dt_chain_promises.specs.Build.{WhyNoObject}
use Rattle.dt_chain_promises.specs.Compile.{WhyNotCompiledOverlay}
use Rattle.dt_chain.specs.Steps.{OfEachText}
use Rattle.dt_chain.proofs.Stages.{if_ok, if_err}
use Rattle.dt_chain.proofs.OverlayStages.{HasObjectBlob}
use Rattle.dt_chain.proofs.building.object_of.Goals as goal

pub returns-in_err-source-clause-refused : goal.returns-in_err-source-clause-refused
returns-in_err-source-clause-refused c =
    let e = err_from_is_err_and c.from_residual.result c.from_residual.ensures.1 in
    rw (e.1, e.2) (inl c.in_err-source.ensures.err)

pub returns-clause-object : goal.returns-clause-object
returns-clause-object c =
    let s = c.in_ok-source.source in
    let text = c.args.text.now in
    if_ok (λ blob. OfEachText s (λ text. HasObjectBlob text blob.items)) (λ blob. HasObjectBlob text blob.items) (λ blob h. h text c.in_ok-source.ensures.ok)
    c.overlay_blob-blob.result c.overlay_blob-blob.ensures.object

pub returns-clause-refused : goal.returns-clause-refused
returns-clause-refused c =
    let s = c.in_ok-source.source in
    let text = c.args.text.now in
    if_err (λ (e : Fault). OfEachText s (λ text. WhyNotCompiledOverlay text e)) (WhyNoObject text) (λ e why. inr (why text c.in_ok-source.ensures.ok))
    c.overlay_blob-blob.result c.overlay_blob-blob.ensures.refused
