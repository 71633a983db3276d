use Rattle.std.proofs.Common.{sym}
use Rattle.std.proofs.lemmas.Result.{err_from_is_err_and}
use Rattle.dt_names.specs.declared.fault.Fault.{Fault}
use Rattle.dt_model.specs.Source.{base}
use Rattle.dt_chain_promises.specs.Compile.{WhyNoBlob, unparsed, as_base, as_overlay, WhyNotCompiled, IsCompilerFault, WhyNotCompiledOverlay}
use Rattle.dt_chain.specs.Steps.{OfEachText}
use Rattle.dt_chain.proofs.Stages.{if_err}
use Rattle.dt_chain_promises.proofs.ToldKinds.{blob_kind}
use Rattle.dt_chain.proofs.compiling.compile.Goals as goal

pub returns-in_err-source-clause-refused : goal.returns-in_err-source-clause-refused
returns-in_err-source-clause-refused c =
    let e = err_from_is_err_and c.from_residual.result c.from_residual.ensures.1 in
    rw (e.1, e.2) (unparsed c.in_err-source.field-0.0 c.in_err-source.ensures.err)

pub returns-then-is_overlay-clause-refused : goal.returns-then-is_overlay-clause-refused
returns-then-is_overlay-clause-refused c =
    let s = c.in_ok-source.source in
    let text = c.args.text.now in
    let parsed = c.in_ok-source.ensures.ok in
    if_err (λ (e : Fault). OfEachText s (λ text. WhyNotCompiledOverlay text e)) (WhyNoBlob text)
    (λ e why. as_overlay s e parsed (sym c.if-is_overlay.ensures) (why text parsed))
    c.overlay_blob.result c.overlay_blob.ensures.refused

pub returns-then-is_overlay-clause-kinds : goal.returns-then-is_overlay-clause-kinds
returns-then-is_overlay-clause-kinds c =
    let text = c.args.text.now in
    if_err (WhyNoBlob text) (λ (e : Fault). IsCompilerFault e.kind) (blob_kind text) c.overlay_blob.result (returns-then-is_overlay-clause-refused c)

pub returns-clause-refused : goal.returns-clause-refused
returns-clause-refused c =
    let s = c.in_ok-source.source in
    let text = c.args.text.now in
    let parsed = c.in_ok-source.ensures.ok in
    if_err (λ (e : Fault). OfEachText s (λ text. WhyNotCompiled base text e)) (WhyNoBlob text)
    (λ e why. as_base s e parsed (sym c.if-is_overlay.ensures) (why text parsed))
    c.source_blob.result c.source_blob.ensures.refused

pub returns-clause-kinds : goal.returns-clause-kinds
returns-clause-kinds c =
    let text = c.args.text.now in
    if_err (WhyNoBlob text) (λ (e : Fault). IsCompilerFault e.kind) (blob_kind text) c.source_blob.result (returns-clause-refused c)
