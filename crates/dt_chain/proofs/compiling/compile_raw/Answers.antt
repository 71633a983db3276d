use Rattle.std.proofs.lemmas.Result.{err_from_is_err_and}
use Rattle.dt_names.specs.declared.fault.Fault.{Fault}
use Rattle.dt_model.specs.Source.{raw}
use Rattle.dt_chain_promises.specs.Compile.{WhyNotCompiled, unparsed, no_tree, IsCompilerFault}
use Rattle.dt_chain.specs.Steps.{OfEachText}
use Rattle.dt_chain_promises.proofs.ToldKinds.{base_kind}
use Rattle.dt_chain.proofs.Stages.{if_err}
use Rattle.dt_chain.proofs.compiling.compile_raw.Goals as goal

pub returns-in_err-source-clause-refused : goal.returns-in_err-source-clause-refused
returns-in_err-source-clause-refused c =
    let e = err_from_is_err_and c.from_residual.result c.from_residual.ensures.1 in
    rw (e.1, e.2) (no_tree c.in_err-source.field-0.0 (unparsed c.in_err-source.field-0.0 c.in_err-source.ensures.err))

pub returns-clause-kinds : goal.returns-clause-kinds
returns-clause-kinds c =
    let s = c.in_ok-source.source in
    if_err (λ (e : Fault). OfEachText s (λ text. WhyNotCompiled raw text e)) (λ e. IsCompilerFault e.kind)
    (λ e why. base_kind raw c.args.text.now e (why c.args.text.now c.in_ok-source.ensures.ok))
    c.source_blob-blob.result c.source_blob-blob.ensures.refused
