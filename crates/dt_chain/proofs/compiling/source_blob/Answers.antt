use Rattle.std.proofs.Common.{◌≡◌, ◌≤◌, None, length}
use Rattle.std.proofs.lemmas.Result.{err_from_is_err_and}
use Rattle.dt_names.specs.declared.fault.Fault.{Fault}
use Rattle.dt_flat.specs.Arena.{reading}
use Rattle.dt_model.specs.Limits.{most_bytes}
use Rattle.dt_write.specs.Written.{written}
use Rattle.dt_write.specs.Refusals.{WhyNoBytes}
use Rattle.dt_source_bodies.specs.Refusals.{mode_said}
use Rattle.dt_chain_promises.specs.Compile.{IsCompiled, WhyNotCompiled, no_tree}
use Rattle.dt_chain.specs.Steps.{OfEachText}
use Rattle.dt_chain.proofs.Stages.{not_written, is_written, if_err, if_ok_both}
use Rattle.dt_chain.proofs.compiling.source_blob.Goals as goal

pub returns-in_err-tree-clause-refused : goal.returns-in_err-tree-clause-refused
returns-in_err-tree-clause-refused c =
    let e = err_from_is_err_and c.from_residual.result c.from_residual.ensures.1 in
    rw (e.1, e.2) (λ text parsed. no_tree c.in_err-tree.field-0.0 (c.in_err-tree.ensures.refused text parsed))

pub returns-clause-blob : goal.returns-clause-blob
returns-clause-blob c =
    let s = c.args.source.now in
    let mode = mode_said c.args.mode in
    let r = reading c.in_ok-tree.tree in
    if_ok_both (λ blob. blob.items ≡ written r) (λ blob. length blob.items ≤ most_bytes) (λ blob. OfEachText s (λ text. IsCompiled mode text blob.items))
    (λ blob is size. is_written mode s r blob.items c.in_ok-tree.ensures.tree c.validity.ensures.within is size)
    c.write_blob-blob.result c.write_blob-blob.ensures.written c.write_blob-blob.ensures.size

pub returns-clause-refused : goal.returns-clause-refused
returns-clause-refused c =
    let s = c.args.source.now in
    let mode = mode_said c.args.mode in
    let r = reading c.in_ok-tree.tree in
    if_err (λ (fault : Fault). WhyNoBytes fault.kind (length (written r)) × (fault.at ≡ None)) (λ fault. OfEachText s (λ text. WhyNotCompiled mode text fault))
    (λ fault why. not_written mode s r fault c.in_ok-tree.ensures.tree why)
    c.write_blob-blob.result c.write_blob-blob.ensures.refused
