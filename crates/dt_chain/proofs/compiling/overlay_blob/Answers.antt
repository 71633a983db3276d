use Rattle.std.proofs.Common.{◌≡◌, ◌≤◌, None, length}
use Rattle.dt_names.specs.declared.fault.Fault.{Fault}
use Rattle.dt_flat.specs.Arena.{reading}
use Rattle.dt_model.specs.Format.{Reads, IsWithin}
use Rattle.dt_model.specs.Limits.{most_bytes}
use Rattle.dt_write.specs.Written.{written}
use Rattle.dt_write.specs.Refusals.{WhyNoBytes}
use Rattle.dt_chain_promises.specs.Compile.{IsCompiledOverlay, WhyNotCompiledOverlay}
use Rattle.dt_chain.specs.Steps.{OfEachText}
use Rattle.dt_chain.proofs.Stages.{if_err, if_ok_both, if_ok_all}
use Rattle.dt_chain.proofs.OverlayStages.{not_written, is_written, HasObjectBlob, object_written}
use Rattle.dt_chain.proofs.compiling.overlay_blob.Goals as goal

pub returns-clause-blob : goal.returns-clause-blob
returns-clause-blob c =
    let s = c.args.source.now in
    let r = reading c.in_ok-tree.tree in
    if_ok_both (λ blob. blob.items ≡ written r) (λ blob. length blob.items ≤ most_bytes) (λ blob. OfEachText s (λ text. IsCompiledOverlay text blob.items))
    (λ blob is size. is_written s r blob.items c.in_ok-tree.ensures.tree c.validity.ensures.within is size)
    c.write_blob-blob.result c.write_blob-blob.ensures.written c.write_blob-blob.ensures.size

pub returns-clause-object : goal.returns-clause-object
returns-clause-object c =
    let s = c.args.source.now in
    let r = reading c.in_ok-tree.tree in
    if_ok_all (λ blob. blob.items ≡ written r) (λ blob. length blob.items ≤ most_bytes) (λ blob. Reads blob.items r) (λ blob. IsWithin blob.items r)
    (λ blob. OfEachText s (λ text. HasObjectBlob text blob.items))
    (λ blob is size reads inside. object_written s r blob.items c.in_ok-tree.ensures.tree c.validity.ensures.valid c.validity.ensures.within is size reads inside)
    c.write_blob-blob.result c.write_blob-blob.ensures.written c.write_blob-blob.ensures.size c.write_blob-blob.ensures.reads c.write_blob-blob.ensures.within

pub returns-clause-refused : goal.returns-clause-refused
returns-clause-refused c =
    let s = c.args.source.now in
    let r = reading c.in_ok-tree.tree in
    if_err (λ (fault : Fault). WhyNoBytes fault.kind (length (written r)) × (fault.at ≡ None)) (λ fault. OfEachText s (λ text. WhyNotCompiledOverlay text fault))
    (λ fault why. not_written s r fault c.in_ok-tree.ensures.tree why)
    c.write_blob-blob.result c.write_blob-blob.ensures.refused
