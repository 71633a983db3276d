use Rattle.dt_flat.specs.Arena.{reading}
use Rattle.dt_write.proofs.WholeLemmas.{blob_reads, blob_within}
use Rattle.dt_write.proofs.write_blob.Goals as goal

pub returns-clause-reads : goal.returns-clause-reads
returns-clause-reads c = blob_reads (reading c.args.tree.now) c.put_blob.new.out.items c.validity.ensures.valid c.in_ok-put_blob.ensures.blob

pub returns-clause-within : goal.returns-clause-within
returns-clause-within c = blob_within (reading c.args.tree.now) c.put_blob.new.out.items c.validity.ensures.valid c.validity.ensures.within c.in_ok-put_blob.ensures.blob
