use Rattle.dt_model.proofs.Blobs.{reads_once}
use Rattle.dt_write.specs.Written.{written}
use Rattle.dt_write.proofs.WrittenReads.{written_reads, written_within}
use Rattle.dt_write.proofs.laws.written_reads.Goals as goal

pub returns-clause-reads : goal.returns-clause-reads
returns-clause-reads c = written_reads

pub returns-clause-within : goal.returns-clause-within
returns-clause-within c = written_within

pub returns-clause-only : goal.returns-clause-only
returns-clause-only c t u valid short reads = reads_once (written t) u t reads (written_reads t valid short)

pub returns-clause-taken : goal.returns-clause-taken
returns-clause-taken c t f at valid small short first =
    c.blob_has_no_fault.ensures (written t) t f at (written_reads t valid short) (written_within t valid small short) first
