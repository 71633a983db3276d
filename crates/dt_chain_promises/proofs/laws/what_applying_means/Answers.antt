use Rattle.dt_chain_promises.proofs.AppliedMeanings.{applying_is_merging, refused_is_no_merge}
use Rattle.dt_chain_promises.proofs.laws.what_applying_means.Goals as goal

pub returns-clause-merged : goal.returns-clause-merged
returns-clause-merged c = applying_is_merging c.one_reading.ensures c.in_turn_is_fold.ensures c.written_reads.ensures.reads c.written_reads.ensures.within

pub returns-clause-refused : goal.returns-clause-refused
returns-clause-refused c =
    refused_is_no_merge c.one_reading.ensures c.in_turn_is_fold.ensures c.blob_has_no_fault.ensures c.sites_are_one.ensures c.refused_is_undefined.ensures
