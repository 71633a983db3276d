use Rattle.dt_chain_promises.proofs.AppliedBytes.{as_list, not_refused, reading_once, refused_as_list, refused_once}
use Rattle.dt_chain_promises.proofs.applied_bytes.one_applied_reading.Goals as goal

pub returns-clause-reading : goal.returns-clause-reading
returns-clause-reading c = reading_once c.one_reading.ensures c.applied_is_one.ensures

pub returns-clause-as_list : goal.returns-clause-as_list
returns-clause-as_list c = as_list c.one_reading.ensures c.applied_is_one.ensures

pub returns-clause-only : goal.returns-clause-only
returns-clause-only c = not_refused c.one_reading.ensures c.blob_has_no_fault.ensures c.applied_is_not_refused.ensures c.limit_is_exceeded.ensures

pub returns-clause-refusal : goal.returns-clause-refusal
returns-clause-refusal c = refused_once c.one_blob.ensures.refused

pub returns-clause-refused_as_list : goal.returns-clause-refused_as_list
returns-clause-refused_as_list c = refused_as_list
