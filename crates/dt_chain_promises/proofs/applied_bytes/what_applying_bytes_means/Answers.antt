use Rattle.dt_chain_promises.proofs.AppliedBytes.{bytes_limited, bytes_merge, bytes_resolve, refused_no_merge}
use Rattle.dt_chain_promises.proofs.applied_bytes.what_applying_bytes_means.Goals as goal

pub returns-clause-merged : goal.returns-clause-merged
returns-clause-merged c = bytes_merge c.one_reading.ensures c.in_turn_is_fold.ensures

pub returns-clause-refused : goal.returns-clause-refused
returns-clause-refused c = refused_no_merge c.what_applying_means.ensures.refused

pub returns-clause-resolved : goal.returns-clause-resolved
returns-clause-resolved c = bytes_resolve (bytes_merge c.one_reading.ensures c.in_turn_is_fold.ensures) c.meaning_is_resolved.ensures

pub returns-clause-limited : goal.returns-clause-limited
returns-clause-limited c = bytes_limited
