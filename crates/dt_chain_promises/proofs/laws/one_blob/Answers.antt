use Rattle.dt_chain_promises.proofs.AppliedOutcomes as applied
use Rattle.dt_chain_promises.proofs.BuiltOutcomes as built
use Rattle.dt_chain_promises.proofs.Outcomes.{tree_not_refused, tree_refused_once}
use Rattle.dt_chain_promises.proofs.laws.one_blob.Goals as goal

pub returns-clause-applied : goal.returns-clause-applied
returns-clause-applied c = applied.blob_once c.one_reading.ensures c.applied_is_one.ensures

pub returns-clause-applied_only : goal.returns-clause-applied_only
returns-clause-applied_only c =
    applied.blob_not_refused c.one_reading.ensures c.applied_is_one.ensures c.blob_has_no_fault.ensures
    c.applied_is_not_refused.ensures c.limit_is_exceeded.ensures

pub returns-clause-built : goal.returns-clause-built
returns-clause-built c =
    built.blob_once c.one_outcome.ensures.said c.compiled_tree_is_one.ensures c.object_is_one.ensures.one c.applied_is_one.ensures

pub returns-clause-built_only : goal.returns-clause-built_only
returns-clause-built_only c =
    built.blob_not_refused c.one_outcome.ensures.said c.compiled_tree_is_one.ensures c.object_is_one.ensures.one
    c.applied_is_one.ensures c.one_outcome.ensures.only
    (tree_not_refused c.one_outcome.ensures.said c.one_outcome.ensures.only c.compiled_tree_is_one.ensures c.compiled_is_not_refused.ensures.meant
    c.compiled_is_not_refused.ensures.few) c.object_is_one.ensures.only c.applied_is_not_refused.ensures c.limit_is_exceeded.ensures

pub returns-clause-refused : goal.returns-clause-refused
returns-clause-refused c =
    applied.refused_once c.one_reading.ensures c.applied_is_one.ensures c.blob_has_no_fault.ensures
    c.applied_is_not_refused.ensures c.limit_is_exceeded.ensures c.first_fault_is_one.ensures c.one_refusal.ensures

pub returns-clause-not_built : goal.returns-clause-not_built
returns-clause-not_built c =
    built.refused_once c.one_outcome.ensures.said c.compiled_tree_is_one.ensures c.object_is_one.ensures.one
    c.applied_is_one.ensures c.one_outcome.ensures.only
    (tree_not_refused c.one_outcome.ensures.said c.one_outcome.ensures.only c.compiled_tree_is_one.ensures c.compiled_is_not_refused.ensures.meant
    c.compiled_is_not_refused.ensures.few) c.object_is_one.ensures.only c.applied_is_not_refused.ensures c.limit_is_exceeded.ensures
    c.one_outcome.ensures.fault
    (tree_refused_once c.one_outcome.ensures.said c.one_outcome.ensures.only c.one_outcome.ensures.fault c.one_outcome-2.ensures.refused
    c.compiled_is_not_refused.ensures.meant) c.overlay_refusal_is_one.ensures.one c.overlay_refusal_is_one.ensures.meant c.one_refusal.ensures
