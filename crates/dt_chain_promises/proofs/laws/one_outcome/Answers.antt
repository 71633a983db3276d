use Rattle.dt_model.specs.Source.{raw}
use Rattle.dt_chain_promises.proofs.Outcomes as outcomes
use Rattle.dt_chain_promises.proofs.Blobs.{blob_once, not_refused, refused_once}
use Rattle.dt_chain_promises.proofs.laws.one_outcome.Goals as goal

pub returns-clause-blob : goal.returns-clause-blob
returns-clause-blob c = blob_once c.one_outcome.ensures.said c.compiled_tree_is_one.ensures c.object_is_one.ensures.one

pub returns-clause-only : goal.returns-clause-only
returns-clause-only c =
    not_refused c.one_outcome.ensures.said c.one_outcome.ensures.only c.compiled_tree_is_one.ensures c.compiled_is_not_refused.ensures.meant
    c.compiled_is_not_refused.ensures.few c.object_is_one.ensures.one c.object_is_one.ensures.only

pub returns-clause-refusal : goal.returns-clause-refusal
returns-clause-refusal c =
    refused_once c.one_outcome.ensures.said c.one_outcome.ensures.only c.one_outcome.ensures.fault c.one_outcome-2.ensures.refused c.compiled_is_not_refused.ensures.meant
    c.overlay_refusal_is_one.ensures.one c.overlay_refusal_is_one.ensures.meant

pub returns-clause-raw_blob : goal.returns-clause-raw_blob
returns-clause-raw_blob c = outcomes.blob_once c.one_outcome.ensures.said c.compiled_tree_is_one.ensures raw

pub returns-clause-raw_only : goal.returns-clause-raw_only
returns-clause-raw_only c =
    outcomes.compiled_not_refused c.one_outcome.ensures.said c.one_outcome.ensures.only c.compiled_tree_is_one.ensures c.compiled_is_not_refused.ensures.meant
    c.compiled_is_not_refused.ensures.few raw

pub returns-clause-raw_refusal : goal.returns-clause-raw_refusal
returns-clause-raw_refusal c =
    outcomes.refused_once c.one_outcome.ensures.said c.one_outcome.ensures.only c.one_outcome.ensures.fault c.one_outcome-2.ensures.refused
    c.compiled_is_not_refused.ensures.meant raw
