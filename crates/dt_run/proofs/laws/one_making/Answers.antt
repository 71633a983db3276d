use Rattle.dt_run.proofs.laws.one_making.Goals as goal

pub returns : goal.returns
returns c = record {
  blob = c.one_outcome.ensures.blob;
  raw_blob = c.one_outcome.ensures.raw_blob;
  applied = c.one_blob.ensures.applied;
  built = c.one_blob.ensures.built;
  only = c.one_outcome.ensures.only;
  raw_only = c.one_outcome.ensures.raw_only;
  applied_only = c.one_blob.ensures.applied_only;
  built_only = c.one_blob.ensures.built_only;
  refusal = c.one_outcome.ensures.refusal;
  raw_refusal = c.one_outcome.ensures.raw_refusal;
  not_applied = c.one_blob.ensures.refused;
  not_built = c.one_blob.ensures.not_built;
}
