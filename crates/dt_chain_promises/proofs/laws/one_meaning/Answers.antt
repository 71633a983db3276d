use Rattle.dt_chain_promises.proofs.Outcomes.{meaning_once}
use Rattle.dt_chain_promises.proofs.OverlayOutcomes.{overlay_once}
use Rattle.dt_chain_promises.proofs.laws.one_meaning.Goals as goal

pub returns-clause-base : goal.returns-clause-base
returns-clause-base c = meaning_once c.one_outcome.ensures.said

pub returns-clause-overlay : goal.returns-clause-overlay
returns-clause-overlay c = overlay_once c.one_outcome.ensures.said c.overlay_is_one.ensures
