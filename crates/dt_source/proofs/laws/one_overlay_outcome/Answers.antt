use Rattle.dt_source.proofs.OverlayOutcomes.{overlay_not_refused, overlay_refused_once}
use Rattle.dt_source.proofs.laws.one_overlay_outcome.Goals as goal

pub returns-clause-built : goal.returns-clause-built
returns-clause-built c = overlay_not_refused c.named_overlay_is_not_refused.ensures

pub returns-clause-refused : goal.returns-clause-refused
returns-clause-refused c = overlay_refused_once c.overlay_refusal_is_one.ensures.one
