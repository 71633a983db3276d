use Rattle.dt_model_laws.proofs.OverlayRefusals.{one_refusal, overlay_not_refused}
use Rattle.dt_model_laws.proofs.overlay_sources.overlay_refusal_is_one.Goals as goal

pub returns-clause-one : goal.returns-clause-one
returns-clause-one c = one_refusal

pub returns-clause-meant : goal.returns-clause-meant
returns-clause-meant c = overlay_not_refused
