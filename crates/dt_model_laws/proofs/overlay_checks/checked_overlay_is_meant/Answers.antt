use Rattle.dt_model_laws.proofs.OverlayChecks.{checked_is_meant, untargeted_is_refused, uncontained_is_refused}
use Rattle.dt_model_laws.proofs.overlay_checks.checked_overlay_is_meant.Goals as goal

pub returns-clause-meant : goal.returns-clause-meant
returns-clause-meant c = checked_is_meant

pub returns-clause-untargeted : goal.returns-clause-untargeted
returns-clause-untargeted c = untargeted_is_refused

pub returns-clause-uncontained : goal.returns-clause-uncontained
returns-clause-uncontained c = uncontained_is_refused
