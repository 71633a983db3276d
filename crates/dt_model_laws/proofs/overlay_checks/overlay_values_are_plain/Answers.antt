use Rattle.dt_model_laws.proofs.PlainValues.{overlay_values_are_plain}
use Rattle.dt_model_laws.proofs.overlay_checks.overlay_values_are_plain.Goals as goal

pub returns : goal.returns
returns c = overlay_values_are_plain
