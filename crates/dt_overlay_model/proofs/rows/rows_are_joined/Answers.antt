use Rattle.dt_overlay_model.proofs.WorkedRows.{rows_are_joined}
use Rattle.dt_overlay_model.proofs.rows.rows_are_joined.Goals as goal

pub returns : goal.returns
returns c = rows_are_joined
