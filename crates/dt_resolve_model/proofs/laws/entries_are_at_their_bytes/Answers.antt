use Rattle.dt_resolve_model.proofs.Beginnings.{entries_at_bytes}
use Rattle.dt_resolve_model.proofs.laws.entries_are_at_their_bytes.Goals as goal

pub returns : goal.returns
returns c = entries_at_bytes
