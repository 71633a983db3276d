use Rattle.dt_decompile_laws.proofs.HeldBytes.{read_trees_hold_bytes}
use Rattle.dt_decompile_laws.proofs.meaning.read_trees_hold_bytes.Goals as goal

pub returns : goal.returns
returns c = read_trees_hold_bytes
