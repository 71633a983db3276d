use Rattle.dt_flat.proofs.PlantedNodes.{arena_reads}
use Rattle.dt_flat.proofs.planting.planted_reads.Goals as goal

pub returns : goal.returns
returns c = arena_reads
