use Rattle.dt_overlay_laws.proofs.WrittenCells.{landed_is_brought}
use Rattle.dt_overlay_laws.proofs.writing.cells_are_written.Goals as goal

pub returns : goal.returns
returns c object ws numbers f = landed_is_brought ws numbers object f
