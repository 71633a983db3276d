use Rattle.dt_overlay_texts.proofs.CellTexts.{cells_told, texts_tell}
use Rattle.dt_overlay_texts.proofs.laws.cell_texts_are_texts.Goals as goal

pub returns : goal.returns
returns c = record { told = cells_told; tell = texts_tell }
