use Rattle.std.proofs.Common.{◌∷◌, [], refl}
use Rattle.dt_overlay_texts.specs.Cells.{cell_told}
use Rattle.dt_overlay_read.proofs.fixups.list_cell.Goals as goal

pub returns-clause-listed : goal.returns-clause-listed
returns-clause-listed g c =
    let told = c.in-Some.ensures in
    record {
      more = record { node = c.in-Some.node; property = c.in-Some.cell.property; offset = c.in-Some.cell.offset; number = c.args.number } ∷ [];
      appended = c.in_ok-push.ensures.items;
      cells = cell_told c.in-Some.cell ∷ [];
      told = (told.0.0, tt);
      there = (told.0.1, tt);
      writes = (record { node = told.1; property = refl; offset = refl; number = refl }, tt);
    }
