use Rattle.std.proofs.Common.{◌∙◌}
use Rattle.dt_overlay_read.proofs.LocalFixupsWords.{four_bytes}
use Rattle.dt_overlay_read.proofs.local_fixups.cell_number.Goals as goal

pub returns : goal.returns
returns c = c.from_be_bytes.ensures ∙ four_bytes c.args.bytes.now c.requires
