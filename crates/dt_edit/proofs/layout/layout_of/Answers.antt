use Rattle.dt_edit.proofs.Layouts.{layout_is}
use Rattle.dt_edit.proofs.layout.layout_of.Goals as goal

pub returns : goal.returns
returns c =
    layout_is c.args.bytes.now (record { boot_cpu = c.number.result; structure_at = c.number-2.result; structure = c.number-3.result; strings = c.number-4.result }) c.requires
    c.number.ensures c.number-2.ensures c.number-3.ensures c.number-4.ensures
