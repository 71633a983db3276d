use Rattle.std.proofs.Common.{sym}
use Rattle.dt_names.specs.declared.fault.FaultKind.TheVariants.{BadFixup}
use Rattle.dt_names.proofs.Faults.{is_placeless}
use Rattle.dt_marks_read.proofs.ToldFixups.{told_fault}
use Rattle.dt_marks_read.proofs.listed_fixups.Labels.tell.Goals as goal

pub returns-in-None : goal.returns-in-None
returns-in-None c = told_fault c.args.self.now.blob.now c.args.self.now.label.now c.args.text.now _ c.of.result c.none-self.result (sym c.in-None.ensures)
    (is_placeless c.of.result BadFixup c.of.ensures.kind c.of.ensures.at) c.none-self.ensures
