use Rattle.std.proofs.Common.{ap}
use Rattle.dt_names.specs.declared.fault.FaultKind.TheVariants.{BadLocalFixup}
use Rattle.dt_names.proofs.Faults.{is_placeless}
use Rattle.dt_model.specs.Object.{words_of}
use Rattle.dt_marks_read.proofs.ToldLocalFixups.{nothing_told}
use Rattle.dt_marks_read.proofs.listed_locals.Mirror.refuse.Goals as goal

pub returns-clause-fault : goal.returns-clause-fault
returns-clause-fault c = is_placeless c.of.result BadLocalFixup c.of.ensures.kind c.of.ensures.at

pub returns-clause-nothing : goal.returns-clause-nothing
returns-clause-nothing c =
    let s = c.args.self.now in
    nothing_told s.blob.now s.node s.property.now s.value.now c.as_slice-self.result.now c.new-self.result s.steps (ap words_of c.as_slice-self.ensures) c.new-self.ensures
