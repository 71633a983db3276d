use Rattle.std.proofs.Common.{ap}
use Rattle.dt_model.specs.Object.{words_of}
use Rattle.dt_marks_read.proofs.ToldLocalFixups.{offsets_done}
use Rattle.dt_marks_read.proofs.listed_locals.LocalFixups.new.Goals as goal

pub returns : goal.returns
returns c =
    let none = c.as_slice-none.result.now in
    offsets_done c.args.blob.now 0 none none none c.args.open_nodes c.args.steps (ap words_of c.as_slice-none.ensures)
