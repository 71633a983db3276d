use Rattle.std.proofs.Common.{◌∙◌}
use Rattle.dt_marks_read.proofs.ToldFixups.{text_told}
use Rattle.dt_marks_read.proofs.listed_fixups.Labels.next.Goals as goal

pub returns-in-Some : goal.returns-in-Some
returns-in-Some c =
    let s = c.args.self.now in
    text_told s.blob.now s.rest s.label.now s.texts c.in-Some.text.now c.next.new.self c.in-Some.ensures.steps ∙ c.tell.ensures
