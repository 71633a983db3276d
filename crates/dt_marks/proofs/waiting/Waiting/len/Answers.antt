use Rattle.std.proofs.Common.{◌∙◌, sym, ap, length}
use Rattle.dt_marks.proofs.TextTables.{length-kept}
use Rattle.dt_marks.proofs.waiting.Waiting.len.Goals as goal

pub returns : goal.returns
returns c = c.len.ensures.len ∙ sym (length-kept c.self.inside.texts.entries) ∙ ap length c.self.view_is
