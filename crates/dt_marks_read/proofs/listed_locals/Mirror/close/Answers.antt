use Rattle.std.proofs.Common.{sym, ap, ◌∙◌}
use Rattle.dt_marks_read.specs.LocalFixupsLeft.{walk_told}
use Rattle.dt_marks_read.proofs.ToldLocalFixups.{offsets_done}
use Rattle.dt_marks_read.proofs.listed_locals.Mirror.close.Goals as goal

pub returns-clause-told : goal.returns-clause-told
returns-clause-told c =
    let s = c.args.self.now in
    ap (λ ks. walk_told s.blob.now ks s.steps) (sym c.pop.ensures)
    ∙ sym (offsets_done s.blob.now s.node s.property.now s.value.now s.offsets.now c.pop.new.self s.steps c.requires.empty)
