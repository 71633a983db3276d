use Rattle.std.proofs.Common.{sym, ◌∙◌}
use Rattle.dt_marks_read.proofs.ToldLocalFixups.{node_begun, offsets_done}
use Rattle.dt_marks_read.proofs.listed_locals.Mirror.open.Goals as goal

pub returns-clause-told : goal.returns-clause-told
returns-clause-told c =
    let s = c.args.self.now in
    node_begun s.blob.now s.open_nodes c.push.new.self c.args.node c.in-Some.counterpart c.args.name.now s.steps c.requires.open (sym c.in-Some.ensures) c.push.ensures
    ∙ sym (offsets_done s.blob.now s.node s.property.now s.value.now s.offsets.now c.push.new.self s.steps c.requires.empty)
