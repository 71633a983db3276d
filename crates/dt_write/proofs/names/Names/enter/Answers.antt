use Rattle.std.proofs.Common.{sym}
use Rattle.dt_write.proofs.TreeNames.{used_already}
use Rattle.dt_write.proofs.names.Names.enter.Goals as goal

pub returns-in-Some : goal.returns-in-Some
returns-in-Some c = sym (used_already c.args.self.now c.in-Some.number c.args.name.now c.in-Some.ensures.0 c.in-Some.ensures.1)
