use Rattle.dt_read.proofs.Cursors.{few_marks}
use Rattle.dt_read.proofs.cursor.Cursor.copy.Goals as goal

pub returns-clause-few : goal.returns-clause-few
returns-clause-few c = few_marks c.self.inside.strings.now c.self.inside.at c.self.inside.rest.now c.self.invariant
