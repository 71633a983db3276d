use Rattle.std.proofs.Common.{◌+◌, ◌*◌, length}
use Rattle.dt_parse.specs.Standing.{Turning, weight}
use Rattle.dt_parse.proofs.expression.primary.Given as goal

abbrev pub invariant-turns : goal.invariant-turns
invariant-turns l = Turning l.fn.tokens l.stage l.room.pending.items l.room.steps.items l.rest

abbrev pub decreases-turns : goal.decreases-turns
decreases-turns l = 4 * length l.rest + (2 * length l.room.pending.items + weight l.stage)
