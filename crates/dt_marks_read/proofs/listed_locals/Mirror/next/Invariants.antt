-- What is left is what was left at first.
use Rattle.std.proofs.Common.{◌≡◌, length}
use Rattle.dt_marks_read.specs.MirrorViews.{mirror_left, MayGoOn}
use Rattle.dt_marks_read.proofs.listed_locals.Mirror.next.Given as goal

abbrev pub invariant-loop-told : goal.invariant-loop-told
invariant-loop-told l = MayGoOn l.self × (mirror_left l.self ≡ mirror_left l.fn.self)

abbrev pub decreases-loop-told : goal.decreases-loop-told
decreases-loop-told l = length l.self.steps
