-- No byte so far is a slash.
use Rattle.std.proofs.Common.{◌≡◌, ◌==◌, false, take, All}
use Rattle.dt_names.proofs.path.cut.Given as goal

abbrev pub invariant-loop-at : goal.invariant-loop-at
invariant-loop-at l = All (λ b. (b == 47) ≡ false) (take l.at l.bytes)
