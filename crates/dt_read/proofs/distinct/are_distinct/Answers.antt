use Rattle.std.proofs.Common.{◌≡◌, ℕ, Some, refl, arith}
use Rattle.std.specs.List.{slice_get}
use Rattle.dt_read.specs.Keys.{Key}
use Rattle.dt_read.specs.Classes.{IsNewIn}
use Rattle.dt_read.proofs.Novelty.{distinct_by_place}
use Rattle.dt_read.proofs.distinct.are_distinct.Goals as goal

pub returns-clause-is : goal.returns-clause-is
returns-clause-is c =
    let all = c.args.first.now in
    let new : (i : ℕ) (k : Key) → slice_get all i ≡ Some k → IsNewIn all i k
    = λ i k at. c.loop-class.invariant.new i k at (omega (arith, c.loop-class-test.false)) in
    (λ _. distinct_by_place all new, λ d. refl)
