-- An owner that has no ends yet has them as it had none.
use Rattle.std.proofs.Common.{◌≡◌, ℕ, ◌+◌, ◌-◌, length}
use Rattle.dt_flat.specs.Chain.{ends_at}
use Rattle.dt_flat.proofs.chain.make_ends.Given as goal

abbrev pub invariant-loop-ends : goal.invariant-loop-ends
invariant-loop-ends l = record { same : (p : ℕ) → ends_at l.ends.items p ≡ ends_at l.initial.ends.items p }

abbrev pub decreases-loop-ends : goal.decreases-loop-ends
decreases-loop-ends l = l.owner + 1 - length l.ends.items
