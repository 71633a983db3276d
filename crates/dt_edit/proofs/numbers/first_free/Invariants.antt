-- Those in front of here are marked.
use Rattle.std.specs.Prelude.{◌≡◌, ◌-◌, ◌<◌, ◌≤◌, true, false, ℕ, length, get_or}
use Rattle.dt_edit.proofs.numbers.first_free.Given as goal

abbrev pub invariant-loop-free : goal.invariant-loop-free
invariant-loop-free l = record {
  front : (k : ℕ) → k < l.free → get_or l.taken k false ≡ true;
  within : l.free ≤ length l.taken;
}

abbrev pub decreases-loop-free : goal.decreases-loop-free
decreases-loop-free l = length l.taken - l.free
