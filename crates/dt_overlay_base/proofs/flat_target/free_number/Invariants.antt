-- The numbers from the last one up to here are taken.
use Rattle.std.proofs.Common.{◌≡◌, ◌+◌, ◌-◌, ◌<◌, ℕ, true}
use Rattle.std.specs.Prelude.{nat_eq}
use Rattle.std.specs.List.{list_any}
use Rattle.dt_flat.specs.Arena.{reading}
use Rattle.dt_model.specs.Numbers.{numbers_of}
use Rattle.dt_overlay_base.proofs.flat_target.free_number.Given as goal

abbrev pub invariant-loop-number : goal.invariant-loop-number
invariant-loop-number l = record {
  above : l.last < l.number;
  between : (k : ℕ) → l.last < k → k < l.number → list_any (nat_eq k) (numbers_of (reading l.tree)) ≡ true;
}

abbrev pub decreases-loop-number : goal.decreases-loop-number
decreases-loop-number l = l.last + 65538 - l.number
