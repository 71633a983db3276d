-- The set and what is left have all.
use Rattle.std.proofs.Common.{◌≡◌, ◌≤◌, ℕ, ◌||◌, map, drop}
use Rattle.std.specs.Prelude.{nat_eq}
use Rattle.std.specs.List.{list_any}
use Rattle.std.specs.HashSet.{hash_set_len, contains}
use Rattle.dt_model.specs.Numbering.{written_numbers}
use Rattle.dt_phandle.specs.Asking.{asked_said}
use Rattle.dt_phandle.proofs.free.add_written.Given as goal

abbrev pub invariant-loop-node : goal.invariant-loop-node
invariant-loop-node l = record {
  numbers : (k : ℕ) → (contains nat_eq l.written k || list_any (nat_eq k) (written_numbers (map asked_said (drop l.node-index l.asked))))
      ≡ list_any (nat_eq k) (written_numbers (map asked_said l.asked));
  size : hash_set_len l.written ≤ l.node-index;
}
