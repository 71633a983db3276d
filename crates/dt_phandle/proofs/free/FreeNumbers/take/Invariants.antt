-- Each number that was passed over is taken.
use Rattle.std.proofs.Common.{◌≡◌, ℕ, ◌+◌, List}
use Rattle.std.specs.HashSet.{hash_set_len}
use Rattle.dt_phandle.specs.Least.{AreLeft}
use Rattle.dt_phandle.proofs.free.FreeNumbers.take.Given as goal

abbrev pub invariant-loop-self : goal.invariant-loop-self
invariant-loop-self l = record {
  left : (taken : List ℕ) → AreLeft taken l.fn.self.written l.fn.self.next → AreLeft taken l.self.written l.self.next;
  size : l.self.next + hash_set_len l.self.written ≡ l.fn.self.next + hash_set_len l.fn.self.written;
}

abbrev pub decreases-loop-self : goal.decreases-loop-self
decreases-loop-self l = hash_set_len l.self.written
