-- The keys so far are new, and the table holds them.
use Rattle.std.proofs.Common.{◌≡◌, ◌+◌, ◌%◌, true, List, ℕ, length, drop}
use Rattle.dt_read.specs.Filter.{holds}
use Rattle.dt_read.specs.Keys.{Key}
use Rattle.dt_read.specs.Classes.{hash_of}
use Rattle.dt_read.proofs.Novelty.{AreNew}
use Rattle.dt_read.proofs.distinct.is_distinct_class.Given as goal

pub record SoFar (seed classes class : ℕ) (size : ℕ) (words : List ℕ) (all left : List Key) (before : ℕ) : Type 0 where
  pub size_is : length words ≡ size
  pub left_is : drop before all ≡ left
  pub within : before + length left ≡ length all
  pub new : AreNew (λ k. hash_of seed k % classes ≡ class) (λ k. holds words (hash_of seed k) ≡ true) all before

abbrev pub invariant-loop-key : goal.invariant-loop-key
invariant-loop-key l = SoFar l.seed l.classes l.class (length l.fn.words) l.words l.first l.keys l.before

abbrev pub decreases-loop-key : goal.decreases-loop-key
decreases-loop-key l = length l.keys
