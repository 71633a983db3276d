-- The keys of the classes so far are new where they stand.
use Rattle.std.proofs.Common.{◌≡◌, ◌<◌, ◌%◌, ℕ, Some, List}
use Rattle.std.specs.List.{slice_get}
use Rattle.dt_read.specs.Keys.{Key}
use Rattle.dt_read.specs.Classes.{hash_of, IsNewIn}
use Rattle.dt_read.proofs.distinct.are_distinct.Given as goal

pub record SoFar (all : List Key) (seed classes class : ℕ) : Type 0 where
  pub new : (i : ℕ) (k : Key) → slice_get all i ≡ Some k → hash_of seed k % classes < class → IsNewIn all i k

abbrev pub invariant-loop-class : goal.invariant-loop-class
invariant-loop-class l = SoFar l.first l.seed l.classes l.class
