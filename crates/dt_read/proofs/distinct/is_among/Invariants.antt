-- What is left of the first keys decides as the whole does.
use Rattle.std.proofs.Common.{◌≡◌, ◌↔◌, ℕ, ◌+◌, take}
use Rattle.dt_model.specs.Lists.{IsIn}
use Rattle.dt_read.specs.Keys.{said}
use Rattle.dt_read.proofs.distinct.is_among.Given as goal

abbrev pub invariant-loop : goal.invariant-loop
invariant-loop l = (j : ℕ) → j + l.counter ≡ l.count → IsIn (said l.key) (take j l.keys) ↔ IsIn (said l.key) (take l.count l.fn.keys)
