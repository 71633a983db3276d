use Rattle.std.proofs.Common.{◌≡◌, ℕ, subst}
use Rattle.dt_model.specs.Path.{Path}
use Rattle.dt_model.specs.Valid.{IsValid, IsWithinLimits}
use Rattle.dt_trees.specs.Placed.{PlacedTree, reading_of, IsAt}
use Rattle.dt_read.proofs.Wholes.{places}
use Rattle.dt_read.proofs.blob.Blob.validity.Goals as goal

pub returns-clause-valid : goal.returns-clause-valid
returns-clause-valid c = subst (λ (t : PlacedTree). IsValid (reading_of t)) c.self.view_is c.self.invariant.copy.valid

pub returns-clause-within : goal.returns-clause-within
returns-clause-within c = subst (λ (t : PlacedTree). IsWithinLimits (reading_of t)) c.self.view_is c.self.invariant.copy.within

pub returns-clause-places : goal.returns-clause-places
returns-clause-places c =
    subst (λ (t : PlacedTree). (p q : Path) (node : ℕ) → IsAt t p node → IsAt t q node → p ≡ q) c.self.view_is (places _ c.self.invariant)
