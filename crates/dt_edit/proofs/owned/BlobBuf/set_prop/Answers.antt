use Rattle.std.proofs.Common.{◌≤◌, ℕ, List, subst}
use Rattle.std.specs.Prelude.{IsOk}
use Rattle.dt_model.specs.Path.{Path}
use Rattle.dt_read.specs.Checked.{placed_of}
use Rattle.dt_trees.specs.Placed.{IsAt}
use Rattle.dt_edit.proofs.owned.BlobBuf.set_prop.Goals as goal

pub returns-clause-places : goal.returns-clause-places
returns-clause-places c =
    subst (λ (b : List ℕ). IsOk c.set_in.result → (path : Path) (place : ℕ) → IsAt (placed_of b) path place → place ≤ c.args.node → IsAt (placed_of c.set_in.new.bytes.items) path place) c.self.view_is c.set_in.ensures.places
