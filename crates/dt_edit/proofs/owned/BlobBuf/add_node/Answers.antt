use Rattle.std.proofs.Common.{◌<◌, ℕ, List, subst}
use Rattle.std.specs.Prelude.{IfOk}
use Rattle.dt_model.specs.Path.{Path}
use Rattle.dt_read.specs.Checked.{placed_of}
use Rattle.dt_trees.specs.Placed.{IsAt}
use Rattle.dt_edit.proofs.owned.BlobBuf.add_node.Goals as goal

pub returns-clause-places : goal.returns-clause-places
returns-clause-places c =
    subst (λ (b : List ℕ). IfOk c.add_in.result (λ node. (path : Path) (place : ℕ) → IsAt (placed_of b) path place → place < node → IsAt (placed_of c.add_in.new.bytes.items) path place)) c.self.view_is c.add_in.ensures.places
