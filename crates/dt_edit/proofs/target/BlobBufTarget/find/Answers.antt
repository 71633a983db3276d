use Rattle.std.proofs.Common.{is_some, ap, ◌∙◌}
use Rattle.dt_model.specs.Tree.{stands_in}
use Rattle.dt_trees.specs.Placed.{PlacedTree, reading_of}
use Rattle.dt_trees.proofs.NodePlaces.{stands_place}
use Rattle.dt_edit.proofs.target.BlobBufTarget.find.Goals as goal

pub returns : goal.returns
returns c =
    c.is_some.ensures ∙ ap is_some c.node_of.ensures.is ∙ stands_place c.blob.result c.args.path.now ∙ ap (λ (t : PlacedTree). stands_in (reading_of t) c.args.path.now) c.blob.ensures
