use Rattle.std.proofs.Common.{sym, ap, ◌∙◌}
use Rattle.std.specs.Option.{option_copied}
use Rattle.dt_model.specs.Tree.{value_in}
use Rattle.dt_trees.specs.Placed.{PlacedTree, reading_of}
use Rattle.dt_edit.proofs.DownPaths.{no_value}
use Rattle.dt_edit.proofs.target.BlobBufTarget.prop.Goals as goal

pub returns-in_err-node : goal.returns-in_err-node
returns-in_err-node c =
    ap option_copied c.from_residual.ensures ∙ sym (no_value c.blob-blob.result c.args.path.now c.args.name.now (sym c.in_err-node.ensures.is))
    ∙ ap (λ (t : PlacedTree). value_in (reading_of t) c.args.path.now c.args.name.now) c.blob-blob.ensures
