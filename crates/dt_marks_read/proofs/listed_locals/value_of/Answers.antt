use Rattle.std.proofs.Common.{sym, ap, ◌∙◌}
use Rattle.dt_model.specs.Tree.{value_in}
use Rattle.dt_trees.specs.Placed.{reading_of}
use Rattle.dt_trees.proofs.NodePlaces.{path_is}
use Rattle.dt_marks_read.proofs.listed_locals.value_of.Goals as goal

pub returns : goal.returns
returns c =
    c.value.ensures c.requires.0 c.requires.1
    ∙ ap (λ path. value_in (reading_of c.args.blob.now) path c.args.name.now) (sym (path_is c.args.blob.now c.validity.ensures.places c.requires.0 c.args.node c.requires.1))
