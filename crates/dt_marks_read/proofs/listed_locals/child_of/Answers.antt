use Rattle.std.proofs.Common.{◌∷◌, ◌++◌, [], sym, ap, ◌∙◌}
use Rattle.dt_trees.specs.Placed.{place_of}
use Rattle.dt_trees.proofs.NodePlaces.{path_is}
use Rattle.dt_marks_read.proofs.listed_locals.child_of.Goals as goal

pub returns : goal.returns
returns c =
    c.child.ensures c.requires.0 c.requires.1
    ∙ ap (λ path. place_of c.args.blob.now (path ++ c.args.name.now ∷ [])) (sym (path_is c.args.blob.now c.validity.ensures.places c.requires.0 c.args.node c.requires.1))
