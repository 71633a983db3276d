use Rattle.std.proofs.Common.{◌∷◌, [], codes}
use Rattle.dt_model.specs.Object.{nodes_from, properties_of}
use Rattle.dt_model.specs.Tree.{node_at}
use Rattle.dt_trees.specs.Placed.{reading_of}
use Rattle.dt_marks_read.proofs.OneList.{fixups_once, nodes_once}
use Rattle.dt_marks_read.proofs.laws.one_list.Goals as goal

pub returns-clause-fixups : goal.returns-clause-fixups
returns-clause-fixups c =
    λ t. fixups_once t c.texts_are_one.ensures.texts c.texts_are_one.ensures.cells (properties_of (node_at (reading_of t) (codes "__fixups__" ∷ [])))

pub returns-clause-local_fixups : goal.returns-clause-local_fixups
returns-clause-local_fixups c = λ t. nodes_once t (nodes_from (node_at (reading_of t) (codes "__local_fixups__" ∷ [])))
