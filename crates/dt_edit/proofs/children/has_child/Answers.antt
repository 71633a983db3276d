use Rattle.std.proofs.Common.{◌++◌, ◌∷◌, [], sym, ap, subst, ◌∙◌}
use Rattle.dt_trees.specs.Placed.{PlacedTree, place_of, IsAt}
use Rattle.dt_edit.specs.Editable.{path_in}
use Rattle.dt_edit.proofs.Below.{child_stands}
use Rattle.dt_edit.proofs.children.has_child.Goals as goal

pub returns : goal.returns
returns c =
    let path = path_in c.args.bytes.now c.args.node in
    let at = subst (λ (t : PlacedTree). IsAt t path c.args.node) (sym c.of.ensures) c.requires.node in
    child_stands c.args.bytes.now c.args.node c.args.name.now c.child.result c.is_some.result
    (c.child.ensures path at ∙ ap (λ (t : PlacedTree). place_of t (path ++ c.args.name.now ∷ [])) c.of.ensures) c.is_some.ensures
