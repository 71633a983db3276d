use Rattle.std.proofs.Common.{is_some, sym, ap, ◌∙◌, true≢false}
use Rattle.dt_model.specs.Tree.{stands_in}
use Rattle.dt_trees.specs.Placed.{PlacedTree, path_at, reading_of, IsAt}
use Rattle.dt_trees.proofs.NodePlaces.{path_is, stands_place}
use Rattle.dt_edit.proofs.finding.node_at.Goals as goal

pub unreachable-requires : goal.unreachable-requires
unreachable-requires c =
    let none = c.in-None.ensures.is in
    true≢false (sym c.requires.there ∙ ap (λ (t : PlacedTree). stands_in (reading_of t) c.args.path.now) (sym c.of-blob.ensures) ∙ sym (stands_place c.of-blob.result c.args.path.now) ∙ ap is_some (sym none))

pub returns-clause-path : goal.returns-clause-path
returns-clause-path c =
    let at : IsAt c.of-blob.result c.args.path.now c.in-Some.node = sym c.in-Some.ensures.is in
    ap (λ (t : PlacedTree). path_at t c.in-Some.node) (sym c.of-blob.ensures) ∙ path_is c.of-blob.result c.validity.ensures.places c.args.path.now c.in-Some.node at
