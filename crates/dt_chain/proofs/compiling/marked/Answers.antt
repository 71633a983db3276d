use Rattle.std.proofs.Common.{refl, codes}
use Rattle.std.proofs.lemmas.Result.{err_from_is_err_and}
use Rattle.dt_model.specs.Named.{tree_of}
use Rattle.dt_chain.proofs.OverlayStages.{room_behind, not_labelled}
use Rattle.dt_chain.proofs.compiling.marked.Goals as goal

pub returns-in_err-tree-clause-refused : goal.returns-in_err-tree-clause-refused
returns-in_err-tree-clause-refused c =
    let e = err_from_is_err_and c.from_residual.result c.from_residual.ensures.1 in
    rw (e.1, e.2) (not_labelled (tree_of c.args.named.now) c.in_err-tree.field-0.0 c.in_err-tree.ensures.refused)

pub add_fixups-requires-clause-fixups : goal.add_fixups-requires-clause-fixups
add_fixups-requires-clause-fixups c =
    room_behind (tree_of c.args.named.now) c.in_ok-tree.tree (codes "__fixups__") refl c.requires.fixups c.in_ok-tree.ensures.tree

pub add_fixups-requires-clause-locals : goal.add_fixups-requires-clause-locals
add_fixups-requires-clause-locals c =
    room_behind (tree_of c.args.named.now) c.in_ok-tree.tree (codes "__local_fixups__") refl c.requires.locals c.in_ok-tree.ensures.tree
