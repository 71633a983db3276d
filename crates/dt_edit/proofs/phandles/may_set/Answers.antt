use Rattle.std.proofs.Common.{◌≡◌, Some, None, refl, sym, subst}
use Rattle.dt_model.specs.Applied.{node_numbered}
use Rattle.dt_model.specs.Tree.{nodes_of}
use Rattle.dt_trees.specs.Placed.{PlacedTree, path_at, reading_of, IsNode}
use Rattle.dt_edit.proofs.NumbersOwned.{may_if_own, may_if_none}
use Rattle.dt_edit.proofs.phandles.may_set.Goals as goal

pub returns-in-Some-by_phandle : goal.returns-in-Some-by_phandle
returns-in-Some-by_phandle c =
    let other = c.in-Some-by_phandle.other in
    let number = c.in-Some.number in
    may_if_own c.args.bytes.now c.args.node other c.args.name.now c.args.value.now number c.requires.blob c.requires.node
    (subst (λ (t : PlacedTree). IsNode t other) c.of-blob.ensures c.in-Some-by_phandle.ensures.node)
    (c.is_phandle.ensures.0 c.if-not-is_phandle.false) c.type_inv.value (c.in-Some.ensures.valid.0 refl) c.in-Some.ensures.number
    (subst (λ (t : PlacedTree). node_numbered (nodes_of (reading_of t)) number ≡ Some (path_at t other)) c.of-blob.ensures (sym c.in-Some-by_phandle.ensures.finds))

pub returns-in-None : goal.returns-in-None
returns-in-None c =
    let number = c.in-Some.number in
    let may = may_if_none c.args.bytes.now c.args.node c.args.name.now c.args.value.now number c.requires.blob c.type_inv.value (c.in-Some.ensures.valid.0 refl) c.in-Some.ensures.number
    (subst (λ (t : PlacedTree). node_numbered (nodes_of (reading_of t)) number ≡ None) c.of-blob.ensures (sym c.in-None.ensures.finds)) in
    (λ _. may, λ _. refl)
