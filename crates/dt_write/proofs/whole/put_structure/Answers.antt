use Rattle.std.proofs.lemmas.Result.{err_from_is_err_and}
use Rattle.dt_flat.specs.Arena.{reading}
use Rattle.dt_write.specs.Parts.{tree_at}
use Rattle.dt_write.proofs.WholeLemmas.{root_is, root_has, body_put, nodes_too_large}
use Rattle.dt_write.proofs.whole.put_structure.Goals as goal

pub put_node-requires-clause-has : goal.put_node-requires-clause-has
put_node-requires-clause-has c =
    let t = c.args.tree.now in
    root_has (reading t) (tree_at t.slots c.root.result) c.args.strings.now (root_is t.slots c.root.result c.root.ensures.node c.root.ensures.unnamed) c.requires.names

pub returns-in_err-put_node-clause-refused : goal.returns-in_err-put_node-clause-refused
returns-in_err-put_node-clause-refused c =
    let e = err_from_is_err_and c.from_residual.result c.from_residual.ensures.1 in
    let r = c.in_err-put_node.ensures.refused in
    let t = c.args.tree.now in
    rw (e.1, e.2) (
      nodes_too_large (reading t) (tree_at t.slots c.root.result) c.args.strings.now c.args.out.now.items c.in_err-put_node.field-0.0.kind
          (root_is t.slots c.root.result c.root.ensures.node c.root.ensures.unnamed) c.requires.names c.requires.front r.0,
      r.1,
    )

pub returns-clause-body : goal.returns-clause-body
returns-clause-body c =
    let t = c.args.tree.now in
    body_put (reading t) (tree_at t.slots c.root.result) c.args.strings.now c.args.out.now.items c.put_node.new.out.items c.put_word.new.out.items
    (root_is t.slots c.root.result c.root.ensures.node c.root.ensures.unnamed) c.requires.names c.in_ok-put_node.ensures.put c.in_ok-put_word.ensures
