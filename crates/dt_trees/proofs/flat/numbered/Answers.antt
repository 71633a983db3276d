use Rattle.std.proofs.Common.{sym, subst, arith}
use Rattle.dt_model.specs.Valid.{IsValid}
use Rattle.dt_trees.specs.Trees.{numbered_tree}
use Rattle.dt_trees.proofs.Numbers.{reads_same, apart, is_looked_up}
use Rattle.dt_trees.proofs.LookedUp.{looked_up, looked_up_node}
use Rattle.dt_trees.proofs.flat.numbered.Goals as goal

pub returns-clause-finds : goal.returns-clause-finds
returns-clause-finds c =
    let a = c.args.tree.now in
    let v = c.validity.ensures in
    let looked = is_looked_up a v.rooted v.cells v.paths c.args.number (omega arith) c.by_phandle.result c.by_phandle.ensures.value c.by_phandle.ensures.there in
    looked_up (numbered_tree a) c.args.number c.by_phandle.result (subst IsValid (sym (reads_same a)) v.valid) (apart a v.rooted) looked

pub returns-clause-node : goal.returns-clause-node
returns-clause-node c =
    let a = c.args.tree.now in
    let v = c.validity.ensures in
    let looked = is_looked_up a v.rooted v.cells v.paths c.args.number (omega arith) c.by_phandle.result c.by_phandle.ensures.value c.by_phandle.ensures.there in
    looked_up_node (numbered_tree a) c.args.number c.by_phandle.result looked
