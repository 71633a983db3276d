use Rattle.std.proofs.Common.{◌∷◌, [], length, map}
use Rattle.std.proofs.lemmas.Result.{err_from_is_err_and}
use Rattle.dt_source_named_tree.specs.Said.{node_said}
use Rattle.dt_marks.specs.Mirrored.{marked_at, with_mirror_root}
use Rattle.dt_marks.proofs.Mirroring.{within_before_all, why_later}
use Rattle.dt_marks.proofs.mirror.add_mirror.Goals as goal

pub returns-in_err-node-clause-refused : goal.returns-in_err-node-clause-refused
returns-in_err-node-clause-refused c =
    let slots = c.args.tree.now.slots in
    let root = with_mirror_root slots (node_said c.args.root.now).content in
    let why = c.in_err-node.ensures.refused in
    let e = err_from_is_err_and c.from_residual.result c.from_residual.ensures.1 in
    rw (e.1, e.2)
    (why_later _ root _ (within_before_all (marked_at c.args.needed.now) (map node_said c.args.others.now) 1 root (length slots ∷ [])) why.0, why.1)
