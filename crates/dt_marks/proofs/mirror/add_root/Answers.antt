use Rattle.std.proofs.Common.{length, codes}
use Rattle.std.proofs.lemmas.Result.{err_from_is_err_and}
use Rattle.dt_model.specs.Fixups.{local_properties}
use Rattle.dt_source_named_tree.specs.Said.{node_said}
use Rattle.dt_flat.specs.Arena.{with_child}
use Rattle.dt_marks.proofs.Refused.{within_before_properties, why_not_planted}
use Rattle.dt_marks.proofs.mirror.add_root.Goals as goal

pub returns-in_err-node-clause-refused : goal.returns-in_err-node-clause-refused
returns-in_err-node-clause-refused c =
    let slots = c.args.tree.now.slots in
    let content = (node_said c.args.root.now).content in
    let name = codes "__local_fixups__" in
    let why = c.in_err-node.ensures.refused in
    let e = err_from_is_err_and c.from_residual-in_err-node.result c.from_residual-in_err-node.ensures.1 in
    rw (e.1, e.2) (
      why_not_planted _ slots _ 0 name c.requires.absent (within_before_properties (with_child slots 0 name) (length slots) (local_properties content))
          (rw (← c.root.ensures.node) (rw (← c.as_slice.ensures, ← c.in_ok-name.ensures.value) why.0)),
      why.1,
    )
