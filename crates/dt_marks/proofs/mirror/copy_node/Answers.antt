use Rattle.std.proofs.Common.{length}
use Rattle.std.specs.Cow.{cow_slice_items}
use Rattle.std.proofs.lemmas.Result.{err_from_is_err_and}
use Rattle.dt_model.specs.Fixups.{local_properties}
use Rattle.dt_source_named_tree.specs.Said.{node_said}
use Rattle.dt_flat.specs.Arena.{with_child}
use Rattle.std.specs.Prelude.{slice_index}
use Rattle.dt_marks.proofs.Refused.{within_before_properties, why_not_planted}
use Rattle.dt_marks.proofs.mirror.copy_node.Goals as goal

pub returns-in_err-copy-clause-refused : goal.returns-in_err-copy-clause-refused
returns-in_err-copy-clause-refused c =
    let slots = c.args.tree.now.slots in
    let n = c.args.node.now in
    let p = slice_index c.args.copies.now n.parent in
    let name = cow_slice_items n.name in
    let why = c.in_err-copy.ensures.refused in
    let e = err_from_is_err_and c.from_residual-in_err-copy.result c.from_residual-in_err-copy.ensures.1 in
    rw (e.1, e.2) (
      why_not_planted _ slots _ p name c.requires.absent (within_before_properties (with_child slots p name) (length slots) (local_properties (node_said n).content))
          (rw (← c.as_slice.ensures.value, ← c.in_ok-name.ensures.value) why.0),
      why.1,
    )
