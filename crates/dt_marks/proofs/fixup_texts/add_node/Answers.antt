use Rattle.std.proofs.Common.{◌<◌, length, List, [], ◌∷◌, codes, arith}
use Rattle.std.proofs.lemmas.Result.{err_from_is_err_and}
use Rattle.dt_model.specs.Fixups.{unless_empty}
use Rattle.dt_model.specs.Tree.{Property, no_nodes}
use Rattle.dt_flat.specs.Arena.{Slot, with_child}
use Rattle.dt_flat.specs.Planted.{planted}
use Rattle.dt_marks.specs.Refusals.{AreWithin}
use Rattle.dt_marks.proofs.Refused.{within_before_properties, why_not_planted}
use Rattle.dt_marks.proofs.fixup_texts.add_node.Goals as goal

within_one : (slots : List Slot) (xs : List Property) → 0 < length xs → AreWithin (planted slots 0 (unless_empty (codes "__fixups__") xs no_nodes no_nodes)) → AreWithin (with_child slots 0 (codes "__fixups__"))
within_one slots [] some h = absurd (omega arith)
within_one slots (x ∷ xs) some h = within_before_properties (with_child slots 0 (codes "__fixups__")) (length slots) (x ∷ xs) h

pub returns-in_err-node-clause-refused : goal.returns-in_err-node-clause-refused
returns-in_err-node-clause-refused c =
    let slots = c.args.tree.now.slots in
    let xs = c.args.table.now in
    let some : 0 < length xs = omega (arith, c.len.ensures, c.if-len-eq0.false) in
    let why = c.in_err-node.ensures.refused in
    let p = err_from_is_err_and c.from_residual-in_err-node.result c.from_residual-in_err-node.ensures.1 in
    rw (p.1, p.2) (why_not_planted _ slots _ 0 (codes "__fixups__") c.requires.absent (within_one slots xs some) (rw (← c.root.ensures.node) (rw (← c.as_slice.ensures, ← c.in_ok-name.ensures.value) why.0)), why.1)
