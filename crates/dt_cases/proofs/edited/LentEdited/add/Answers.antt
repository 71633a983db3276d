use Rattle.std.proofs.Common.{◌≡◌, length, sym, subst, arith}
use Rattle.std.proofs.lemmas.List.{take_at}
use Rattle.dt_edit.specs.Editable.{IsEditable}
use Rattle.dt_cases.proofs.edited.LentEdited.add.Goals as goal

pub invariant_of-self-in_err-add_node : goal.invariant_of-self-in_err-add_node
invariant_of-self-in_err-add_node c =
    let size = c.add_node.auto.bytes in
    let len = c.deref_mut.ensures.len in
    let e : length c.add_node.new.bytes ≡ c.self.inside.buffer.len = omega arith in
    subst IsEditable (sym (take_at c.add_node.new.bytes _ c.self.inside.buffer.len e)) c.add_node.ensures.editable

pub invariant_of-self-2 : goal.invariant_of-self-2
invariant_of-self-2 c =
    let size = c.add_node.auto.bytes in
    let len = c.deref_mut.ensures.len in
    let e : length c.add_node.new.bytes ≡ c.self.inside.buffer.len = omega arith in
    subst IsEditable (sym (take_at c.add_node.new.bytes _ c.self.inside.buffer.len e)) c.add_node.ensures.editable
