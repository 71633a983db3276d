use Rattle.std.proofs.Common.{◌≡◌, length, sym, subst, arith}
use Rattle.std.proofs.lemmas.List.{take_at}
use Rattle.dt_edit.specs.Editable.{IsEditable}
use Rattle.dt_cases.proofs.edited.LentEdited.set.Goals as goal

pub invariant_of-self-in_err-set_prop : goal.invariant_of-self-in_err-set_prop
invariant_of-self-in_err-set_prop c =
    let size = c.set_prop.auto.bytes in
    let len = c.deref_mut.ensures.len in
    let e : length c.set_prop.new.bytes ≡ c.self.inside.buffer.len = omega arith in
    subst IsEditable (sym (take_at c.set_prop.new.bytes _ c.self.inside.buffer.len e)) c.set_prop.ensures.editable

pub invariant_of-self-2 : goal.invariant_of-self-2
invariant_of-self-2 c =
    let size = c.set_prop.auto.bytes in
    let len = c.deref_mut.ensures.len in
    let e : length c.set_prop.new.bytes ≡ c.self.inside.buffer.len = omega arith in
    subst IsEditable (sym (take_at c.set_prop.new.bytes _ c.self.inside.buffer.len e)) c.set_prop.ensures.editable
