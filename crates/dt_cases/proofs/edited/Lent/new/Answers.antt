use Rattle.std.proofs.Common.{◌≡◌, length, refl, sym, subst, arith}
use Rattle.std.proofs.lemmas.List.{take_at}
use Rattle.dt_edit.specs.Editable.{IsEditable}
use Rattle.dt_cases.proofs.edited.Lent.new.Goals as goal

pub invariant_of-result : goal.invariant_of-result
invariant_of-result c =
    let size = c.open_into.auto.bytes in
    let len = c.deref_mut.ensures.len in
    let e : length c.open_into.new.bytes ≡ c.resize.new.self.len = omega arith in
    subst IsEditable (sym (take_at c.open_into.new.bytes _ c.resize.new.self.len e)) (c.in-Ok.ensures.editable refl)
