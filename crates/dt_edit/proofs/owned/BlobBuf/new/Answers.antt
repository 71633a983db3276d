use Rattle.std.proofs.Common.{ℕ, List, length, refl, sym, ap, subst, ◌∙◌, arith}
use Rattle.dt_model.specs.Checks.{strings_of, structure_of}
use Rattle.dt_edit.specs.Editable.{reading_in, IsWhole}
use Rattle.dt_edit.proofs.GrownBlobs.{written}
use Rattle.dt_edit.proofs.owned.BlobBuf.new.Goals as goal

pub invariant_of-result : goal.invariant_of-result
invariant_of-result c =
    let made = c.deref_mut.ensures.len in
    let value = ap (λ (b : List ℕ). length b) c.deref_mut.ensures.value in
    let size = c.in_ok-open_into.ensures.size in
    subst IsWhole (sym (written c.in_ok-bytes.bytes.items c.open_into.new.bytes c.in_ok-bytes.bytes.len (sym value ∙ made) (omega (arith, c.open_into.auto.bytes, value))))
    (record { editable = c.in_ok-open_into.ensures.editable refl; whole = size ∙ omega (arith, c.opened_size-size.ensures, c.in_ok-bytes.ensures.len, c.open_into.auto.bytes, made) })

pub returns-clause-reads : goal.returns-clause-reads
returns-clause-reads c = ap reading_in (written c.in_ok-bytes.bytes.items c.open_into.new.bytes c.in_ok-bytes.bytes.len (sym (ap (λ (b : List ℕ). length b) c.deref_mut.ensures.value) ∙ c.deref_mut.ensures.len) (omega (arith, c.open_into.auto.bytes, ap (λ (b : List ℕ). length b) c.deref_mut.ensures.value))) ∙ c.in_ok-open_into.ensures.reads

pub returns-clause-structure : goal.returns-clause-structure
returns-clause-structure c = ap structure_of (written c.in_ok-bytes.bytes.items c.open_into.new.bytes c.in_ok-bytes.bytes.len (sym (ap (λ (b : List ℕ). length b) c.deref_mut.ensures.value) ∙ c.deref_mut.ensures.len) (omega (arith, c.open_into.auto.bytes, ap (λ (b : List ℕ). length b) c.deref_mut.ensures.value))) ∙ c.in_ok-open_into.ensures.structure

pub returns-clause-strings : goal.returns-clause-strings
returns-clause-strings c = ap strings_of (written c.in_ok-bytes.bytes.items c.open_into.new.bytes c.in_ok-bytes.bytes.len (sym (ap (λ (b : List ℕ). length b) c.deref_mut.ensures.value) ∙ c.deref_mut.ensures.len) (omega (arith, c.open_into.auto.bytes, ap (λ (b : List ℕ). length b) c.deref_mut.ensures.value))) ∙ c.in_ok-open_into.ensures.strings

pub returns-clause-size : goal.returns-clause-size
returns-clause-size c =
    ap (λ (b : List ℕ). length b) (written c.in_ok-bytes.bytes.items c.open_into.new.bytes c.in_ok-bytes.bytes.len (sym (ap (λ (b : List ℕ). length b) c.deref_mut.ensures.value) ∙ c.deref_mut.ensures.len) (omega (arith, c.open_into.auto.bytes, ap (λ (b : List ℕ). length b) c.deref_mut.ensures.value)))
    ∙ omega (arith, c.opened_size-size.ensures, c.in_ok-bytes.ensures.len, c.open_into.auto.bytes, c.deref_mut.ensures.len)
