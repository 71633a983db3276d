-- An object applied to a base's bytes.
use Rattle.std.proofs.Common.{◌≡◌, ℕ, List, None, inl, inr, refl, sym, subst, ◌∙◌}
use Rattle.std.proofs.lemmas.Bool.{cases_lt}
use Rattle.dt_model.specs.Limits.{most_bytes}
use Rattle.dt_model.specs.Tree.{Reading}
use Rattle.dt_names.specs.Fault.{placeless}
use Rattle.dt_names.specs.declared.fault.Fault.{Fault}
use Rattle.dt_names.specs.declared.fault.FaultKind.{FaultKind}
use Rattle.dt_names.specs.declared.fault.FaultKind.TheVariants.{NoMemory, Limit}
use Rattle.dt_overlay_laws.specs.Objects.{IsWellFormed}
use Rattle.dt_overlay_laws.specs.Refusals.{WhyNotApplied}
use Rattle.dt_overlay_model.specs.InTurn.{IsApplied}
use Rattle.dt_read.proofs.CheckedBytes.{placed_is_read}
use Rattle.dt_edit.specs.Buffers.{Follows}
use Rattle.dt_edit.specs.Editable.{opened_size, reading_in, IsWhole, WhyNotOwned}
use Rattle.dt_edit.proofs.Assembling.{edits_of}
use Rattle.dt_chain_promises.specs.Apply.{IsRead}
use Rattle.dt_chain_promises.specs.AppliedBytes.{no_memory, long, not_applied, IsAppliedToBytes, IsCopy, IsFullOf, WhyNotAppliedToBytes}
use Rattle.dt_chain.proofs.Stages.{fault_is}

-- what a blob that can be edited is read as
read_whole : (bytes : List ℕ) → IsWhole bytes → IsRead bytes (reading_in bytes)
read_whole bytes w =
    let is = w.editable.blob in
    subst (IsRead bytes) (sym (placed_is_read bytes is.0 is.1 is.2)) (record { reads = is.1; within = is.2 })

-- a base is read as its copy
copy_read : (base copy : List ℕ) (t : Reading) → IsRead base t → IsCopy base copy → IsRead base (reading_in copy)
copy_read base copy t read of_base = subst (IsRead base) (sym (of_base.reads ∙ placed_is_read base t read.reads read.within)) read

pub applied_to_bytes : (base object copy new : List ℕ) (t o : Reading) → IsRead base t → IsRead object o → IsCopy base copy → IsWellFormed (reading_in copy) o → IsApplied (reading_in copy) o (reading_in new)
    → Follows copy new → IsWhole new → IsAppliedToBytes base object new
applied_to_bytes base object copy new t o read also of_base well applied follows whole =
    let edits = edits_of new whole.editable in
    record {
      result = reading_in new;
      outcome = record {
        tree = reading_in copy;
        of_base = copy_read base copy t read of_base;
        steps = (o, reading_in new, also, record { well = well; applied = applied; valid = edits.valid; within = edits.within }, refl);
      };
      read = read_whole new whole;
      whole = whole;
      copy = copy;
      of_base = of_base;
      follows = follows;
    }

pub no_copy : (base object : List ℕ) (t o : Reading) (fault : Fault) → IsRead base t → IsRead object o → WhyNotOwned fault.kind (opened_size base) × (fault.at ≡ None) → WhyNotAppliedToBytes base object fault
no_copy base object t o fault read also why = subst (WhyNotAppliedToBytes base object) (fault_is fault None why.1) (by fault.kind why.0)
  where
    by : (kind : FaultKind) → WhyNotOwned kind (opened_size base) → WhyNotAppliedToBytes base object (placeless kind)
    by NoMemory w = no_memory
    by Limit w = elim (cases_lt most_bytes (opened_size base)) [ inl more ↦ long t o read also more | inr fits ↦ absurd (w fits) ]
    by _ w = absurd w

pub not_applied_to_bytes : (base object copy : List ℕ) (t o : Reading) (fault : Fault) → IsRead base t → IsRead object o → IsCopy base copy
    → (fault.at ≡ None) × WhyNotApplied (IsFullOf copy) fault.kind (reading_in copy) o → WhyNotAppliedToBytes base object fault
not_applied_to_bytes base object copy t o fault read also of_base why =
    subst (WhyNotAppliedToBytes base object) (fault_is fault None why.0) (not_applied (reading_in copy) o copy fault.kind (copy_read base copy t read of_base) also of_base why.1)
