-- What nodes that are made again give.
use Rattle.std.proofs.Common.{ℕ, suc, Bool, true, false, cond, List, [], ◌∷◌, ◌++◌, length, get_or}
use Rattle.dt_model.specs.Fixups.{local_properties}
use Rattle.dt_model.specs.Named.{NodeReference, Listed}
use Rattle.dt_names.specs.declared.fault.FaultKind.{FaultKind}
use Rattle.dt_names.specs.declared.fault.FaultKind.TheVariants.{NoMemory, Limit}
use Rattle.dt_flat.specs.Arena.{Slot, with_child}
use Rattle.dt_marks.specs.Mirrored.{copied, visited, mirrored}
use Rattle.dt_marks.specs.Refusals.{AreWithin, WhyNotPlanted}
use Rattle.dt_marks.proofs.Refused.{within_before_properties, within_front}

-- ---- limits

within_before_copy : (slots : List Slot) (p : ℕ) (n : Listed NodeReference) → AreWithin (copied slots p n) → AreWithin slots
within_before_copy slots p n h =
    within_front slots _ (within_before_properties (with_child slots p n.name) (length slots) (local_properties n.content) h)

pub within_before_all : (needed : ℕ → Bool) (ns : List (Listed NodeReference)) (i : ℕ) (slots : List Slot) (copies : List ℕ) → AreWithin (mirrored needed i slots copies ns) → AreWithin slots
within_before_all needed [] i slots copies h = h
within_before_all needed (n ∷ ns) i slots copies h = by (needed i) h (within_before_all needed ns (suc i))
  where
    by : (b : Bool)
        → AreWithin (cond b (mirrored needed (suc i) (copied slots (get_or copies n.parent 0) n) (copies ++ length slots ∷ []) ns) (mirrored needed (suc i) slots (copies ++ 0 ∷ []) ns))
        → ((slots : List Slot) (copies : List ℕ) → AreWithin (mirrored needed (suc i) slots copies ns) → AreWithin slots) → AreWithin slots
    by true h rest = within_before_copy slots (get_or copies n.parent 0) n (rest (copied slots (get_or copies n.parent 0) n) (copies ++ length slots ∷ []) h)
    by false h rest = rest slots (copies ++ 0 ∷ []) h

pub within_first : (needed : ℕ → Bool) (n : Listed NodeReference) (ns : List (Listed NodeReference)) (i : ℕ) (slots : List Slot) (copies : List ℕ)
    → AreWithin (mirrored needed i slots copies (n ∷ ns)) → AreWithin (visited (needed i) slots copies n)
within_first needed n ns i slots copies h = by (needed i) h
  where
    by : (b : Bool)
        → AreWithin (cond b (mirrored needed (suc i) (copied slots (get_or copies n.parent 0) n) (copies ++ length slots ∷ []) ns) (mirrored needed (suc i) slots (copies ++ 0 ∷ []) ns))
        → AreWithin (visited b slots copies n)
    by true h = within_before_all needed ns (suc i) (copied slots (get_or copies n.parent 0) n) (copies ++ length slots ∷ []) h
    by false h = within_before_all needed ns (suc i) slots (copies ++ 0 ∷ []) h

-- what doesn't fit at first doesn't later
pub why_later : (kind : FaultKind) (slots final : List Slot) → (AreWithin final → AreWithin slots) → WhyNotPlanted kind slots → WhyNotPlanted kind final
why_later NoMemory slots final back why = tt
why_later Limit slots final back why = λ h. why (back h)
why_later _ slots final back why = absurd why
