-- Why there are no labels, or no cells.
use Rattle.std.proofs.Common.{◌≡◌, ℕ, zero, suc, ◌+◌, ◌<◌, ◌≤◌, List, [], ◌∷◌, ◌++◌, length, None, inl, inr, arith}
use Rattle.std.specs.List.{AllByRecursion}
use Rattle.std.proofs.lemmas.List.{length-append}
use Rattle.dt_model.specs.Names.{Name}
use Rattle.dt_model.specs.Tree.{Property}
use Rattle.dt_names.specs.declared.fault.FaultKind.{FaultKind}
use Rattle.dt_names.specs.declared.fault.FaultKind.TheVariants.{NoMemory, Limit, Duplicate}
use Rattle.dt_flat.specs.Arena.{Slot, named_children, child_of, depth_of, with_child, with_property}
use Rattle.dt_flat.specs.Planted.{with_properties}
use Rattle.dt_flat.specs.Refusals.{WhyNoNode}
use Rattle.dt_flat.proofs.Distinctness.{all-front, all-back}
use Rattle.dt_flat.proofs.AfterProperty.{length-with_property}
use Rattle.dt_marks.specs.Refusals.{WhyFull, WhyNoSymbols, AreWithin, WhyNotPlanted}

pub why_no_symbols : (kind : FaultKind) (slots : List Slot) (symbols : List Property) → 0 < length symbols → WhyFull kind slots → WhyNoSymbols kind slots symbols
why_no_symbols NoMemory slots symbols some why = tt
why_no_symbols Limit slots symbols some why = (some, why)
why_no_symbols _ slots symbols some why = absurd why

-- ---- nodes within the limits

shallow_before : (slots : List Slot) (k : ℕ) (name value : List ℕ) → AllByRecursion (λ (n : Slot). n.depth ≤ 64) (with_property slots k name value) → AllByRecursion (λ (n : Slot). n.depth ≤ 64) slots
shallow_before [] k name value h = tt
shallow_before (n ∷ ns) zero name value h = h
shallow_before (n ∷ ns) (suc k) name value h = (h.0, shallow_before ns k name value h.1)

pub within_before_properties : (slots : List Slot) (k : ℕ) (xs : List Property) → AreWithin (with_properties slots k xs) → AreWithin slots
within_before_properties slots k xs = by xs slots
  where
    by : (xs : List Property) (slots : List Slot) → AreWithin (with_properties slots k xs) → AreWithin slots
    by [] slots h = h
    by (x ∷ xs) slots h =
        let before = by xs (with_property slots k x.name x.value) h in
        record { few = omega (arith, before.few, length-with_property slots k x.name x.value); shallow = shallow_before slots k x.name x.value before.shallow }

pub within_front : (slots more : List Slot) → AreWithin (slots ++ more) → AreWithin slots
within_front slots more h = record { few = omega (arith, h.few, length-append slots more); shallow = all-front (λ (n : Slot). n.depth ≤ 64) slots more h.shallow }

-- a node isn't added, where with it the nodes would pass the limits
pub why_not_planted : (kind : FaultKind) (slots final : List Slot) (p : ℕ) (name : Name) → child_of (named_children slots p) name ≡ None → (AreWithin final → AreWithin (with_child slots p name))
    → WhyNoNode kind slots p name → WhyNotPlanted kind final
why_not_planted NoMemory slots final p name absent more why = tt
why_not_planted Limit slots final p name absent more why =
    λ h.
    let within = more h in
    let last : Slot = record { parent = p; depth = depth_of slots p + 1; name = name; properties = [] } in
    let size = length-append slots (last ∷ []) in
    let shallow = all-back (λ (n : Slot). n.depth ≤ 64) slots (last ∷ []) within.shallow in
    elim why.1 [ inl many ↦ omega (arith, within.few, size, many) | inr deep ↦ omega (arith, shallow.0, deep) ]
why_not_planted Duplicate slots final p name absent more why = absurd cc
why_not_planted _ slots final p name absent more why = absurd why
