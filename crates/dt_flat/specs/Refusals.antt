-- When a tree refuses a change. Memory is asked for last, so it is refused only where nothing else is.
use Rattle.std.specs.Prelude.{◌≡◌, ℕ, ◌<◌, ◌≤◌, ◌⊎◌, Bool, true, false, List, length, None, Some, IsSome, codes}
use Rattle.std.specs.Int.{w32, from_be_bytes}
use Rattle.dt_model.specs.Limits.{most_names, most_nodes}
use Rattle.dt_names.specs.declared.fault.FaultKind.{FaultKind}
use Rattle.dt_names.specs.declared.fault.FaultKind.TheVariants.{NoMemory, Limit, OutOfRange, Duplicate, BlobPhandle}
use Rattle.dt_model.specs.Names.{Name}
use Rattle.dt_model.specs.Valid.{IsPhandle}
use Rattle.dt_flat.specs.Arena.{Slot, named_children, child_of, depth_of, with_child, phandle_at}

-- a child of that name may be added to p
pub record MayAdd (slots : List Slot) (p : ℕ) (name : Name) : Type 0 where
  pub fresh : child_of (named_children slots p) name ≡ None
  pub few : length slots < most_nodes
  pub shallow : depth_of slots p < most_names

-- whether a child of that name is added to p, which it is where p has none
abbrev pub IsChildAdded : ℕ → Name → List Slot → List Slot → Bool → Type 0
IsChildAdded p name old new true = (child_of (named_children old p) name ≡ None) × (new ≡ with_child old p name)
IsChildAdded p name old new false = IsSome (child_of (named_children old p) name) × (new ≡ old)

-- no child of that name is added to p: it has one; or else the tree is as large or p as deep as one may be
abbrev pub WhyNoNode : FaultKind → List Slot → ℕ → Name → Type 0
WhyNoNode NoMemory slots p name = MayAdd slots p name
WhyNoNode Duplicate slots p name = IsSome (child_of (named_children slots p) name)
WhyNoNode Limit slots p name =
    (child_of (named_children slots p) name ≡ None) × ((most_nodes ≤ length slots) ⊎ (most_names ≤ depth_of slots p))
WhyNoNode _ slots p name = ⊥

-- no such reservation is added: two zeros end the list of them (Devicetree Specification v0.4, 5.3)
abbrev pub WhyNotReserved : FaultKind → ℕ → ℕ → Type 0
WhyNotReserved NoMemory address size = ¬ ((address ≡ 0) × (size ≡ 0))
WhyNotReserved OutOfRange address size = (address ≡ 0) × (size ≡ 0)
WhyNotReserved _ address size = ⊥

-- the value may be set: as a phandle it is a number in range that no other node has (2.3.3)
pub record MaySet (slots : List Slot) (p : ℕ) (name : Name) (value : List ℕ) : Type 0 where
  pub valid : name ≡ codes "phandle" → IsPhandle value
  pub own : name ≡ codes "phandle" → (q : ℕ) → phandle_at slots q ≡ Some (from_be_bytes w32 value) → q ≡ p

-- the value isn't set
abbrev pub WhyNotSet : FaultKind → List Slot → ℕ → Name → List ℕ → Type 0
WhyNotSet NoMemory slots p name value = MaySet slots p name value
WhyNotSet BlobPhandle slots p name value = ¬ MaySet slots p name value
WhyNotSet _ slots p name value = ⊥
