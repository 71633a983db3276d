-- The phandles that are written in the nodes of a tree under construction.
use Rattle.std.specs.Prelude.{◌≡◌, ℕ, ◌<◌, Bool, false, true, not, ◌&&◌, List, Option, None, Some, is_some, option_and_then, slice_get, nat_eq, if◌then◌else◌, codes}
use Rattle.std.specs.Str.{bytes_eq}
use Rattle.std.specs.HashSet.{HashSet, contains}
use Rattle.dt_model.specs.Source.{number_of_parts}
use Rattle.dt_names.specs.declared.fault.Fault.{Fault}
use Rattle.dt_names.specs.declared.fault.FaultKind.{FaultKind}
use Rattle.dt_names.specs.declared.fault.FaultKind.TheVariants as fault
use Rattle.dt_names.specs.declared.seed.Seed.{Seed}
use Rattle.dt_source_growing.specs.Grown.{value_held}
use Rattle.dt_source_growing.specs.declared.growing.Property.{Property}

-- a set of phandles
abbrev pub Set : Type 0
Set = HashSet ℕ Seed

abbrev pub has_seen : Set → ℕ → Bool
has_seen seen n = contains nat_eq seen n

-- the node has a place
abbrev pub has_place : List (Option ℕ) → ℕ → Bool
has_place places k = is_some (option_and_then (λ o. o) (slice_get places k))

-- it is the property `phandle` of a node that has a place
abbrev pub is_phandle : List (Option ℕ) → Property → Bool
is_phandle places q = q.stands && has_place places q.node && bytes_eq q.name.now (codes "phandle")

-- the phandle that it writes there
abbrev pub phandle_written : List (Option ℕ) → Property → Option ℕ
phandle_written places q = if is_phandle places q then number_of_parts (value_held q.value) else None

-- it writes none
abbrev pub is_unwritten : List (Option ℕ) → Property → Bool
is_unwritten places q = is_phandle places q && not (is_some (number_of_parts (value_held q.value)))

-- each `phandle` writes a number
abbrev pub AreWritten : List (Option ℕ) → List Property → Type 0
AreWritten places qs = (i : ℕ) (q : Property) → slice_get qs i ≡ Some q → is_unwritten places q ≡ false

-- no phandle is written twice
abbrev pub AreOwn : List (Option ℕ) → List Property → Type 0
AreOwn places qs = (i j : ℕ) (p q : Property) (n : ℕ) → slice_get qs i ≡ Some p → slice_get qs j ≡ Some q →
    phandle_written places p ≡ Some n → phandle_written places q ≡ Some n → i ≡ j

-- a `phandle` writes no number
abbrev pub HasUnwritten : List (Option ℕ) → List Property → Type 0
HasUnwritten places qs = (i : ℕ) × (q : Property) × (slice_get qs i ≡ Some q) × (is_unwritten places q ≡ true)

abbrev pub WhyNotWritten : List (Option ℕ) → List Property → Fault → Type 0
WhyNotWritten places qs e = (e.kind ≡ fault.BadPhandle) × (e.at ≡ None) × HasUnwritten places qs

-- a phandle is written twice
abbrev pub HasTwice : List (Option ℕ) → List Property → Type 0
HasTwice places qs = (i j : ℕ) × (p q : Property) × (n : ℕ) × (i < j) × (slice_get qs i ≡ Some p) × (slice_get qs j ≡ Some q)
    × (phandle_written places p ≡ Some n) × (phandle_written places q ≡ Some n)

abbrev pub WhyTwice : List (Option ℕ) → List Property → FaultKind → Type 0
WhyTwice places qs fault.NoMemory = Unit {0}
WhyTwice places qs fault.DuplicatePhandle = HasTwice places qs
WhyTwice places qs kind = ⊥

abbrev pub WhyNotOwn : List (Option ℕ) → List Property → Fault → Type 0
WhyNotOwn places qs e = (e.at ≡ None) × WhyTwice places qs e.kind

-- why the phandles aren't as they have to be
abbrev pub WhyUnnumbered : List (Option ℕ) → List Property → FaultKind → Type 0
WhyUnnumbered places qs fault.NoMemory = Unit {0}
WhyUnnumbered places qs fault.BadPhandle = HasUnwritten places qs
WhyUnnumbered places qs fault.DuplicatePhandle = AreWritten places qs × HasTwice places qs
WhyUnnumbered places qs kind = ⊥

abbrev pub WhyNotNumbered : List (Option ℕ) → List Property → Fault → Type 0
WhyNotNumbered places qs e = (e.at ≡ None) × WhyUnnumbered places qs e.kind
