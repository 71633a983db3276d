-- What a reader of `__local_fixups__` still lists, as a function of what it has still to read.
use Rattle.std.specs.Prelude.{ℕ, suc, zero, ◌+◌, ◌<◌, ◌%◌, ◌==◌, nat_le, List, [], ◌∷◌, ◌++◌, length, Option, Some, None, Ok, Err, if◌then◌else◌}
use Rattle.std.specs.List.{AllByRecursion}
use Rattle.dt_model.specs.Limits.{most_bodies}
use Rattle.dt_model.specs.Names.{Name}
use Rattle.dt_model.specs.Object.{words_of}
use Rattle.dt_model.specs.Path.{Path}
use Rattle.dt_model.specs.Tree.{Property, value_in}
use Rattle.dt_names.specs.Fault.{placeless}
use Rattle.dt_names.specs.declared.fault.FaultKind.TheVariants.{BadLocalFixup}
use Rattle.dt_trees.specs.Placed.{PlacedTree, reading_of, place_of, path_at, IsAt}
use Rattle.dt_read.specs.Walked.{Step, opens, holds, closes}
use Rattle.dt_marks_read.specs.Listed.{LocalFixup}

-- ---- what is listed

-- of some offsets of a value, and then more
unfoldable pub offsets_told : ℕ → Name → List ℕ → List ℕ → List LocalFixup → List LocalFixup
offsets_told node property value [] more = more
offsets_told node property value (offset ∷ offsets) more =
    if nat_le (offset + 4) (length value)
    then Ok (record { node = node; property = property; offset = offset }) ∷ offsets_told node property value offsets more
    else Err (placeless BadLocalFixup) ∷ []

-- of a property of a mirror, by the value of its node's property of that name, and then more
abbrev pub property_told : ℕ → Property → Option (List ℕ) → List LocalFixup → List LocalFixup
property_told node x None more = Err (placeless BadLocalFixup) ∷ []
property_told node x (Some value) more =
    if length x.value % 4 == 0 then offsets_told node x.name value (words_of x.value) more else Err (placeless BadLocalFixup) ∷ []

-- behind a node of a mirror, which has that counterpart
abbrev pub counterpart_told : Option ℕ → (ℕ → List LocalFixup) → List LocalFixup
counterpart_told None later = Err (placeless BadLocalFixup) ∷ []
counterpart_told (Some k) later = later k

-- of a step, where the open nodes of the mirror have these counterparts, the innermost first, and of what comes later
abbrev pub step_told : PlacedTree → List ℕ → Step → (List ℕ → List LocalFixup) → List LocalFixup
step_told t [] step later = []
step_told t (k ∷ ks) (opens place name) later = counterpart_told (place_of t (path_at t k ++ name ∷ [])) (λ j. later (j ∷ k ∷ ks))
step_told t (k ∷ ks) (holds x) later = property_told k x (value_in (reading_of t) (path_at t k) x.name) (later (k ∷ ks))
step_told t (k ∷ ks) closes later = later ks

-- of the steps of a walk
unfoldable pub walk_told : PlacedTree → List ℕ → List Step → List LocalFixup
walk_told t open_nodes [] = []
walk_told t open_nodes (step ∷ steps) = step_told t open_nodes step (λ others. walk_told t others steps)

-- of the offsets of a property, and of the steps behind it
abbrev pub local_fixups_left : PlacedTree → ℕ → Name → List ℕ → List ℕ → List ℕ → List Step → List LocalFixup
local_fixups_left t node property value offsets open_nodes steps =
    offsets_told node property value (words_of offsets) (walk_told t open_nodes steps)

-- ---- what a reader may rely on

-- with so many open nodes, no more than 65 are open at once, up to the end of the first of them
abbrev pub IsShallow : ℕ → List Step → Type 0
IsShallow zero steps = Unit {0}
IsShallow (suc count) [] = Unit {0}
IsShallow (suc count) (opens place name ∷ steps) = (suc count < most_bodies) × IsShallow (suc (suc count)) steps
IsShallow (suc count) (holds x ∷ steps) = IsShallow (suc count) steps
IsShallow (suc count) (closes ∷ steps) = IsShallow count steps

-- each is a node
abbrev pub AreNodes : PlacedTree → List ℕ → Type 0
AreNodes t ks = AllByRecursion (λ k. (p : Path) × IsAt t p k) ks

pub record MayWalk (t : PlacedTree) (open_nodes : List ℕ) (steps : List Step) : Type 0 where
  pub nodes : AreNodes t open_nodes
  pub shallow : IsShallow (length open_nodes) steps
