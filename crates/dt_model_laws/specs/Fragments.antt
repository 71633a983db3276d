-- A new fragment has a name of its own.
use Rattle.std.specs.Prelude.{◌≡◌, ℕ, ◌+◌, ◌<◌, ◌≤◌, ◌^◌, true, false, List, [], ◌∷◌, ◌++◌, length, None, Ok}
use Rattle.std.specs.List.{AllByRecursion}
use Rattle.dt_model.specs.Names.{Name}
use Rattle.dt_model.specs.Event.{stands, names}
use Rattle.dt_model.specs.Source.{Place, IsPlace, is_among}
use Rattle.dt_model.specs.OverlaySource.{root_children, fragment_name, free_from, OverlaySoFar, overlay_start, read_overlays}

-- the first number from n on whose name is none of these
pub record IsFirstFree (written : List Name) (n k : ℕ) : Type 0 where
  pub free : is_among (fragment_name k) written ≡ false
  pub from : n ≤ k
  pub first : (m : ℕ) → n ≤ m → m < k → is_among (fragment_name m) written ≡ true

-- as many tries as there are names find it
abbrev pub FirstFree : Type 0
FirstFree = (written : List Name) (n : ℕ) → n + length written < 2 ^ 64 → IsFirstFree written n (free_from written (length written) n)

-- A new fragment's node doesn't stand before it is opened, where no label names the root: a block of such a label could
-- open children of the root that `root_children` doesn't have.
abbrev pub NewFragment : Type 0
NewFragment = (before behind : List Place) (written : List Name) (s : OverlaySoFar) → AllByRecursion IsPlace before
    → written ≡ root_children None (before ++ behind) → read_overlays written overlay_start before ≡ Ok s → s.next + length written < 2 ^ 64
    → ((l : Name) → names s.source.events l [] ≡ false) → stands s.source.events (fragment_name (free_from written (length written) s.next) ∷ []) ≡ false
