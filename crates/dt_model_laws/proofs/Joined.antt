-- Numbers of an overlay's nodes that are joined, where several land on one path, or on a node that has a number: they become one node,
-- with one number.
use Rattle.std.specs.Prelude.{◌≡◌, ◌≢◌, ℕ, ◌≤◌, true, false, List, Option, Some, unwrap_or}
use Rattle.dt_model.specs.Lists.{last_of}
use Rattle.dt_model.specs.Names.{Name}
use Rattle.dt_model.specs.Path.{Path}
use Rattle.dt_model.specs.Meaning.{Meaning, Extends}
use Rattle.dt_model.specs.Tree.{Reading}
use Rattle.dt_model.specs.Represents.{Represents}
use Rattle.dt_model.specs.Overlay.{Overlay, IsBrought}
use Rattle.dt_model.specs.Merged.{Site, landing, sources, merged, IsDefined}
use Rattle.dt_model.specs.Object.{Cell, HasFixups}
use Rattle.dt_model.specs.Numbers.{number_in}
use Rattle.dt_model.specs.Applied.{applied_at}
use Rattle.dt_model_laws.specs.Applying.{AreOf, KeepsBookkeeping}

-- Keyed nodes that land on one path have one number: the tree's where it has one there, else one that no node of the tree has.
pub record IsJoined (m : Meaning) (o : Overlay) (sites : List Site) (number : Path → ℕ) (new : Path → Option ℕ) : Type 0 where
  pub some : (p : Path) → IsBrought o p → o.keyed p ≡ true → (n : ℕ) × (new p ≡ Some n)
  pub none : (p : Path) (n : ℕ) → new p ≡ Some n → o.keyed p ≡ true
  pub low : (p : Path) (n : ℕ) → new p ≡ Some n → 1 ≤ n
  pub high : (p : Path) (n : ℕ) → new p ≡ Some n → n ≤ 0xfffffffe
  pub tree : (p q : Path) (n : ℕ) → new p ≡ Some n → landing sites p ≡ Some q → m.keyed q ≡ true → n ≡ number q
  pub one : (p p' q : Path) (n n' : ℕ) → new p ≡ Some n → new p' ≡ Some n' → landing sites p ≡ Some q → landing sites p' ≡ Some q → n ≡ n'
  pub own : (p p' q q' : Path) (n : ℕ) → new p ≡ Some n → new p' ≡ Some n → landing sites p ≡ Some q → landing sites p' ≡ Some q' → q ≡ q'
  pub free : (p q q' : Path) (n : ℕ) → new p ≡ Some n → landing sites p ≡ Some q → m.keyed q ≡ false → m.keyed q' ≡ true → number q' ≢ n

-- the numbers after an application: the new one where a keyed node landed, else the one before
abbrev pub number_after : List Site → (Path → ℕ) → (Path → Option ℕ) → Path → ℕ
number_after sites number new q = unwrap_or (last_of new (sources sites q)) (number q)

-- the tree represents the merged meaning, by numbers that extend the base's, and keeps the base's bookkeeping nodes
pub record IsJoinedResult (base : Reading) (m : Meaning) (o : Overlay) (number : Path → ℕ) (numbers : List (Path × ℕ)) (sites : List Site) (t : Reading) : Type 0 where
  pub represents : Represents t (merged m o sites) (number_after sites number (number_in numbers))
  pub extends : Extends m number (number_after sites number (number_in numbers))
  pub boot_cpu : t.boot_cpu ≡ base.boot_cpu
  pub bookkeeping : KeepsBookkeeping base t

-- the result at these sites, with joined numbers
abbrev pub JoiningIsMerging : Type 0
JoiningIsMerging = (base object : Reading) (m : Meaning) (o : Overlay) (number local : Path → ℕ) (fixups : List (Name × Cell)) (numbers : List (Path × ℕ)) (sites : List Site)
    → AreOf base object m o number local → HasFixups object fixups → IsDefined m o sites → IsJoined m o sites number (number_in numbers)
    → IsJoinedResult base m o number numbers sites (applied_at base object fixups numbers sites)
