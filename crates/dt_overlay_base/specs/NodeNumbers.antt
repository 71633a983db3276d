-- The numbers of an object's nodes that land, by its nodes.
use Rattle.std.specs.Prelude.{◌≡◌, ℕ, Bool, true, false, List, [], ◌∷◌, ◌++◌, nat_eq, cond, Option, Some, None, is_some, codes}
use Rattle.std.specs.Map.{lookup}
use Rattle.dt_model.specs.Lists.{IsIn}
use Rattle.dt_model.specs.Numbers.{number_in}
use Rattle.dt_model.specs.Path.{Path}
use Rattle.dt_model.specs.Tree.{Reading, Placed, preorder, value_in}
use Rattle.dt_trees.specs.Placed.{PlacedTree, reading_of, path_at, last_name, below_in, IsAt}
use Rattle.dt_overlay_model.specs.Walk.{number_there, with_places}
use Rattle.dt_overlay_base.specs.Known.{Known, alone, content_at, paths_of, placed}

-- ---- tables by nodes

-- what a table has for a node
abbrev pub at_node : {A : Type 0} → List (ℕ × A) → ℕ → Option A
at_node entries k = lookup (nat_eq k) entries

-- the new table is the old one, with this for a node
abbrev pub PutsAt : {A : Type 0} → List (ℕ × A) → List (ℕ × A) → ℕ → A → Type 0
PutsAt old new node x = (k : ℕ) → at_node new k ≡ cond (nat_eq node k) (Some x) (at_node old k)

-- ---- numbers in one

-- the node of the path has its number in the table
abbrev pub IsNumbered : PlacedTree → List (Path × ℕ) → List (ℕ × ℕ) → Path → Type 0
IsNumbered t numbers entries p = (k : ℕ) → IsAt t p k → at_node entries k ≡ number_in numbers p

-- each number in the table is that of its node
abbrev pub AreNumbers : PlacedTree → List (Path × ℕ) → List (ℕ × ℕ) → Type 0
AreNumbers t numbers entries = (p : Path) (k n : ℕ) → IsAt t p k → at_node entries k ≡ Some n → number_in numbers p ≡ Some n

-- the nodes of these paths have their numbers in the table besides
pub record NumbersMore (t : PlacedTree) (numbers : List (Path × ℕ)) (paths : List Path) (old new : List (ℕ × ℕ)) : Type 0 where
  pub sound : AreNumbers t numbers new
  pub own : (p : Path) → IsIn p paths → IsNumbered t numbers new p
  pub kept : (p : Path) → IsNumbered t numbers old p → IsNumbered t numbers new p

-- ---- the numbers of the nodes that land

abbrev pub has_phandle_at : PlacedTree → Path → Bool
has_phandle_at t p = is_some (value_in (reading_of t) p (codes "phandle"))

-- the paths of the nodes below a node
abbrev pub paths_below : PlacedTree → ℕ → List Path
paths_below t k = paths_of (preorder (path_at t k) (below_in t k))

-- and its own before them
abbrev pub paths_in : PlacedTree → ℕ → List Path
paths_in t k = path_at t k ∷ paths_below t k

-- These numbers of nodes fit those of the places, where a node lands on q: with a `phandle`, it and each node below it has the number of its place, if
-- that has one. A node without a `phandle` has none.
pub record FitBelow (base : Reading) (t : PlacedTree) (given : List (Path × ℕ)) (k : ℕ) (q : Path) (numbers : List (Path × ℕ)) : Type 0 where
  pub keyed : (r : Path) (n : ℕ) → has_phandle_at t (path_at t k ++ r) ≡ true → number_there base given (q ++ r) ≡ Some n → number_in numbers (path_at t k ++ r) ≡ Some n
  pub bare : (p : Path) → has_phandle_at t p ≡ false → number_in numbers p ≡ None

-- nodes land, a node on q among them or above them: those of these paths have their numbers in the table then, whatever numbers of nodes fit
abbrev pub NotesNumbers : Reading → PlacedTree → List Placed → ℕ → Path → List Path → List (Path × ℕ) → Known → Known → Type 0
NotesNumbers base t landing k q paths given old new =
    (numbers : List (Path × ℕ)) → FitBelow base t (with_places base landing given) k q numbers → AreNumbers t numbers old.nodes → NumbersMore t numbers paths old.nodes new.nodes

-- a node lands on q; so do the nodes below it, where it landed; and it and they
abbrev pub NotesNode : Reading → PlacedTree → ℕ → Path → List (Path × ℕ) → Known → Known → Type 0
NotesNode base t k q given old new = NotesNumbers base t (placed t k q ∷ []) k q (path_at t k ∷ []) given old new

abbrev pub NotesBelow : Reading → PlacedTree → ℕ → Path → List (Path × ℕ) → Known → Known → Type 0
NotesBelow base t k q given old new = NotesNumbers base t (preorder q (below_in t k)) k q (paths_below t k) given old new

abbrev pub NotesContent : Reading → PlacedTree → ℕ → Path → List (Path × ℕ) → Known → Known → Type 0
NotesContent base t k q given old new = NotesNumbers base t (content_at t k q) k q (paths_in t k) given old new

-- a node lands below q, and those below it with it
abbrev pub NotesChild : Reading → PlacedTree → ℕ → Path → List (Path × ℕ) → Known → Known → Type 0
NotesChild base t k q given old new = NotesNumbers base t (preorder q (alone t k)) k (q ++ last_name (path_at t k) ∷ []) (paths_in t k) given old new
