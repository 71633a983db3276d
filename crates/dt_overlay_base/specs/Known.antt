-- What is kept of the places on which an object's nodes land, and what it means.
use Rattle.std.specs.Prelude.{◌≡◌, ◌↔◌, ℕ, ◌<◌, ◌≤◌, true, false, List, ◌∷◌, ◌++◌, length, map, Option, is_some, option_and_then, nat_eq}
use Rattle.std.specs.Global.{Vec}
use Rattle.std.specs.List.{AllByRecursion, list_any, flat_map}
use Rattle.std.specs.Map.{lookup}
use Rattle.std.specs.Str.{bytes_eq}
use Rattle.dt_model.specs.Limits.{most_nodes}
use Rattle.dt_model.specs.Lists.{IsIn}
use Rattle.dt_model.specs.Names.{IsNodeName}
use Rattle.dt_model.specs.Numbers.{numbers_of, number_in}
use Rattle.dt_model.specs.Path.{Path, path_value}
use Rattle.dt_model.specs.Tree.{Forest, no_nodes, branch, Reading, Placed, preorder}
use Rattle.dt_model.specs.Merged.{Site}
use Rattle.dt_trees.specs.Placed.{PlacedTree, path_at, last_name, properties_at, below_in}
use Rattle.dt_overlay_model.specs.Walk.{place_given, with_places, landings}

-- ---- nodes of an object, by their places in its tree

-- a node as the only one of its siblings
abbrev pub alone : PlacedTree → ℕ → Forest
alone t k = branch (last_name (path_at t k)) (properties_at t (path_at t k)) (below_in t k) no_nodes

-- a node on the path on which it lands
abbrev pub placed : PlacedTree → ℕ → Path → Placed
placed t k q = record { path = q; properties = properties_at t (path_at t k) }

-- a node and those below it, where it lands on q
abbrev pub content_at : PlacedTree → ℕ → Path → List Placed
content_at t k q = placed t k q ∷ preorder q (below_in t k)

-- the paths of some nodes
abbrev pub paths_of : List Placed → List Path
paths_of nodes = map (λ (n : Placed). n.path) nodes

-- ---- places

-- what is kept for a path, by its text
abbrev pub kept_at : List (Vec ℕ × Option ℕ) → Path → Option (Option ℕ)
kept_at entries q = lookup (λ (k : Vec ℕ). bytes_eq (path_value q) k.items) entries

-- What is known of places: those on which something has landed, by the texts of their paths, each with the number that it got, if it got one;
-- which place got a number; the last number that one got, 0 before the first; and the number of each node that landed and has a `phandle`.
pub record Known : Type 0 where
  pub landed : List (Vec ℕ × Option ℕ)
  pub numbered : List (ℕ × Path)
  pub last : ℕ
  pub nodes : List (ℕ × ℕ)

-- the place that got a number
abbrev pub place_of_number : Known → ℕ → Option Path
place_of_number a n = lookup (nat_eq n) a.numbered

-- the number that a path's place got
abbrev pub number_at_place : Known → Path → Option ℕ
number_at_place a q = option_and_then (λ n. n) (kept_at a.landed q)

-- Something has landed on these paths, and on no others, and of these some got numbers: it is known so.
pub record IsKnown (base : Reading) (given : List (Path × ℕ)) (landed : List Path) (a : Known) : Type 0 where
  pub places : (q : Path) → AllByRecursion IsNodeName q → (is_some (kept_at a.landed q) ≡ true) ↔ IsIn q landed
  pub numbers : (q : Path) → AllByRecursion IsNodeName q → number_at_place a q ≡ number_in given q
  pub paths : (n : ℕ) → place_of_number a n ≡ place_given given n
  -- the numbers up to the last are taken or given, and none that was given is behind it
  pub low : (n : ℕ) → 1 ≤ n → n ≤ a.last → list_any (nat_eq n) (map (λ (x : Path × ℕ). x.1) given ++ numbers_of base) ≡ true
  pub high : (n : ℕ) → IsIn n (map (λ (x : Path × ℕ). x.1) given) → n ≤ a.last

-- what holds wherever it is known so
abbrev pub WhereKnown : Known → (Reading → List (Path × ℕ) → List Path → Type 0) → Type 0
WhereKnown a P = (base : Reading) (given : List (Path × ℕ)) (landed : List Path) → IsKnown base given landed a → P base given landed

abbrev pub WhereKnownOf : Reading → Known → (List (Path × ℕ) → List Path → Type 0) → Type 0
WhereKnownOf base a P = (given : List (Path × ℕ)) (landed : List Path) → IsKnown base given landed a → P given landed

-- where something has landed on q, whose place got this number, if it got one
abbrev pub WhereKnownAt : Reading → Known → Path → Option ℕ → (List (Path × ℕ) → List Path → Type 0) → Type 0
WhereKnownAt base a q got P = (given : List (Path × ℕ)) (landed : List Path) → IsKnown base given landed a → IsIn q landed → got ≡ number_in given q → P given landed

-- what is known, where these nodes have landed besides
abbrev pub IsKnownBehind : Reading → List Placed → List (Path × ℕ) → List Path → Known → Type 0
IsKnownBehind base nodes given landed a = IsKnown base (with_places base nodes given) (landed ++ paths_of nodes) a

-- where these nodes land, at most 65,536 places have a number then
pub record HasRoom (base : Reading) (nodes : List Placed) (a : Known) : Type 0 where
  pub given : List (Path × ℕ)
  pub landed : List Path
  pub known : IsKnown base given landed a
  pub few : length (with_places base nodes given) ≤ most_nodes

-- the paths on which nodes of an object land, fragment by fragment
abbrev pub landed_paths : Reading → List Site → List Path
landed_paths object sites = flat_map (λ (x : Site). paths_of (landings object x)) sites

-- ---- numbers

-- the least number above another that is not taken
pub record IsNext (taken : List ℕ) (last n : ℕ) : Type 0 where
  pub above : last < n
  pub free : list_any (nat_eq n) taken ≡ false
  pub between : (k : ℕ) → last < k → k < n → list_any (nat_eq k) taken ≡ true
