-- The names that new fragments may not get: those of the root's children that a source writes, found in one pass over its places.
use Rattle.std.specs.Prelude.{◌≡◌, ℕ, zero, suc, ◌+◌, Bool, List, [], ◌∷◌, map, length, Option, None, Some}
use Rattle.std.specs.Borrow.{Bor}
use Rattle.std.specs.Global.{Vec}
use Rattle.std.specs.HashSet.{HashSet, contains_by}
use Rattle.std.specs.Str.{bytes_eq}
use Rattle.dt_model.specs.Names.{Name}
use Rattle.dt_model.specs.OverlaySource.{fragment_name, free_from}
use Rattle.dt_model.specs.Source.{Place, root, block, delete_node, child, label, property, delete_property, delete_child, close, is_among}
use Rattle.dt_names.specs.declared.seed.Seed.{Seed}

-- ---- one place

-- how many bodies are open inside a `/ { }` block behind a place, where so many are open before it, if one is open
abbrev pub depth_behind : Place → Option ℕ → Option ℕ
depth_behind root depth = Some 0
depth_behind (block r) depth = depth
depth_behind (delete_node r) depth = depth
depth_behind (child n) None = None
depth_behind (child n) (Some d) = Some (d + 1)
depth_behind (label l) depth = depth
depth_behind (property n v) depth = depth
depth_behind (delete_property n) depth = depth
depth_behind (delete_child n) depth = depth
depth_behind close None = None
depth_behind close (Some zero) = None
depth_behind close (Some (suc d)) = Some d

-- the name of the child of the root that a place opens, if it opens one
abbrev pub root_child : Place → Option ℕ → List Name
root_child root depth = []
root_child (block r) depth = []
root_child (delete_node r) depth = []
root_child (child n) None = []
root_child (child n) (Some zero) = n ∷ []
root_child (child n) (Some (suc d)) = []
root_child (label l) depth = []
root_child (property n v) depth = []
root_child (delete_property n) depth = []
root_child (delete_child n) depth = []
root_child close depth = []

-- ---- names that are borrowed, and a set of them

abbrev pub borrowed : List (Bor (List ℕ)) → List Name
borrowed names = map (λ (n : Bor (List ℕ)). n.now) names

abbrev pub NameSet : Type 0
NameSet = HashSet (Bor (List ℕ)) Seed

abbrev pub has_name : NameSet → Name → Bool
has_name names x = contains_by (λ (n : Bor (List ℕ)). bytes_eq x n.now) names

-- the set has the names of the list
abbrev pub IsSetOf : List Name → NameSet → Type 0
IsSetOf names hashed = (x : Name) → has_name hashed x ≡ is_among x names

-- ---- the names that are given

-- the names that so many new fragments get from a number on
abbrev pub made_names : List Name → (count next : ℕ) → List Name
made_names written zero next = []
made_names written (suc count) next =
    fragment_name (free_from written (length written) next) ∷ made_names written count (free_from written (length written) next + 1)

abbrev pub texts : List (Vec ℕ) → List Name
texts names = map (λ (v : Vec ℕ). v.items) names
