-- What is found in a tree to which an object was applied, by paths, whoever wrote the two.
use Rattle.std.specs.Prelude.{◌≡◌, ◌≢◌, ◌⊎◌, ◌↔◌, ℕ, true, List, [], ◌∷◌, Option, Some, option_map, option_and_then, unwrap_or, if◌then◌else◌, codes}
use Rattle.std.specs.Option.{option_or}
use Rattle.std.specs.Str.{bytes_eq}
use Rattle.dt_model.specs.Lists.{last_of}
use Rattle.dt_model.specs.Meaning.{cell}
use Rattle.dt_model.specs.Names.{Name}
use Rattle.dt_model.specs.Path.{Path, path_value}
use Rattle.dt_model.specs.Tree.{Reading, nodes_of, stands_in, value_in}
use Rattle.dt_model.specs.Valid.{IsValid}
use Rattle.dt_model.specs.Merged.{Site, landing, sources}
use Rattle.dt_model.specs.Object.{Cell, fragment_names}
use Rattle.dt_model.specs.Applied.{Write, writes, value_after_writes, node_named}
use Rattle.dt_model.specs.Numbers.{number_in}
use Rattle.dt_overlay_model.specs.InTurn.{IsApplied}
use Rattle.dt_overlay_model.specs.Walk.{Walked, nothing_walked, walk, new_numbers}

-- a value of a node of the object as it lands: a `phandle` is the node's number, and the cells that are listed hold those of their nodes
abbrev pub landed_value : List Write → List (Path × ℕ) → Path → Name → List ℕ → List ℕ
landed_value ws numbers p name value = if bytes_eq name (codes "phandle") then cell (unwrap_or (number_in numbers p) 0) else value_after_writes p name ws value

-- the path on which the node of a label lands, if it does
abbrev pub label_lands : Reading → List Site → Name → Option Path
label_lands object sites l = option_and_then (landing sites) (option_and_then (node_named (nodes_of object)) (value_in object (codes "__symbols__" ∷ []) l))

abbrev pub symbols_path : Path
symbols_path = codes "__symbols__" ∷ []

pub record IsFound (base object : Reading) (fixups : List (Name × Cell)) (w : Walked) (t : Reading) : Type 0 where
  -- there is a node where the base has one, or one of the object lands
  pub stands : (q : Path) → q ≢ symbols_path → (stands_in t q ≡ true) ↔ ((stands_in base q ≡ true)
      ⊎ ((p : Path) × (stands_in object p ≡ true) × (landing w.sites p ≡ Some q)))
  -- and the node of the labels where the base has it, or a label lands
  pub labels : (stands_in t symbols_path ≡ true) ↔ ((stands_in base symbols_path ≡ true) ⊎ ((l : Name) × (q : Path) × (label_lands object w.sites l ≡ Some q)))
  -- a property is that of the last node that lands with one, or else the base's
  pub values : (q : Path) (name : Name) → q ≢ symbols_path →
      value_in t q name ≡ option_or (last_of (λ p. option_map (landed_value (writes base object fixups (new_numbers base object w))
      (new_numbers base object w) p name) (value_in object p name)) (sources w.sites q)) (value_in base q name)
  -- a label is the path's text of the node that lands with it, or else the base's
  pub symbols : (l : Name) → value_in t symbols_path l ≡ option_or (option_map path_value (label_lands object w.sites l)) (value_in base symbols_path l)
  pub reservations : t.reservations ≡ base.reservations
  pub boot_cpu : t.boot_cpu ≡ base.boot_cpu

-- so it is wherever an object was applied
abbrev pub AppliedIsFound : Type 0
AppliedIsFound = (base object t : Reading) (h : IsApplied base object t) → IsValid base → IsValid object
    → (w : Walked) × (walk base object h.fixups nothing_walked (fragment_names object.children) ≡ Some w) × IsFound base object h.fixups w t
