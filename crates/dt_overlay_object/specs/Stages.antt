-- What is known of an object on the way, while it is applied.
use Rattle.std.specs.Prelude.{◌≡◌, ℕ, List, [], map}
use Rattle.dt_model.specs.Names.{Name}
use Rattle.dt_model.specs.Path.{Path}
use Rattle.dt_model.specs.Tree.{Reading}
use Rattle.dt_model.specs.Valid.{IsValid, IsWithinLimits}
use Rattle.dt_model.specs.Merged.{Site}
use Rattle.dt_model.specs.Object.{Cell, HasFixups, fragment_names, local_cells}
use Rattle.dt_model.specs.Applied.{local_write, label_write}
use Rattle.dt_overlay_model.specs.Walk.{Walked, nothing_walked, new_numbers}
use Rattle.dt_overlay_laws.specs.Landings.{AreSited}
use Rattle.dt_overlay_laws.specs.Objects.{IsWellFormed}
use Rattle.dt_overlay_object.specs.Objects.{Seen, IsSeenAs}
use Rattle.dt_overlay_object.specs.declared.landing.Landing.{Landing}
use Rattle.dt_overlay_object.specs.declared.object.Object.{Object}
use Rattle.dt_overlay_base.specs.Known.{IsKnown}
use Rattle.dt_trees.specs.Placed.{PlacedTree}

-- nothing has landed so far
pub record IsEmptyLanding (l : Landing) : Type 0 where
  pub sites : l.sites.items ≡ []
  pub places : (base : Reading) → IsKnown base [] [] l.places
  pub nodes : l.places.nodes ≡ []

-- an object that lists these cells for labels, with the writes that these new numbers of its nodes make
abbrev pub seen_with : (base object : Reading) → List (Name × Cell) → (numbers : List (Path × ℕ)) → Seen
seen_with base object fixups numbers = record {
  reading = object;
  own = map (local_write object numbers) (local_cells object);
  labels = map (label_write base) fixups;
  numbers = numbers;
}

-- the object is read, and has no fault
pub record IsReadFor {V : Type 0} (tree : V → PlacedTree) (base object : Reading) (o : Object V) : Type 0 where
  pub valid : IsValid object
  pub few : IsWithinLimits object
  pub fixups : List (Name × Cell)
  pub listed : HasFixups object fixups
  pub well : IsWellFormed base object
  pub seen : IsSeenAs tree o (seen_with base object fixups [])

-- and its fragments have sites, and its nodes numbers
pub record IsSitedFor {V : Type 0} (tree : V → PlacedTree) (base object : Reading) (fixups : List (Name × Cell)) (o : Object V) (sites : List Path) : Type 0 where
  pub end : Walked
  pub sited : AreSited base object fixups nothing_walked (fragment_names object.children) end
  pub at : sites ≡ map (λ (x : Site). x.at) end.sites
  pub seen : IsSeenAs tree o (record (seen_with base object fixups []) { numbers = new_numbers base object end })

-- and these are those of its cells
pub record IsNumberedFor {V : Type 0} (tree : V → PlacedTree) (base object : Reading) (o : Object V) (sites : List Path) : Type 0 where
  pub valid : IsValid object
  pub few : IsWithinLimits object
  pub fixups : List (Name × Cell)
  pub listed : HasFixups object fixups
  pub well : IsWellFormed base object
  pub end : Walked
  pub sited : AreSited base object fixups nothing_walked (fragment_names object.children) end
  pub at : sites ≡ map (λ (x : Site). x.at) end.sites
  pub seen : IsSeenAs tree o (seen_with base object fixups (new_numbers base object end))
