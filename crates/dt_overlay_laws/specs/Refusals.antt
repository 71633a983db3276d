-- Why an object isn't applied.
use Rattle.std.specs.Prelude.{◌≡◌, ◌≢◌, ℕ, ◌+◌, ◌<◌, ◌⊎◌, true, List, [], ◌∷◌, ◌++◌, None, Some, codes}
use Rattle.std.specs.List.{AllByRecursion}
use Rattle.dt_model.specs.Limits.{most_nodes}
use Rattle.dt_model.specs.Names.{Name}
use Rattle.dt_model.specs.Path.{Path}
use Rattle.dt_model.specs.Lists.{IsIn}
use Rattle.dt_model.specs.Tree.{Property, Reading, stands_in, value_in}
use Rattle.dt_model.specs.Valid.{node_count}
use Rattle.dt_model.specs.Object.{Cell, HasFixups, fragment_names}
use Rattle.dt_overlay_model.specs.InTurn.{IsApplied}
use Rattle.dt_overlay_model.specs.Walk.{Walked, nothing_walked, walk, new_numbers}
use Rattle.dt_names.specs.declared.fault.FaultKind.{FaultKind}
use Rattle.dt_names.specs.declared.fault.FaultKind.TheVariants.{NoMemory, Limit, NoSymbol, BadSymbol, NoTarget, BadFixup, BadLocalFixup, NoFragmentTarget, ReservedPlace}
use Rattle.dt_overlay_laws.specs.Landings.{HasNoSite}
use Rattle.dt_overlay_laws.specs.Steps.{FullAtLanding}
use Rattle.dt_overlay_laws.specs.Objects.{HasTarget, HaveTargets, AreCellsOf, SymbolHasNumber, IsFixup, AreFixedUp, IsMirror, AreMirrors, IsSymbol, fixups_in, symbols_in, IsWellFormed}

-- ---- the faults of an object, in the order in which it is looked at

-- a fragment has no target
abbrev pub HasNoTarget : Reading → Type 0
HasNoTarget object = (f : Name) × IsIn f (fragment_names object.children) × ¬ HasTarget object f

-- the cells that a property of `__fixups__` lists get no number: it isn't a list of them; or the base hasn't the label; or not for
-- a node with a number
abbrev pub WhyNoFixup : FaultKind → Reading → Reading → Property → Type 0
WhyNoFixup BadFixup base object x = (cells : List Cell) → ¬ AreCellsOf object x.value cells
WhyNoFixup NoSymbol base object x = ((cells : List Cell) × AreCellsOf object x.value cells) × (value_in base (codes "__symbols__" ∷ []) x.name ≡ None)
WhyNoFixup BadSymbol base object x =
    ((cells : List Cell) × AreCellsOf object x.value cells) × (value_in base (codes "__symbols__" ∷ []) x.name ≢ None)
    × ((n : ℕ) → ¬ SymbolHasNumber base x.name n)
WhyNoFixup _ base object x = ⊥

-- the first of these properties that is so
pub record HasNoFixup (kind : FaultKind) (base object : Reading) : Type 0 where
  pub front : List Property
  pub property : Property
  pub back : List Property
  pub are : fixups_in object ≡ front ++ property ∷ back
  pub well : AllByRecursion (IsFixup base object) front
  pub why : WhyNoFixup kind base object property

-- a node of `__local_fixups__` isn't as it has to be
abbrev pub HasNoMirror : Reading → Type 0
HasNoMirror object = (p : Path) × (stands_in object (codes "__local_fixups__" ∷ p) ≡ true) × ¬ IsMirror object p

-- nor is a label
abbrev pub HasNoSymbol : Reading → Type 0
HasNoSymbol object = (x : Property) × IsIn x (symbols_in object) × ¬ IsSymbol object x.value

-- the object is well formed, with these cells that wait for labels; but a fragment has no site
pub record HasNoSites (kind : FaultKind) (base object : Reading) : Type 0 where
  pub well : IsWellFormed base object
  pub fixups : List (Name × Cell)
  pub listed : HasFixups object fixups
  pub why : HasNoSite kind base object fixups nothing_walked (fragment_names object.children)

-- ---- no room

-- The object is well formed, and its fragments have sites, but on the way to what would come of it there is a change for which there is no
-- room: that which makes `next` of t, where `full t next`.
pub record IsCrowded (full : Reading → Reading → Type 0) (base object : Reading) : Type 0 where
  pub well : IsWellFormed base object
  pub result : Reading
  pub applied : IsApplied base object result
  pub fixups : List (Name × Cell)
  pub listed : HasFixups object fixups
  pub end : Walked
  pub walked : walk base object fixups nothing_walked (fragment_names object.children) ≡ Some end
  pub change : FullAtLanding full base object fixups (new_numbers base object end) end.sites (symbols_in object)

-- where the number of nodes alone decides
abbrev pub has_many : Reading → Reading → Type 0
has_many t next = most_nodes < 1 + node_count next.children

-- the object is well formed, and its fragments have sites, but what would come of it has more than 65,536 nodes
pub record IsOverfull (base object : Reading) : Type 0 where
  pub well : IsWellFormed base object
  pub result : Reading
  pub applied : IsApplied base object result
  pub many : most_nodes < 1 + node_count result.children

-- ---- all of them

-- Why an object isn't applied to a base: memory may be refused at any time; or else this is its first fault, where want of room is the
-- last.
abbrev pub WhyNotApplied : (Reading → Reading → Type 0) → FaultKind → Reading → Reading → Type 0
WhyNotApplied full NoMemory base object = Unit {0}
WhyNotApplied full NoFragmentTarget base object = HasNoTarget object
WhyNotApplied full BadFixup base object = HaveTargets object × HasNoFixup BadFixup base object
WhyNotApplied full NoSymbol base object = HaveTargets object × HasNoFixup NoSymbol base object
WhyNotApplied full BadSymbol base object =
    HaveTargets object × (HasNoFixup BadSymbol base object ⊎ (AreFixedUp base object × AreMirrors object × HasNoSymbol object))
WhyNotApplied full BadLocalFixup base object = HaveTargets object × AreFixedUp base object × HasNoMirror object
WhyNotApplied full NoTarget base object = HasNoSites NoTarget base object
WhyNotApplied full ReservedPlace base object = HasNoSites ReservedPlace base object
WhyNotApplied full Limit base object = HasNoSites Limit base object ⊎ IsCrowded full base object
WhyNotApplied full _ base object = ⊥
