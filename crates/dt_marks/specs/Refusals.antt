-- When a tree gets no nodes with labels or cells.
use Rattle.std.specs.Prelude.{◌<◌, ◌≤◌, List, length}
use Rattle.std.specs.List.{AllByRecursion}
use Rattle.dt_model.specs.Limits.{most_names, most_nodes}
use Rattle.dt_model.specs.Tree.{Property, Reading}
use Rattle.dt_model.specs.Valid.{IsWithinLimits}
use Rattle.dt_names.specs.declared.fault.FaultKind.{FaultKind}
use Rattle.dt_names.specs.declared.fault.FaultKind.TheVariants.{NoMemory, Limit}
use Rattle.dt_flat.specs.Arena.{Slot}

-- the tree is as large as one may be; or memory was refused
abbrev pub WhyFull : FaultKind → List Slot → Type 0
WhyFull NoMemory slots = Unit {0}
WhyFull Limit slots = most_nodes ≤ length slots
WhyFull _ slots = ⊥

-- there is a label to add, and the tree is as large as one may be; or memory was refused
abbrev pub WhyNoSymbols : FaultKind → List Slot → List Property → Type 0
WhyNoSymbols NoMemory slots symbols = Unit {0}
WhyNoSymbols Limit slots symbols = (0 < length symbols) × (most_nodes ≤ length slots)
WhyNoSymbols _ slots symbols = ⊥

-- the nodes are within the limits
pub record AreWithin (slots : List Slot) : Type 0 where
  pub few : length slots ≤ most_nodes
  pub shallow : AllByRecursion (λ n. n.depth ≤ most_names) slots

-- the nodes aren't made: they would pass the limits; or memory was refused
abbrev pub WhyNotPlanted : FaultKind → List Slot → Type 0
WhyNotPlanted NoMemory slots = Unit {0}
WhyNotPlanted Limit slots = ¬ AreWithin slots
WhyNotPlanted _ slots = ⊥

-- the tree with its cells would pass the limits; or memory was refused
abbrev pub WhyNoFixups : FaultKind → Reading → Type 0
WhyNoFixups NoMemory t = Unit {0}
WhyNoFixups Limit t = ¬ IsWithinLimits t
WhyNoFixups _ t = ⊥
