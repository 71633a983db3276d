-- All lines of a tree: those of its nodes in preorder, of each the lines of its indices from 0 on.
use Rattle.std.specs.Prelude.{◌≡◌, ◌+◌, ◌⊎◌, ℕ, Bool, true, false, List, [], ◌∷◌, ◌++◌}
use Rattle.dt_model.specs.Path.{Path}
use Rattle.dt_model.specs.Tree.{Reading, Placed}
use Rattle.dt_names.specs.declared.fault.FaultKind.{FaultKind}
use Rattle.dt_names.specs.declared.fault.FaultKind.TheVariants.{BadCells, NoInterrupts, NoReg}
use Rattle.dt_resolve_model.specs.declared.regions.Region.{Region}
use Rattle.dt_resolve_model.specs.Answers.{Answer, undetermined, refused, answer}
use Rattle.dt_resolve_model.specs.World.{tree_world}
use Rattle.dt_resolve_model.specs.Regions.{region}
use Rattle.dt_resolve_model.specs.Interrupts.{Route, IsRoute}
use Rattle.dt_resolve_lines.specs.Lines.{line, region_words, route_words}

-- how a node's lines are made: which answer is at an index, its line, and which answers end the lines, without one or behind theirs
pub record Telling (A : Type 0) : Type 1 where
  pub rule : ℕ → Answer A → Type 0
  pub line : ℕ → Answer A → List ℕ
  pub is_silent : Answer A → Bool
  pub is_last : Answer A → Bool

-- nothing behind a last line, and more behind another
abbrev pub EndsOr : Bool → List (List ℕ) → Type 0 → Type 0
EndsOr true lines more = lines ≡ []
EndsOr false lines more = more

-- the lines of a node from an index on, up to one where they may end without another line
abbrev pub AreUpTo : {A : Type 0} → (ℕ → Type 0) → Telling A → ℕ → List (List ℕ) → Type 0
AreUpTo {A} ends told i [] = ends i
AreUpTo {A} ends told i (l ∷ lines) = (a : Answer A) × told.rule i a × (told.is_silent a ≡ false) × (l ≡ told.line i a)
    × EndsOr (told.is_last a) lines (AreUpTo ends told (i + 1) lines)

-- all of them
abbrev pub AreFrom : {A : Type 0} → Telling A → ℕ → List (List ℕ) → Type 0
AreFrom {A} told = AreUpTo (λ i. (a : Answer A) × told.rule i a × (told.is_silent a ≡ true)) told

-- some of them, the first ones
abbrev pub AreBegun : {A : Type 0} → Telling A → ℕ → List (List ℕ) → Type 0
AreBegun told = AreUpTo (λ i. Unit {0}) told

-- the lines of nodes, of each its own
abbrev pub AreOfAll : (Path → List (List ℕ) → Type 0) → List Placed → List (List ℕ) → Type 0
AreOfAll Own [] lines = lines ≡ []
AreOfAll Own (n ∷ nodes) lines = (own rest : List (List ℕ)) × (lines ≡ own ++ rest) × Own n.path own × AreOfAll Own nodes rest

-- some of them, the first ones
abbrev pub AreBegunOfAll : (Path → List (List ℕ) → Type 0) → (Path → List (List ℕ) → Type 0) → List Placed → List (List ℕ) → Type 0
AreBegunOfAll Own Begun [] lines = lines ≡ []
AreBegunOfAll Own Begun (n ∷ nodes) lines = Begun n.path lines ⊎ ((own rest : List (List ℕ)) × (lines ≡ own ++ rest) × Own n.path own
    × AreBegunOfAll Own Begun nodes rest)

abbrev pub is_no_reg : FaultKind → Bool
is_no_reg NoReg = true
is_no_reg _ = false

abbrev pub is_bad_cells : FaultKind → Bool
is_bad_cells BadCells = true
is_bad_cells _ = false

abbrev pub is_no_interrupts : FaultKind → Bool
is_no_interrupts NoInterrupts = true
is_no_interrupts _ = false

-- an answer that is a fault of such a kind
abbrev pub is_fault : {A : Type 0} → (FaultKind → Bool) → Answer A → Bool
is_fault test undetermined = false
is_fault test (refused fault) = test fault.kind
is_fault test (answer a) = false

-- the regions of a node: NoReg ends them without a line, BadCells behind its line
abbrev pub regions_told : Reading → Path → Telling Region
regions_told t p = record {
  rule = λ i a. region
      (tree_world t) p i ≡ a;
  line = line region_words p;
  is_silent = is_fault is_no_reg;
  is_last = is_fault is_bad_cells;
}

-- the routes of a node: NoInterrupts ends them without a line, each other fault behind its line
abbrev pub routes_told : Reading → Path → Telling Route
routes_told t p = record {
  rule = IsRoute
      (tree_world t) p;
  line = line route_words p;
  is_silent = is_fault is_no_interrupts;
  is_last = is_fault (λ kind. true);
}
