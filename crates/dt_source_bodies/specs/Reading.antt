-- What the tree under construction and the open bodies have to do with the places that were read.
use Rattle.std.specs.Prelude.{◌≡◌, ℕ, ◌+◌, ◌<◌, ◌≤◌, Bool, true, false, nat_lt, List, [], ◌∷◌, ◌++◌, length, drop, Option, Some, None, Result, Ok, Err, MatchResult}
use Rattle.std.specs.List.{AllByRecursion}
use Rattle.dt_model.specs.Limits.{most_names}
use Rattle.dt_model.specs.Names.{Name}
use Rattle.dt_model.specs.Event.{Stack, stands}
use Rattle.dt_model.specs.Source.{Mode, Part, Reference, Place, block, delete_node, Refusal, Body, SoFar, referent, is_among, read}
use Rattle.dt_names.specs.declared.fault.Fault.{Fault}
use Rattle.dt_source_growing.specs.Shape.{Shape, node_at, Shows}
use Rattle.dt_source_growing.specs.Grown.{StandsUnder}
use Rattle.dt_source_growing.specs.Growing.{shape}
use Rattle.dt_source_bodies.specs.Refusals.{TellsRefusal}
use Rattle.dt_source_bodies.specs.declared.reading.OpenBody.{OpenBody}
use Rattle.dt_source_bodies.specs.declared.reading.Reading.{Reading}

-- the item is behind another
abbrev pub is_behind : ℕ → Option ℕ → Bool
is_behind item None = false
is_behind item (Some last) = nat_lt item last

-- the body of the node of these names, and what the items behind its opening have defined and opened in it
pub record IsBody (s : Shape (List Part)) (names : Stack) (open_body : OpenBody) (body : Body) : Type 0 where
  pub node : node_at s names ≡ Some open_body.node
  pub depth : open_body.depth ≡ length names
  pub children : (x : Name) → is_behind open_body.item (s.opened open_body.node x) ≡ is_among x body.children
  pub properties : (x : Name) → is_behind open_body.item (s.defined open_body.node x) ≡ is_among x body.properties

-- the open bodies, the innermost last, of nodes below a number, each above those inside it, and opened by items before another
abbrev pub AreOpen : Shape (List Part) → (below before : ℕ) → Stack → List OpenBody → List Body → Type 0
AreOpen s below before names bodies [] = bodies ≡ []
AreOpen s below before names bodies (b ∷ bs) =
    (outer : List OpenBody) × (inner : OpenBody) × (bodies ≡ outer ++ inner ∷ []) × (inner.node < below) × (inner.item < before) × IsBody s names inner b
    × AreOpen s inner.node before (drop 1 names) outer bs

-- the tree and the open bodies stand for what was read of so many items
pub record StandsFor (s : Shape (List Part)) (bodies : List OpenBody) (items : ℕ) (so_far : SoFar) : Type 0 where
  pub shows : Shows s so_far.events
  pub shallow : (p : Stack) → stands so_far.events p ≡ true → length p ≤ most_names
  pub open_bodies : AreOpen s s.size items so_far.node bodies so_far.bodies
  pub opened_before : (i : ℕ) (x : Name) (k : ℕ) → s.opened i x ≡ Some k → k < items
  pub defined_before : (i : ℕ) (x : Name) (k : ℕ) → s.defined i x ≡ Some k → k < items

abbrev pub Holds : Reading → ℕ → SoFar → Type 0
Holds r items so_far = StandsFor (shape r.growing) r.bodies.items items so_far

-- what is true of each reading
pub record IsWhole (r : Reading) : Type 0 where
  pub inside : AllByRecursion (λ b. b.node < length r.growing.nodes.items) r.bodies.items

-- the reading goes on as the definition of reading does
abbrev pub GoesOn : Result SoFar Refusal → Reading → ℕ → Type 0
GoesOn (Ok so_far) r items = Holds r items so_far
GoesOn (Err refusal) r items = ⊥

-- the reading does with the item of this number what a step of the definition does
abbrev pub Does : (SoFar → Result SoFar Refusal) → Reading → Reading → ℕ → Result (Unit {0}) Fault → Type 0
Does step old new item result =
    (so_far : SoFar) → Holds old item so_far → MatchResult result (λ _. GoesOn (step so_far) new (item + 1)) (TellsRefusal (step so_far))

-- what the definition does with what the item says
abbrev pub ReadsItem : Mode → Reading → Reading → ℕ → Place → Result (Unit {0}) Fault → Type 0
ReadsItem mode old new item place result =
    (so_far : SoFar) → Holds old item so_far → MatchResult result (λ _. GoesOn (read mode so_far place) new (item + 1)) (TellsRefusal (read mode so_far place))

-- where no body is open, the node to which a reference refers, with the number of its names; or why there is none
abbrev pub HasTarget : Reading → Reference → Result (ℕ × ℕ) Fault → Type 0
HasTarget r reference result = (so_far : SoFar) (items : ℕ) → Holds r items so_far → MatchResult result
    (λ target. (length r.bodies.items ≡ 0)
    × ((p : Stack) × (referent so_far.events reference ≡ Some p) × StandsUnder r.growing.nodes.items p target.0 × (target.1 ≡ length p)))
    (λ fault. (mode : Mode) → TellsRefusal (read mode so_far (block reference)) fault × TellsRefusal (read mode so_far (delete_node reference)) fault)
