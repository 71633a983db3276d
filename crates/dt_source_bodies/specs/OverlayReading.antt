-- What reading an overlay's items has to do with the definition.
use Rattle.std.specs.Prelude.{◌≡◌, ◌⊎◌, ℕ, ◌+◌, Bool, cond, List, length, None, Result, Ok, Err, MatchResult}
use Rattle.dt_model.specs.Names.{Name}
use Rattle.dt_model.specs.Source.{Reference, Place, block, root, delete_node, child, label, property, delete_property, delete_child, close}
use Rattle.dt_model.specs.OverlaySource.{fragment_name, free_from, OverlayRefusal, OverlaySoFar, read_overlay}
use Rattle.dt_names.specs.declared.fault.Fault.{Fault}
use Rattle.dt_names.specs.declared.fault.FaultKind.TheVariants.{NoMemory}
use Rattle.dt_source_bodies.specs.Reading.{Holds}
use Rattle.dt_source_bodies.specs.Refusals.{overlay_kind}
use Rattle.dt_source_bodies.specs.declared.reading.Reading.{Reading}

-- a fault without a place: memory was refused, or it is the refusal
abbrev pub TellsOverlayRefusal : Result OverlaySoFar OverlayRefusal → Fault → Type 0
TellsOverlayRefusal outcome fault =
    (fault.at ≡ None) × ((fault.kind ≡ NoMemory) ⊎ ((r : OverlayRefusal) × (outcome ≡ Err r) × (fault.kind ≡ overlay_kind r)))

-- the reading goes on as the definition does, to this least number of a new fragment
abbrev pub OverlayGoesOn : Result OverlaySoFar OverlayRefusal → Reading → (items next : ℕ) → Type 0
OverlayGoesOn (Ok s) r items next = Holds r items s.source × (s.next ≡ next)
OverlayGoesOn (Err refusal) r items next = ⊥

-- the reading does with an item that opens no fragment what the definition does with what it says
abbrev pub OverlayFollows : Reading → Reading → ℕ → Place → Result (Unit {0}) Fault → Type 0
OverlayFollows old new item place result =
    (written : List Name) (s : OverlaySoFar) → Holds old item s.source → MatchResult result
    (λ _. OverlayGoesOn (read_overlay written s place) new (item + 1) s.next)
    (TellsOverlayRefusal (read_overlay written s place))

-- the first number that a new fragment may have
abbrev pub free_number : List Name → OverlaySoFar → ℕ
free_number written s = free_from written (length written) s.next

-- The reading does with a block what the definition does, where a new fragment gets this name; the result is whether one was opened.
abbrev pub BlockFollows : Reading → Reading → ℕ → Reference → Name → Result Bool Fault → Type 0
BlockFollows old new item reference name result =
    (written : List Name) (s : OverlaySoFar) → Holds old item s.source → name ≡ fragment_name (free_number written s) →
    MatchResult result (λ made. OverlayGoesOn (read_overlay written s (block reference)) new (item + 1) (cond made (free_number written s + 1) s.next))
    (TellsOverlayRefusal (read_overlay written s (block reference)))

-- the place isn't a block
abbrev pub IsNoBlock : Place → Type 0
IsNoBlock (block r) = ⊥
IsNoBlock root = Unit {0}
IsNoBlock (delete_node r) = Unit {0}
IsNoBlock (child n) = Unit {0}
IsNoBlock (label l) = Unit {0}
IsNoBlock (property n v) = Unit {0}
IsNoBlock (delete_property n) = Unit {0}
IsNoBlock (delete_child n) = Unit {0}
IsNoBlock close = Unit {0}
