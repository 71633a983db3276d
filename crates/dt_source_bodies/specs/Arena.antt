-- What the tree of an overlay borrows: names of new fragments.
use Rattle.std.specs.Prelude.{◌≡◌, ℕ, ◌+◌, List, [], ◌∷◌, length, drop, None, Result, Ok, Err, MatchResult}
use Rattle.dt_model.specs.Names.{Name}
use Rattle.dt_model.specs.Source.{Reference, Place, root, block, delete_node, child, label, property, delete_property, delete_child, close}
use Rattle.dt_model.specs.OverlaySource.{root_children, OverlayRefusal, OverlaySoFar, read_overlay, read_overlays, overlay_start}
use Rattle.dt_names.specs.declared.fault.Fault.{Fault}
use Rattle.dt_source_fragments.specs.FragmentNames.{made_names, texts}
use Rattle.dt_source_bodies.specs.OverlayReading.{TellsOverlayRefusal}
use Rattle.dt_source_bodies.specs.Reading.{Holds}
use Rattle.dt_source_bodies.specs.declared.arena.Arena.{Arena}
use Rattle.dt_source_bodies.specs.declared.reading.Reading.{Reading}

-- the references of the blocks
abbrev pub block_references : List Place → List Reference
block_references [] = []
block_references (block r ∷ places) = r ∷ block_references places
block_references (root ∷ places) = block_references places
block_references (delete_node r ∷ places) = block_references places
block_references (child n ∷ places) = block_references places
block_references (label l ∷ places) = block_references places
block_references (property n v ∷ places) = block_references places
block_references (delete_property n ∷ places) = block_references places
block_references (delete_child n ∷ places) = block_references places
block_references (close ∷ places) = block_references places

-- there is a name for each block, in the order in which new fragments get them
abbrev pub IsArena : List Place → Arena → Type 0
IsArena places arena = texts arena.names.items ≡ made_names (root_children None places) (length (block_references places)) 0

-- what is left for these places, where the next number is this one
pub record IsLeft (written : List Name) (arena : Arena) (used : ℕ) (next : ℕ) (places : List Place) : Type 0 where
  pub spare : ℕ
  pub names : drop used (texts arena.names.items) ≡ made_names written (length (block_references places) + spare) next

-- something is left for this place
abbrev pub IsSomeLeft : Arena → ℕ → Place → Type 0
IsSomeLeft arena used place = (written : List Name) × (next : ℕ) × (rest : List Place) × IsLeft written arena used next (place ∷ rest)

-- the reading goes on as the definition does, and something is left for the places behind
abbrev pub GoesOnWith : List Name → Result OverlaySoFar OverlayRefusal → Reading → ℕ → Arena → ℕ → List Place → Type 0
GoesOnWith written (Ok s) r items arena used rest = Holds r items s.source × IsLeft written arena used s.next rest
GoesOnWith written (Err refusal) r items arena used rest = ⊥

-- the reading does with an item what the definition does with what it says
abbrev pub ItemFollows : Reading → Reading → ℕ → Place → Arena → ℕ → Result ℕ Fault → Type 0
ItemFollows old new item place arena used result =
    (written : List Name) (s : OverlaySoFar) (rest : List Place) → Holds old item s.source → IsLeft written arena used s.next (place ∷ rest) →
    MatchResult result (λ more. GoesOnWith written (read_overlay written s place) new (item + 1) arena more rest)
    (TellsOverlayRefusal (read_overlay written s place))

-- what is read of the places of an overlay's source
abbrev pub all_overlay : List Place → Result OverlaySoFar OverlayRefusal
all_overlay places = read_overlays (root_children None places) overlay_start places
