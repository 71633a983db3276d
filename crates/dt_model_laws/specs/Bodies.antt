-- What is said once in one body: a property is defined, and a child opened, at most once between a body's opening and its
-- close, whatever is deleted in between.
use Rattle.std.specs.Prelude.{◌≡◌, ◌↔◌, List, [], ◌∷◌, ◌++◌, Ok, Err}
use Rattle.dt_model.specs.Names.{Name}
use Rattle.dt_model.specs.Lists.{IsIn}
use Rattle.dt_model.specs.Source.{Part, Place, root, block, delete_node, child, label, property, delete_property, delete_child, close, Mode, SoFar, nothing, read, read_all, duplicate_property, duplicate_node}

-- the place opens a body
abbrev pub IsOpener : Place → Type 0
IsOpener root = Unit {0}
IsOpener (block r) = Unit {0}
IsOpener (delete_node r) = ⊥
IsOpener (child n) = Unit {0}
IsOpener (label l) = ⊥
IsOpener (property n v) = ⊥
IsOpener (delete_property n) = ⊥
IsOpener (delete_child n) = ⊥
IsOpener close = ⊥

-- the place is in a body, and neither opens nor closes one
abbrev pub IsSimple : Place → Type 0
IsSimple root = ⊥
IsSimple (block r) = ⊥
IsSimple (delete_node r) = ⊥
IsSimple (child n) = ⊥
IsSimple (label l) = Unit {0}
IsSimple (property n v) = Unit {0}
IsSimple (delete_property n) = Unit {0}
IsSimple (delete_child n) = Unit {0}
IsSimple close = ⊥

-- Places inside a body, which close each body that they open; the second list has those that are the body's own, and not
-- inside another one.
pub data Inner : List Place → List Place → Type 0 where
  finished : Inner [] []
  next : (x : Place) (inner own : List Place) → IsSimple x → Inner inner own → Inner (x ∷ inner) (x ∷ own)
  nested : (n : Name) (inside its inner own : List Place) → Inner inside its → Inner inner own → Inner (child n ∷ (inside ++ close ∷ inner)) (child n ∷ own)

-- after the places a body is open, and these are the innermost one's own so far
pub record AreInnermost (places own : List Place) : Type 0 where
  pub before : List Place
  pub opener : Place
  pub inner : List Place
  pub split : places ≡ before ++ opener ∷ inner
  pub opens : IsOpener opener
  pub closed : Inner inner own

-- a property is refused as a second one exactly where the innermost open body has one of its name
abbrev pub SecondProperty : Type 0
SecondProperty = (mode : Mode) (places : List Place) (s : SoFar) → read_all mode nothing places ≡ Ok s → (n : Name) (v : List Part)
    → (read mode s (property n v) ≡ Err duplicate_property) ↔ ((own : List Place) × AreInnermost places own × ((w : List Part) × IsIn (property n w) own))

-- a child is refused as a second one exactly where the innermost open body has opened one of its name
abbrev pub SecondChild : Type 0
SecondChild = (mode : Mode) (places : List Place) (s : SoFar) → read_all mode nothing places ≡ Ok s → (n : Name)
    → (read mode s (child n) ≡ Err duplicate_node) ↔ ((own : List Place) × AreInnermost places own × IsIn (child n) own)
