-- What the text of a source does, one event after another (Devicetree Specification v0.4, chapter 6), and what stands
-- after a list of events. No tree is merged here: each answer is read off the last of the events that bear on it.
use Rattle.std.specs.Prelude.{ℕ, Bool, true, false, ◌||◌, ◌&&◌, List, [], ◌∷◌, length, Option, None, Some, cond}
use Rattle.std.specs.Option.{option_or}
use Rattle.std.specs.List.{list_any}
use Rattle.std.specs.Str.{bytes_eq}
use Rattle.dt_model.specs.Names.{Name}
use Rattle.dt_model.specs.Path.{path_eq}

-- The names from a node up to a child of the root, the node's own name first, as the open bodies of a text lie on one
-- another; the root's is []. It is the node's path the other way round.
abbrev pub Stack : Type 0
Stack = List Name

-- what one place of the text does; V is what a property may hold
pub data Event (V : Type 0) : Type 0 where
  -- the node is opened
  opening : Stack → Event V
  -- the label is given to the node
  giving : Name → Stack → Event V
  -- the node's property is defined
  definition : Stack → Name → V → Event V
  -- the node's property is deleted
  undefinition : Stack → Name → Event V
  -- the node is deleted
  deletion : Stack → Event V

-- the second node is the first one or lies below it
abbrev pub is_within : Stack → Stack → Bool
is_within q [] = path_eq q []
is_within q (x ∷ p) = path_eq q (x ∷ p) || is_within q p

module _ {V : Type 0} where
  -- the event deletes the node or a node above it
  abbrev pub takes : Stack → Event V → Bool
  takes p (opening q) = false
  takes p (giving l q) = false
  takes p (definition q n v) = false
  takes p (undefinition q n) = false
  takes p (deletion q) = is_within q p

  -- the event opens the node
  abbrev pub opens : Stack → Event V → Bool
  opens p (opening q) = path_eq q p
  opens p (giving l q) = false
  opens p (definition q n v) = false
  opens p (undefinition q n) = false
  opens p (deletion q) = false

  -- the event gives the label to the node
  abbrev pub gives : Name → Stack → Event V → Bool
  gives l p (opening q) = false
  gives l p (giving k q) = bytes_eq k l && path_eq q p
  gives l p (definition q n v) = false
  gives l p (undefinition q n) = false
  gives l p (deletion q) = false

  -- the event defines the node's property
  abbrev pub defines : Stack → Name → Event V → Bool
  defines p n (opening q) = false
  defines p n (giving k q) = false
  defines p n (definition q m v) = path_eq q p && bytes_eq m n
  defines p n (undefinition q m) = false
  defines p n (deletion q) = false

  -- the event deletes the node's property, the node or a node above it
  abbrev pub drops : Stack → Name → Event V → Bool
  drops p n (opening q) = false
  drops p n (giving k q) = false
  drops p n (definition q m v) = false
  drops p n (undefinition q m) = path_eq q p && bytes_eq m n
  drops p n (deletion q) = is_within q p

  -- the last of the events that pass the test
  abbrev pub last_where : (Event V → Bool) → List (Event V) → Option (Event V)
  last_where test [] = None
  last_where test (e ∷ es) = option_or (last_where test es) (cond (test e) (Some e) None)

  -- the event is an opening
  abbrev pub is_opening : Option (Event V) → Bool
  is_opening None = false
  is_opening (Some (opening p)) = true
  is_opening (Some (giving l p)) = false
  is_opening (Some (definition p n v)) = false
  is_opening (Some (undefinition p n)) = false
  is_opening (Some (deletion p)) = false

  -- the event gives a label
  abbrev pub is_giving : Option (Event V) → Bool
  is_giving None = false
  is_giving (Some (opening p)) = false
  is_giving (Some (giving l p)) = true
  is_giving (Some (definition p n v)) = false
  is_giving (Some (undefinition p n)) = false
  is_giving (Some (deletion p)) = false

  -- what the event defines
  abbrev pub defined : Option (Event V) → Option V
  defined None = None
  defined (Some (opening p)) = None
  defined (Some (giving l p)) = None
  defined (Some (definition p n v)) = Some v
  defined (Some (undefinition p n)) = None
  defined (Some (deletion p)) = None

  -- after the events the node stands: the last of its openings and of the deletions of it or of a node above it is an opening
  abbrev pub stands : List (Event V) → Stack → Bool
  stands es p = is_opening (last_where (λ e. opens p e || takes p e) es)

  -- after the events the property has this value: the last of its definitions, its deletions and the deletions of its
  -- node or of a node above it is that definition
  abbrev pub value_at : List (Event V) → Stack → Name → Option V
  value_at es p n = defined (last_where (λ e. defines p n e || drops p n e) es)

  -- after the events the label names the node: it was given to it, and no deletion of it or of a node above it followed
  abbrev pub names : List (Event V) → Name → Stack → Bool
  names es l p = is_giving (last_where (λ e. gives l p e || takes p e) es)

  -- ---- order

  -- what follows the last event that passes the test; all, where none does
  abbrev pub since : (Event V → Bool) → List (Event V) → List (Event V)
  since test [] = []
  since test (e ∷ es) = cond (list_any test es) (since test es) (cond (test e) es (e ∷ es))

  -- from the first event that passes the test on
  abbrev pub from_first : (Event V → Bool) → List (Event V) → List (Event V)
  from_first test [] = []
  from_first test (e ∷ es) = cond (test e) (e ∷ es) (from_first test es)

  -- how many events there are from the first that starts on, after the last that resets
  unfoldable pub age_by : (starts resets : Event V → Bool) → List (Event V) → ℕ
  age_by starts resets es = length (from_first starts (since resets es))

  -- from the node's first opening on that follows the last deletion of it or of a node above it
  abbrev pub age : List (Event V) → Stack → ℕ
  age es p = age_by (opens p) (takes p) es

  -- from the property's first definition on that follows the last deletion that took it
  abbrev pub property_age : List (Event V) → Stack → Name → ℕ
  property_age es p n = age_by (defines p n) (drops p n) es

  -- from the label's first giving to the node on that follows the last deletion of it or of a node above it
  abbrev pub label_age : List (Event V) → Name → Stack → ℕ
  label_age es l p = age_by (gives l p) (takes p) es
