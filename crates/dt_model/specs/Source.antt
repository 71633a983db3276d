-- What a source means (Devicetree Specification v0.4, chapter 6): its places in the order of its text, the event that
-- each one adds to those before it, or its refusal, and the meaning of the events.
use Rattle.std.specs.Prelude.{◌≡◌, ◌≢◌, ℕ, ◌<◌, Bool, true, false, ◌&&◌, ◌||◌, List, [], ◌∷◌, ◌++◌, length, Option, Some, None, Result, Ok, Err, option_map, option_and_then, is_some, IsSome, map, drop, reverse, nat_le, if◌then◌else◌, codes}
use Rattle.std.specs.List.{AllByRecursion, list_any}
use Rattle.std.specs.Option.{option_map_or}
use Rattle.std.specs.Int.{w32, from_be_bytes}
use Rattle.std.specs.Str.{bytes_eq}
use Rattle.dt_model.specs.Limits.{most_names}
use Rattle.dt_model.specs.Names.{Name, IsNodeName, IsPropertyName, IsLabel}
use Rattle.dt_model.specs.Path.{Path, path_eq, path_value, is_bookkeeping_name}
use Rattle.dt_model.specs.Meaning.{Item, byte, reference, Meaning}
use Rattle.dt_model.specs.Event.{Stack, Event, opening, giving, definition, undefinition, deletion, last_where, stands, value_at, names}

-- ---- the places of a source

-- a node as a source refers to it: by a label, or by a path
pub data Reference : Type 0 where
  by_label : Name → Reference
  by_path : Path → Reference

-- a part of a value: a byte; in a cell list a reference, which is the node's number as one cell; outside one a
-- reference, which is the node's path text with its NUL
pub data Part : Type 0 where
  one : ℕ → Part
  number_of : Reference → Part
  text_of : Reference → Part

-- a place of a source's text that says something of the tree
pub data Place : Type 0 where
  -- `/ {`
  root : Place
  -- `&label {` or `&{/path} {`
  block : Reference → Place
  -- `/delete-node/ &label;` or `/delete-node/ &{/path};` at top level
  delete_node : Reference → Place
  -- `name {`
  child : Name → Place
  -- a label of the body that was just opened
  label : Name → Place
  -- `name;` or `name = value;`
  property : Name → List Part → Place
  -- `/delete-property/ name;`
  delete_property : Name → Place
  -- `/delete-node/ name;` in a body
  delete_child : Name → Place
  -- `};`
  close : Place

-- a reference's label is a label, and the names of its path are names
abbrev pub IsReference : Reference → Type 0
IsReference (by_label l) = IsLabel l
IsReference (by_path p) = AllByRecursion IsNodeName p

abbrev pub IsPart : Part → Type 0
IsPart (one b) = b < 256
IsPart (number_of r) = IsReference r
IsPart (text_of r) = IsReference r

-- the names at a place are names, and its bytes are bytes
abbrev pub IsPlace : Place → Type 0
IsPlace root = Unit {0}
IsPlace (block r) = IsReference r
IsPlace (delete_node r) = IsReference r
IsPlace (child n) = IsNodeName n
IsPlace (label l) = IsLabel l
IsPlace (property n v) = IsPropertyName n × AllByRecursion IsPart v
IsPlace (delete_property n) = IsPropertyName n
IsPlace (delete_child n) = IsNodeName n
IsPlace close = Unit {0}

-- ---- what each place does

-- a base may not have the bookkeeping nodes; a raw source may
pub data Mode : Type 0 where
  base : Mode
  raw : Mode

-- why a place is refused
pub data Refusal : Type 0 where
  -- a property is defined a second time in one body
  duplicate_property : Refusal
  -- a child is opened a second time in one body
  duplicate_node : Refusal
  -- a label that names another node is given
  duplicate_label : Refusal
  -- the reference of a block or a deletion names no node, or the deletion the root
  no_such_target : Refusal
  -- a base opens a bookkeeping node
  reserved_name : Refusal
  -- a node with more than 64 names in its path is opened
  too_deep : Refusal
  -- a body is open where none may be, or none is where one must be
  misplaced : Refusal

abbrev pub Events : Type 0
Events = List (Event (List Part))

-- the event gives this label to some node
abbrev pub gives_label : Name → Event (List Part) → Bool
gives_label l (opening q) = false
gives_label l (giving k q) = bytes_eq k l
gives_label l (definition q n v) = false
gives_label l (undefinition q n) = false
gives_label l (deletion q) = false

-- the node of an event
abbrev pub node_of : Event (List Part) → Stack
node_of (opening q) = q
node_of (giving k q) = q
node_of (definition q n v) = q
node_of (undefinition q n) = q
node_of (deletion q) = q

-- the node that the label names after the events
abbrev pub labelled : Events → Name → Option Stack
labelled es l = option_map node_of (last_where (λ e. gives_label l e && names es l (node_of e)) es)

-- the node that a reference names after the events
abbrev pub referent : Events → Reference → Option Stack
referent es (by_label l) = labelled es l
referent es (by_path p) = if stands es (reverse p) then Some (reverse p) else None

-- what an open body has defined and opened so far
pub record Body : Type 0 where
  pub properties : List Name
  pub children : List Name

-- what was read so far: the events, the node of the innermost open body, and the open bodies, the innermost first
pub record SoFar : Type 0 where
  pub events : Events
  pub node : Stack
  pub bodies : List Body

-- the name is among the names
abbrev pub is_among : Name → List Name → Bool
is_among x xs = list_any (bytes_eq x) xs

-- nothing was read
abbrev pub nothing : SoFar
nothing = record { events = []; node = []; bodies = [] }

-- one more event, in the same body
abbrev pub and_then : SoFar → Event (List Part) → SoFar
and_then s e = record { events = s.events ++ e ∷ []; node = s.node; bodies = s.bodies }

-- the body of a node is opened, inside those that are open
abbrev pub enter : SoFar → Stack → List Body → SoFar
enter s p bodies = record { events = s.events ++ opening p ∷ []; node = p; bodies = (record { properties = []; children = [] }) ∷ bodies }

-- at top level
abbrev pub outside : List Body → Result SoFar Refusal → Result SoFar Refusal
outside [] answer = answer
outside (b ∷ bs) answer = Err misplaced

-- in a body
abbrev pub inside : List Body → (Body → List Body → Result SoFar Refusal) → Result SoFar Refusal
inside [] answer = Err misplaced
inside (b ∷ bs) answer = answer b bs

-- the node is deleted by a reference; the root can't be
abbrev pub delete_at : SoFar → Stack → Result SoFar Refusal
delete_at s [] = Err no_such_target
delete_at s (x ∷ p) = Ok (and_then s (deletion (x ∷ p)))

-- a child of the root with a name that a base may not use
abbrev pub is_reserved : Mode → Stack → Name → Bool
is_reserved base [] n = is_bookkeeping_name n
is_reserved base (x ∷ p) n = false
is_reserved raw p n = false

-- a child is opened in a body
abbrev pub open_child : Mode → SoFar → Name → Body → List Body → Result SoFar Refusal
open_child mode s n b bs =
    if is_reserved mode s.node n then Err reserved_name
    else (if is_among n b.children then Err duplicate_node
    else (if nat_le most_names (length s.node) then Err too_deep
    else Ok (enter s (n ∷ s.node) ((record { properties = b.properties; children = n ∷ b.children }) ∷ bs))))

-- a property is defined in a body
abbrev pub define : SoFar → Name → List Part → Body → List Body → Result SoFar Refusal
define s n v b bs =
    if is_among n b.properties then Err duplicate_property
    else Ok (record {
      events = s.events ++ definition s.node n v ∷ [];
      node = s.node;
      bodies = (record { properties = n ∷ b.properties; children = b.children }) ∷ bs;
    })

-- what a place does to what was read so far
abbrev pub read : Mode → SoFar → Place → Result SoFar Refusal
read mode s root = outside s.bodies (Ok (enter s [] []))
read mode s (block r) = outside s.bodies (option_map_or (λ p. Ok (enter s p [])) (referent s.events r) (Err no_such_target))
read mode s (delete_node r) = outside s.bodies (option_map_or (delete_at s) (referent s.events r) (Err no_such_target))
read mode s (child n) = inside s.bodies (open_child mode s n)
read mode s (label l) = inside s.bodies (λ b bs.
    if option_map_or (λ p. path_eq p s.node) (labelled s.events l) true then Ok (and_then s (giving l s.node)) else Err duplicate_label)
read mode s (property n v) = inside s.bodies (define s n v)
read mode s (delete_property n) = inside s.bodies (λ b bs. Ok (and_then s (undefinition s.node n)))
read mode s (delete_child n) = inside s.bodies (λ b bs. Ok (and_then s (deletion (n ∷ s.node))))
read mode s close = inside s.bodies (λ b bs. Ok (record { events = s.events; node = drop 1 s.node; bodies = bs }))

abbrev pub and_if_read : Result SoFar Refusal → (SoFar → Result SoFar Refusal) → Result SoFar Refusal
and_if_read (Ok s) next = next s
and_if_read (Err refusal) next = Err refusal

-- what places do, one after another, up to the first refusal
abbrev pub read_all : Mode → SoFar → List Place → Result SoFar Refusal
read_all mode s [] = Ok s
read_all mode s (i ∷ is) = and_if_read (read mode s i) (λ t. read_all mode t is)

-- ---- what the events mean

-- what a part means after the events, if its reference names a node
abbrev pub bound : Events → Part → Option (List (Item Path))
bound es (one b) = Some (byte b ∷ [])
bound es (number_of r) = option_map (λ p. reference (reverse p) ∷ []) (referent es r)
bound es (text_of r) = option_map (λ p. map byte (path_value (reverse p))) (referent es r)

-- what a value means after the events, if each of its references names a node
abbrev pub all_bound : Events → List Part → Option (List (Item Path))
all_bound es [] = Some []
all_bound es (x ∷ xs) = option_and_then (λ items. option_map (λ others. items ++ others) (all_bound es xs)) (bound es x)

-- the number that a property `phandle` writes: four bytes, no reference, from 1 to 0xfffffffe (2.3.3)
abbrev pub in_range : ℕ → Option ℕ
in_range n = if nat_le 1 n && nat_le n 0xfffffffe then Some n else None

abbrev pub number_of_parts : List Part → Option ℕ
number_of_parts (one a ∷ one b ∷ one c ∷ one d ∷ []) = in_range (from_be_bytes w32 (a ∷ b ∷ c ∷ d ∷ []))
number_of_parts _ = None

-- the value holds the number of this node
abbrev pub refers : Events → Stack → List Part → Bool
refers es p [] = false
refers es p (one b ∷ xs) = refers es p xs
refers es p (number_of r ∷ xs) = option_map_or (path_eq p) (referent es r) false || refers es p xs
refers es p (text_of r ∷ xs) = refers es p xs

-- the property of this event, as it is after all events, refers to the node
abbrev pub refers_there : Events → Stack → Event (List Part) → Bool
refers_there es p (opening q) = false
refers_there es p (giving l q) = false
refers_there es p (definition q n v) = option_map_or (refers es p) (value_at es q n) false
refers_there es p (undefinition q n) = false
refers_there es p (deletion q) = false

-- the event gives a label that names the node after all events
abbrev pub labels_there : Events → Stack → Event (List Part) → Bool
labels_there es p (opening q) = false
labels_there es p (giving l q) = names es l p
labels_there es p (definition q n v) = false
labels_there es p (undefinition q n) = false
labels_there es p (deletion q) = false

-- the number that is written in the node
abbrev pub written_number : Events → Stack → Option ℕ
written_number es p = option_and_then number_of_parts (value_at es p (codes "phandle"))

-- the meaning of events, with these reservations
abbrev pub meaning_of : List (ℕ × ℕ) → Events → Meaning
meaning_of reservations es = record {
  reservations = reservations;
  stands = λ p. stands es (reverse p);
  value = λ p n. if bytes_eq n (codes "phandle") then None else option_and_then (all_bound es) (value_at es (reverse p) n);
  number = λ p. written_number es (reverse p);
  label = λ l. option_map reverse (labelled es l);
  keyed = λ p. is_some (written_number es (reverse p)) || list_any (labels_there es (reverse p)) es || list_any (refers_there es (reverse p)) es;
}

-- what is asked of the values that are left after the last event
pub record IsResolved (es : Events) : Type 0 where
  -- each reference names a node
  pub bound_to : (p : Stack) (n : Name) (v : List Part) → value_at es p n ≡ Some v → IsSome (all_bound es v)
  -- each `phandle` writes a number
  pub numbered : (p : Stack) (v : List Part) → value_at es p (codes "phandle") ≡ Some v → IsSome (number_of_parts v)
  -- no two nodes have one number
  pub own : (p q : Stack) (n : ℕ) → written_number es p ≡ Some n → written_number es q ≡ Some n → p ≡ q

-- the places of a source mean this: none is refused, no body is left open, and the values are as they have to be
pub record SourceMeans (mode : Mode) (reservations : List (ℕ × ℕ)) (places : List Place) (m : Meaning) : Type 0 where
  pub so_far : SoFar
  pub all_read : read_all mode nothing places ≡ Ok so_far
  pub closed : so_far.bodies ≡ []
  pub resolved : IsResolved so_far.events
  pub means : m ≡ meaning_of reservations so_far.events

-- ---- why places that are all read mean nothing

pub data LateRefusal : Type 0 where
  -- a reference names no node
  unresolved : LateRefusal
  -- a `phandle` writes no number
  bad_phandle : LateRefusal
  -- two nodes write one number
  duplicate_phandle : LateRefusal

-- a reference that is left names no node
abbrev pub HasUnresolved : Events → Type 0
HasUnresolved es = (p : Stack) × (n : Name) × (v : List Part) × (value_at es p n ≡ Some v) × (all_bound es v ≡ None)

-- a `phandle` that is left writes no number
abbrev pub HasBadPhandle : Events → Type 0
HasBadPhandle es = (p : Stack) × (v : List Part) × (value_at es p (codes "phandle") ≡ Some v) × (number_of_parts v ≡ None)

-- two nodes that are left write one number
abbrev pub HasDuplicatePhandle : Events → Type 0
HasDuplicatePhandle es = (p q : Stack) × (n : ℕ) × (p ≢ q) × (written_number es p ≡ Some n) × (written_number es q ≡ Some n)

-- the first of these that holds
abbrev pub IsLateRefusal : Events → LateRefusal → Type 0
IsLateRefusal es unresolved = HasUnresolved es
IsLateRefusal es bad_phandle = ¬ HasUnresolved es × HasBadPhandle es
IsLateRefusal es duplicate_phandle = ¬ HasUnresolved es × ¬ HasBadPhandle es × HasDuplicatePhandle es
