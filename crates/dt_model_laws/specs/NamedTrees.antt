-- What is true of the named trees that sources mean, and of their instances.
use Rattle.std.specs.Prelude.{◌≡◌, ℕ, ◌+◌, ◌<◌, ◌≤◌, ◌++◌, true, List, [], length, map, Option, Ok}
use Rattle.std.specs.List.{AllByRecursion}
use Rattle.std.specs.Int.{w32, from_be_bytes}
use Rattle.dt_model.specs.Limits.{most_names, most_nodes}
use Rattle.dt_model.specs.Event.{Stack, stands}
use Rattle.dt_model.specs.Source.{Place, IsPlace, Mode, SoFar, nothing, read_all}
use Rattle.dt_model.specs.Valid.{AreDistinct, IsReservation, IsValid, IsWithinLimits, phandle_values, phandles}
use Rattle.dt_model.specs.Numbers.{IsLeastFree}
use Rattle.dt_model.specs.Numbering.{IsNumbering}
use Rattle.dt_model.specs.Named.{NodeReference, Named, list_of, tree_of, node_count}
use Rattle.dt_model.specs.NamedOf.{IsNamed, IsNamedOf, asked_in}
use Rattle.dt_model.specs.Instance.{instance_of, symbols_of, added, IsInstanceOf, IsTreeOf}
use Rattle.dt_model.specs.Refused.{StandMany, SourceRefusal, IsRefusedFor}

-- no node has more than 64 names in its path
abbrev pub NodesAreShallow : Type 0
NodesAreShallow = (mode : Mode) (places : List Place) (s : SoFar) → read_all mode nothing places ≡ Ok s
    → (p : Stack) → stands s.events p ≡ true → length p ≤ most_names

-- after the places of a source, which has one at least, there is a root
abbrev pub RootStands : Type 0
RootStands = (mode : Mode) (places : List Place) (s : SoFar) → 0 < length places → read_all mode nothing places ≡ Ok s → stands s.events [] ≡ true

-- the list of a tree is of that tree
abbrev pub ListIsOfItsTree : Type 0
ListIsOfItsTree = (t : Named NodeReference) → tree_of (record { reservations = t.reservations; nodes = list_of t }) ≡ t

-- a tree that places mean is one that a source may mean, where it isn't too large
abbrev pub MeantIsNamed : Type 0
MeantIsNamed = (mode : Mode) (reservations : List (ℕ × ℕ)) (places : List Place) (t : Named NodeReference)
    → 0 < length places → AllByRecursion IsPlace places → AllByRecursion IsReservation reservations
    → 1 + node_count t.children ≤ most_nodes → IsNamedOf mode reservations places t → IsNamed t

-- where it is too large, too many nodes stand
abbrev pub ManyStand : Type 0
ManyStand = (mode : Mode) (reservations : List (ℕ × ℕ)) (places : List Place) (t : Named NodeReference)
    → most_nodes < 1 + node_count t.children → (n : IsNamedOf mode reservations places t) → StandMany most_nodes n.means.so_far.events

-- a blob may hold the instance of a named tree, within the limits, and no two of its phandles have one number
abbrev pub InstanceIsValid : Type 0
InstanceIsValid = (t : Named NodeReference) (numbers : List (Option ℕ)) → IsNamed t → IsNumbering (asked_in t) numbers
    → IsValid (instance_of numbers t) × IsWithinLimits (instance_of numbers t)
    × AreDistinct (map (from_be_bytes w32) (phandle_values (instance_of numbers t).properties ++ phandles (instance_of numbers t).children))

-- the instance of the named tree that places mean is the instance of their meaning
abbrev pub InstanceIsMeant : Type 0
InstanceIsMeant = (mode : Mode) (reservations : List (ℕ × ℕ)) (places : List Place) (t : Named NodeReference) (numbers : List (Option ℕ))
    → 0 < length places → AllByRecursion IsPlace places → AllByRecursion IsReservation reservations
    → IsNamedOf mode reservations places t → IsNamed t → IsNumbering (asked_in t) numbers
    → IsInstanceOf mode reservations places (instance_of numbers t)

-- with its labels it is the tree that they are compiled to
abbrev pub TreeIsMeant : Type 0
TreeIsMeant = (mode : Mode) (reservations : List (ℕ × ℕ)) (places : List Place) (t : Named NodeReference) (numbers : List (Option ℕ))
    → 0 < length places → AllByRecursion IsPlace places → AllByRecursion IsReservation reservations
    → IsNamedOf mode reservations places t → IsNamed t → IsNumbering (asked_in t) numbers
    → IsTreeOf mode reservations places (added mode (symbols_of t) (instance_of numbers t))

-- the least free number isn't above the count of those that are taken and one more
abbrev pub LeastIsLow : Type 0
LeastIsLow = (taken : List ℕ) (n : ℕ) → IsLeastFree taken n → n ≤ length taken + 1

-- a source that means a named tree is refused for nothing but the number of its nodes, and not for that where they are few
abbrev pub NamedIsNotRefused : Type 0
NamedIsNotRefused = (mode : Mode) (reservations : List (ℕ × ℕ)) (places : List Place) (t : Named NodeReference) (r : SourceRefusal)
    → IsNamedOf mode reservations places t → 1 + node_count t.children ≤ most_nodes → IsRefusedFor mode places r → ⊥
