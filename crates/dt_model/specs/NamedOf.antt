-- The named tree that a source means, and what is true of each.
use Rattle.std.specs.Prelude.{◌≡◌, ℕ, zero, suc, ◌+◌, ◌<◌, ◌≤◌, Bool, false, ◌||◌, List, [], ◌∷◌, map, length, Option, Some, is_some, IsSome, option_map, option_and_then, reverse, nat_eq, nat_lt, codes}
use Rattle.std.specs.List.{AllByRecursion, list_any, flat_map}
use Rattle.std.specs.Option.{option_to_list}
use Rattle.dt_model.specs.Limits.{most_names, most_nodes}
use Rattle.dt_model.specs.Names.{Name, IsNodeName, IsPropertyName, IsLabel}
use Rattle.dt_model.specs.Path.{Path}
use Rattle.dt_model.specs.Meaning.{Item, byte, reference, item_renamed, EachReference, AreBytes, Meaning}
use Rattle.dt_model.specs.Numbering.{Asked}
use Rattle.dt_model.specs.Ordered.{IsNamedInOrder}
use Rattle.dt_model.specs.Overlay.{OverlayReference, inside, outside, reference_renamed}
use Rattle.dt_model.specs.Source.{Events, Place, Mode, all_bound, SourceMeans}
use Rattle.dt_model.specs.Event.{stands, value_at}
use Rattle.dt_model.specs.Valid.{AreDistinct, IsReservation}
use Rattle.dt_model.specs.Named.{NodeReference, NamedProperty, Content, NamedForest, no_nodes, branch, Named, NamedPlaced, node_at, content_in, value_of, number_of, written_in, names, node_count, nodes_of, paths_of}

-- ---- references

-- the path of the node of a number
abbrev pub path_among : List Path → ℕ → Path
path_among [] k = []
path_among (p ∷ ps) zero = p
path_among (p ∷ ps) (suc k) = path_among ps k

-- a value with the paths of the nodes to which it refers
abbrev pub meant : Named NodeReference → List (Item NodeReference) → List (Item OverlayReference)
meant t value = map (item_renamed (reference_renamed (path_among (paths_of t)))) value

-- ---- which nodes are keyed

abbrev pub refers_to : ℕ → Item NodeReference → Bool
refers_to k (byte b) = false
refers_to k (reference (inside j)) = nat_eq j k
refers_to k (reference (outside l)) = false

-- a value of the node refers to node k
abbrev pub has_reference_to : ℕ → Content NodeReference → Bool
has_reference_to k c = list_any (λ (p : NamedProperty NodeReference). list_any (refers_to k) p.value) c.properties

-- what node k asks for, among nodes that have these
abbrev pub asked : List (Content NodeReference) → ℕ → Content NodeReference → Asked
asked all k c = record {
  written = written_in c;
  keyed = is_some (written_in c) || nat_lt 0 (length c.labels) || list_any (has_reference_to k) all;
}

-- the same of the nodes from number k on
abbrev pub asked_from : List (Content NodeReference) → ℕ → List (Content NodeReference) → List Asked
asked_from all k [] = []
asked_from all k (c ∷ cs) = asked all k c ∷ asked_from all (suc k) cs

-- what the nodes have, in preorder
abbrev pub contents_of : Named NodeReference → List (Content NodeReference)
contents_of t = map (λ (n : NamedPlaced NodeReference). n.content) (nodes_of t)

-- what the nodes ask for, in preorder
abbrev pub asked_in : Named NodeReference → List Asked
asked_in t = asked_from (contents_of t) 0 (contents_of t)

-- ---- what is true of each named tree

-- the reference is to a node below the given number, or by a label
abbrev pub IsBelow : ℕ → NodeReference → Type 0
IsBelow nodes (inside k) = k < nodes
IsBelow nodes (outside l) = IsLabel l

-- so are those of the values
abbrev pub RefersBelow : ℕ → Content NodeReference → Type 0
RefersBelow nodes c = AllByRecursion (λ (p : NamedProperty NodeReference). EachReference (IsBelow nodes) p.value) c.properties

-- The labels are labels; properties have names, no two the same; values refer to nodes below the given number, and their
-- bytes are bytes; a property `phandle` writes a number.
pub record IsContent (nodes : ℕ) (c : Content NodeReference) : Type 0 where
  pub labels : AllByRecursion IsLabel c.labels
  pub named : AllByRecursion (λ (p : NamedProperty NodeReference). IsPropertyName p.name) c.properties
  pub distinct : AreDistinct (map (λ (p : NamedProperty NodeReference). p.name) c.properties)
  pub bytes : AllByRecursion (λ (p : NamedProperty NodeReference). AreBytes p.value) c.properties
  pub referred : RefersBelow nodes c
  pub numbered : (value : List (Item NodeReference)) → value_of c.properties (codes "phandle") ≡ Some value → IsSome (number_of value)

-- names are names, siblings differ in them, and no node is deeper than the limit, where these siblings are at a depth
abbrev pub AreNamedNodes : (nodes depth : ℕ) → NamedForest NodeReference → Type 0
AreNamedNodes nodes depth no_nodes = Unit {0}
AreNamedNodes nodes depth (branch name content children siblings) =
    IsNodeName name × IsContent nodes content × (depth ≤ most_names) × AreDistinct (names children)
    × AreNamedNodes nodes (suc depth) children × AreNamedNodes nodes depth siblings

-- A tree that a source may mean: it is within the limits, no label is given twice, and no number is written twice.
pub record IsNamed (t : Named NodeReference) : Type 0 where
  pub reservations : AllByRecursion IsReservation t.reservations
  pub root : IsContent (1 + node_count t.children) t.content
  pub nodes : AreNamedNodes (1 + node_count t.children) 1 t.children
  pub siblings : AreDistinct (names t.children)
  pub labels : AreDistinct (flat_map (λ (c : Content NodeReference). c.labels) (contents_of t))
  pub numbers : AreDistinct (flat_map (λ (c : Content NodeReference). option_to_list (written_in c)) (contents_of t))
  pub few : 1 + node_count t.children ≤ most_nodes

-- ---- which one a source means

-- The tree has the nodes and labels that stand after the events, in their order, and these values.
pub record IsNamedBy (es : Events) (value : Path → Name → Option (List (Item OverlayReference))) (t : Named NodeReference) : Type 0 where
  pub nodes : (p : Path) → is_some (node_at t p) ≡ stands es (reverse p)
  pub values : (p : Path) (x : Name) → option_map (meant t) (value_of (content_in t p).properties x) ≡ value p x
  pub referred : AllByRecursion (RefersBelow (1 + node_count t.children)) (contents_of t)
  pub order : IsNamedInOrder es t

-- the values that are left after a base's events, each reference read by what is left then
abbrev pub bound_values : Events → Path → Name → Option (List (Item OverlayReference))
bound_values es p x = option_map (map (item_renamed inside)) (option_and_then (all_bound es) (value_at es (reverse p) x))

-- the places of a base mean this tree
pub record IsNamedOf (mode : Mode) (reservations : List (ℕ × ℕ)) (places : List Place) (t : Named NodeReference) : Type 0 where
  pub meaning : Meaning
  pub means : SourceMeans mode reservations places meaning
  pub same_reservations : t.reservations ≡ reservations
  pub tree : IsNamedBy means.so_far.events (bound_values means.so_far.events) t
