-- The things of a tree under construction as functions, and what holds of its tables.
use Rattle.std.specs.Prelude.{◌≡◌, ℕ, ◌+◌, ◌≤◌, ◌<◌, Bool, true, false, ◌&&◌, List, [], length, Option, None, Some, cond, nat_eq, slice_get, option_map, option_and_then}
use Rattle.std.specs.Option.{option_map_or}
use Rattle.std.specs.Str.{bytes_eq}
use Rattle.dt_model.specs.Names.{Name}
use Rattle.dt_model.specs.Event.{Stack}
use Rattle.dt_model.specs.Source.{Part}
use Rattle.dt_source_growing.specs.Grown.{AreAbove, name_said, value_held}
use Rattle.dt_source_growing.specs.Shape.{Shape, node_at}
use Rattle.dt_source_growing.specs.Table.{Key, entry, name_entry}
use Rattle.dt_source_growing.specs.declared.table.Last.{Last}
use Rattle.dt_source_growing.specs.declared.growing.Node.{Node}
use Rattle.dt_source_growing.specs.declared.growing.Property.{Property}
use Rattle.dt_names.specs.declared.key.NameKey.{NameKey}
use Rattle.dt_source_growing.specs.declared.growing.Giving.{Giving}

-- ---- things by an owner and a name

-- things that have an owner, a name, and may stand; and the last that was made of an owner and a name
pub record Listing : Type 0 where
  pub size : ℕ
  pub owner : ℕ → ℕ
  pub name : ℕ → Name
  pub stands : ℕ → Bool
  pub last : ℕ → Name → Option ℕ

-- the thing, where it stands
abbrev pub kept : Bool → ℕ → Option ℕ
kept stands k = cond stands (Some k) None

-- the thing of an owner and a name that stands
abbrev pub found : Listing → ℕ → Name → Option ℕ
found l i x = option_and_then (λ k. kept (l.stands k) k) (l.last i x)

-- what is found has this owner and name, and all that stand are found, from the first on
pub record IsIndexed (first : ℕ) (l : Listing) : Type 0 where
  pub sound : (i : ℕ) (x : Name) (k : ℕ) → l.last i x ≡ Some k → (first ≤ k) × (k < l.size) × (l.owner k ≡ i) × (l.name k ≡ x)
  pub complete : (k : ℕ) → first ≤ k → k < l.size → l.stands k ≡ true → l.last (l.owner k) (l.name k) ≡ Some k

-- the one change is a new thing
pub record Adds (l m : Listing) (i : ℕ) (x : Name) : Type 0 where
  pub size : m.size ≡ l.size + 1
  pub owner : (k : ℕ) → k < l.size → m.owner k ≡ l.owner k
  pub name : (k : ℕ) → k < l.size → m.name k ≡ l.name k
  pub stands : (k : ℕ) → k < l.size → m.stands k ≡ l.stands k
  pub new_owner : m.owner l.size ≡ i
  pub new_name : m.name l.size ≡ x
  pub new_stands : m.stands l.size ≡ true
  pub last : (j : ℕ) (y : Name) → m.last j y ≡ cond (nat_eq i j && bytes_eq x y) (Some l.size) (l.last j y)

-- the one change is that a thing doesn't stand any more
pub record Drops (l m : Listing) (k : ℕ) : Type 0 where
  pub size : m.size ≡ l.size
  pub owner : (j : ℕ) → m.owner j ≡ l.owner j
  pub name : (j : ℕ) → m.name j ≡ l.name j
  pub stands : (j : ℕ) → j < l.size → m.stands j ≡ cond (nat_eq k j) false (l.stands j)
  pub last : (j : ℕ) (y : Name) → m.last j y ≡ l.last j y

-- nothing changed
pub record Keeps (l m : Listing) : Type 0 where
  pub size : m.size ≡ l.size
  pub owner : (j : ℕ) → m.owner j ≡ l.owner j
  pub name : (j : ℕ) → m.name j ≡ l.name j
  pub stands : (j : ℕ) → m.stands j ≡ l.stands j
  pub last : (j : ℕ) (y : Name) → m.last j y ≡ l.last j y

-- ---- the parts of a tree

-- the things of a list, and the table that finds them
abbrev pub listed : {X : Type 0} → (X → ℕ) → (X → Name) → (X → Bool) → List X → List (Key × Last) → Listing
listed owner name stands xs entries = record {
  size = length xs;
  owner = λ k. option_map_or owner (slice_get xs k) 0;
  name = λ k. option_map_or name (slice_get xs k) [];
  stands = λ k. option_map_or stands (slice_get xs k) false;
  last = λ i x. option_map (λ e. e.index) (entry entries i x);
}

-- the thing that was last made, where it stands: what is found of the list's things
abbrev pub standing : {X : Type 0} → (X → Bool) → List X → Option Last → Option ℕ
standing stands xs last = option_and_then (λ k. kept (option_map_or stands (slice_get xs k) false) k) (option_map (λ e. e.index) last)

abbrev pub nodes_listed : List Node → List (Key × Last) → Listing
nodes_listed nodes entries = listed (λ n. n.parent) (λ n. name_said n.name) (λ n. n.stands) nodes entries

abbrev pub properties_listed : List Property → List (Key × Last) → Listing
properties_listed properties entries = listed (λ q. q.node) (λ q. q.name.now) (λ q. q.stands) properties entries

-- the item that last opened a child, or defined a property, of the owner and the name
abbrev pub item_of : List (Key × Last) → ℕ → Name → Option ℕ
item_of entries i x = option_map (λ e. e.item) (entry entries i x)

-- the giving, where it is to the node
abbrev pub to_node : List Giving → ℕ → ℕ → Option ℕ
to_node givings i k = option_and_then (λ g. cond (nat_eq g.node i) (Some k) None) (slice_get givings k)

-- the last giving of the label, where it is to the node
abbrev pub given_to : List Giving → List (NameKey × ℕ) → ℕ → Name → Option ℕ
given_to givings entries i l = option_and_then (to_node givings i) (name_entry entries l)

abbrev pub shape_of : List Node → List (Key × Last) → List Property → List (Key × Last) → List Giving → List (NameKey × ℕ) → Shape (List Part)
shape_of nodes children properties indices givings labels = record {
  size = length nodes;
  child = found (nodes_listed nodes children);
  opened = item_of children;
  count = length properties;
  property = found (properties_listed properties indices);
  value = λ k. option_map (λ q. value_held q.value) (slice_get properties k);
  defined = item_of indices;
  givings = length givings;
  given = given_to givings labels;
}

-- ---- what holds of each tree

-- the nodes are found by their parents and their names, and a parent stands before its children
pub record HasNodes (nodes : List Node) (children : List (Key × Last)) : Type 0 where
  pub indexed : IsIndexed 1 (nodes_listed nodes children)
  pub above : AreAbove nodes

-- the properties are found by their nodes and their names
pub record HasProperties (size : ℕ) (properties : List Property) (indices : List (Key × Last)) : Type 0 where
  pub indexed : IsIndexed 0 (properties_listed properties indices)
  pub owned : (k : ℕ) (q : Property) → slice_get properties k ≡ Some q → q.node < size

-- a giving that is found is one of the label; and those to nodes that stand are found
pub record HasLabels (s : Shape (List Part)) (givings : List Giving) (labels : List (NameKey × ℕ)) : Type 0 where
  pub sound : (l : Name) (k : ℕ) → name_entry labels l ≡ Some k → option_map (λ g. g.label.now) (slice_get givings k) ≡ Some l
  pub owned : (k : ℕ) (g : Giving) → slice_get givings k ≡ Some g → g.node < s.size
  pub latest : (p : Stack) (k : ℕ) (g : Giving) → slice_get givings k ≡ Some g → node_at s p ≡ Some g.node → name_entry labels g.label.now ≡ Some k

-- the tables find what stands, and nothing else
pub record IsSound (nodes : List Node) (children : List (Key × Last)) (properties : List Property) (indices : List (Key × Last))
    (givings : List Giving) (labels : List (NameKey × ℕ)) : Type 0 where
  pub has_nodes : HasNodes nodes children
  pub has_properties : HasProperties (length nodes) properties indices
  pub has_labels : HasLabels (shape_of nodes children properties indices givings labels) givings labels
