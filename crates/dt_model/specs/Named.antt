-- A tree whose nodes have no numbers yet: its labels, and in its values references in place of cells.
use Rattle.std.specs.Prelude.{ℕ, suc, ◌+◌, List, [], ◌∷◌, ◌++◌, map, drop, Option, Some, None, option_and_then, nat_eq, if◌then◌else◌, codes}
use Rattle.std.specs.Option.{option_map_or}
use Rattle.std.specs.Int.{w32, from_be_bytes}
use Rattle.std.specs.Str.{bytes_eq}
use Rattle.dt_model.specs.Names.{Name}
use Rattle.dt_model.specs.Path.{Path}
use Rattle.dt_model.specs.Meaning.{Item, byte}
use Rattle.dt_model.specs.Overlay.{ReferenceBy}
use Rattle.dt_model.specs.Source.{in_range}

-- A reference of such a tree: to a node, by its place in preorder (a node, then its children in order), or by a label that the
-- source doesn't give. Only an overlay has the second kind.
abbrev pub NodeReference : Type 0
NodeReference = ReferenceBy ℕ

-- a property: its name, and its value
pub record NamedProperty (R : Type 0) : Type 0 where
  pub name : Name
  pub value : List (Item R)

-- what a node has, in order
pub record Content (R : Type 0) : Type 0 where
  pub labels : List Name
  pub properties : List (NamedProperty R)

-- some siblings in order: the first of them with its name, what it has, and its children, and then the others
pub data NamedForest (R : Type 0) : Type 0 where
  no_nodes : NamedForest R
  branch : (name : Name) (content : Content R) (children siblings : NamedForest R) → NamedForest R

-- memory reservations, what the root has, and the nodes below it
pub record Named (R : Type 0) : Type 0 where
  pub reservations : List (ℕ × ℕ)
  pub content : Content R
  pub children : NamedForest R

-- a node with what is below it
pub record NamedNode (R : Type 0) : Type 0 where
  pub content : Content R
  pub children : NamedForest R

-- a node by its path, with what it has
pub record NamedPlaced (R : Type 0) : Type 0 where
  pub path : Path
  pub content : Content R

-- a node by the number of its parent, with its name and what it has
pub record Listed (R : Type 0) : Type 0 where
  pub parent : ℕ
  pub name : Name
  pub content : Content R

module _ {R : Type 0} where
  -- ---- look-ups

  -- the sibling of a name
  abbrev pub sibling : NamedForest R → Name → Option (NamedNode R)
  sibling no_nodes x = None
  sibling (branch name content children siblings) x =
      if bytes_eq x name then Some (record { content = content; children = children }) else sibling siblings x

  -- the node to which a path leads from a node
  abbrev pub node_below : NamedNode R → Path → Option (NamedNode R)
  node_below n [] = Some n
  node_below n (x ∷ p) = option_and_then (λ c. node_below c p) (sibling n.children x)

  abbrev pub root_of : Named R → NamedNode R
  root_of t = record { content = t.content; children = t.children }

  -- the node of a path
  abbrev pub node_at : Named R → Path → Option (NamedNode R)
  node_at t p = node_below (root_of t) p

  -- the value of the property of a name
  abbrev pub value_of : List (NamedProperty R) → Name → Option (List (Item R))
  value_of [] x = None
  value_of (p ∷ ps) x = if bytes_eq x p.name then Some p.value else value_of ps x

  -- what the path's node has, nothing where there is no such node
  abbrev pub content_in : Named R → Path → Content R
  content_in t p = option_map_or (λ n. n.content) (node_at t p) (record { labels = []; properties = [] })

  -- the number that a value writes as a `phandle`: four bytes, no reference, from 1 to 0xfffffffe (2.3.3)
  abbrev pub number_of : List (Item R) → Option ℕ
  number_of (byte a ∷ byte b ∷ byte c ∷ byte d ∷ []) = in_range (from_be_bytes w32 (a ∷ b ∷ c ∷ d ∷ []))
  number_of _ = None

  -- the number that is written in a node
  abbrev pub written_in : Content R → Option ℕ
  written_in c = option_and_then number_of (value_of c.properties (codes "phandle"))

  -- the names of the siblings
  abbrev pub names : NamedForest R → List Name
  names no_nodes = []
  names (branch name content children siblings) = name ∷ names siblings

  -- how many nodes there are
  abbrev pub node_count : NamedForest R → ℕ
  node_count no_nodes = 0
  node_count (branch name content children siblings) = 1 + node_count children + node_count siblings

  -- ---- preorder: a node, then its children, then its later siblings

  abbrev pub preorder : Path → NamedForest R → List (NamedPlaced R)
  preorder path no_nodes = []
  preorder path (branch name content children siblings) =
      record { path = path ++ name ∷ []; content = content } ∷ (preorder (path ++ name ∷ []) children ++ preorder path siblings)

  -- all nodes in preorder, the root first: the number of a node is its place among them
  abbrev pub nodes_of : Named R → List (NamedPlaced R)
  nodes_of t = record { path = []; content = t.content } ∷ preorder [] t.children

  abbrev pub paths_of : Named R → List Path
  paths_of t = map (λ n. n.path) (nodes_of t)

  -- siblings of a parent in preorder, where the first of them has this number
  abbrev pub listed : (number parent : ℕ) → NamedForest R → List (Listed R)
  listed number parent no_nodes = []
  listed number parent (branch name content children siblings) =
      record { parent = parent; name = name; content = content }
      ∷ (listed (suc number) number children ++ listed (suc number + node_count children) parent siblings)

  -- all nodes in preorder: the root, which is number 0 and its own parent, has no name
  abbrev pub list_of : Named R → List (Listed R)
  list_of t = record { parent = 0; name = []; content = t.content } ∷ listed 1 0 t.children

-- ---- the tree of a list

-- memory reservations, and nodes in preorder, the root first
pub record NamedList (R : Type 0) : Type 0 where
  pub reservations : List (ℕ × ℕ)
  pub nodes : List (Listed R)

module _ {R : Type 0} where
  -- the trees of those of these nodes that have the parent p, where the first of these nodes has number i
  abbrev pub forest_among : ℕ → List (Listed R) → ℕ → NamedForest R
  forest_among i [] p = no_nodes
  forest_among i (n ∷ ns) p =
      if nat_eq n.parent p
      then branch n.name n.content (forest_among (suc i) ns i) (forest_among (suc i) ns p)
      else forest_among (suc i) ns p

  -- what the root of these nodes has, nothing where there is none
  abbrev pub content_of_root : List (Listed R) → Content R
  content_of_root [] = record { labels = []; properties = [] }
  content_of_root (root ∷ ns) = root.content

  -- the tree of a list
  abbrev pub tree_of : NamedList R → Named R
  tree_of l = record { reservations = l.reservations; content = content_of_root l.nodes; children = forest_among 1 (drop 1 l.nodes) 0 }
