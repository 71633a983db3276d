-- Names that differ at each place differ in the whole tree, and the phandles of its tokens are the tree's.
use Rattle.std.proofs.Common.{◌≡◌, ◌≢◌, ℕ, ◌+◌, ◌<◌, Bool, true, false, cond, List, [], ◌∷◌, ◌++◌, map, Some, refl, sym, ap, subst, ◌∙◌, arith, inl, inr, append_assoc, codes}
use Rattle.std.specs.List.{AllByRecursion}
use Rattle.std.specs.Option.{option_to_list}
use Rattle.std.specs.Str.{bytes_eq}
use Rattle.std.proofs.Math.Dec.{eqb}
use Rattle.std.proofs.lemmas.Option.{same_Some}
use Rattle.std.proofs.lemmas.List.{append-nil}
use Rattle.std.proofs.lemmas.Slice.Eq.{bytes_eq-Decides}
use Rattle.dt_model.specs.Names.{Name, IsPropertyName}
use Rattle.dt_model.specs.Tree.{Property, value_of}
use Rattle.dt_model.specs.Valid.{AreDistinct, AreProperties, AreNodes, names, phandle_values, phandles}
use Rattle.dt_model.specs.Checks.{AreApart}
use Rattle.dt_trees.specs.Placed.{Nodes, no_nodes, node, forest_of}
use Rattle.dt_read.specs.Marks.{Mark, begin_mark, end_mark, prop_mark, nop_mark, last_mark, Root, marks_of_nodes, marks_of}
use Rattle.dt_read.specs.TreeTokens.{Parts, node_of, heads_of, AreNamed}
use Rattle.dt_read.specs.Order.{HasRisingPlaces}
use Rattle.dt_read.specs.Distinct.{property_names, head_names, AreDistinctParts, HasDistinctNames}
use Rattle.dt_read.specs.Phandle.{phandles_in}
use Rattle.dt_read.proofs.Tokens.{chosen}
use Rattle.dt_read.proofs.Ordering.{HasBelow, found_below, below_bounds, below_found, find_further, find_here}

-- ---- names

pub head_names_are : (nodes : Nodes) → head_names (heads_of nodes) ≡ names (forest_of nodes)
head_names_are no_nodes = refl
head_names_are (node place name properties children siblings) = ap (λ (ns : List Name). name ∷ ns) (head_names_are siblings)

-- a node below the root is found at its place
pub below_is_node : (tree : Root) (place : ℕ) (parts : Parts) → HasRisingPlaces tree → HasBelow tree.children place parts → node_of tree place ≡ Some parts
below_is_node tree place parts rising below =
    let b = below_bounds tree.children (tree.place + 1) rising.high place parts rising.rise below in
    let lt : tree.place < place = omega arith in
    find_further tree.place place _ _ lt ∙ below_found tree.children (tree.place + 1) rising.high place parts rising.rise below

pub root_is_node : (tree : Root) → node_of tree tree.place ≡ Some (record { name = []; properties = tree.properties; children = tree.children; siblings = no_nodes })
root_is_node tree = find_here tree.place tree.place _ _ refl

nodes_apart : (nodes : Nodes) → AreNamed nodes → ((place : ℕ) (parts : Parts) → HasBelow nodes place parts → AreDistinctParts parts) → AreNodes (forest_of nodes)
nodes_apart no_nodes n h = tt
nodes_apart (node place name properties children siblings) n h =
    let own = h place (record { name = name; properties = properties; children = children; siblings = siblings }) (inl (refl, refl)) in
    (n.0, record { named = n.1; distinct = own.properties }, nodes_apart children n.2 (λ k p b. h k p (inr (inl b))), subst AreDistinct (head_names_are children) own.children, nodes_apart siblings n.3 (λ k p b. h k p (inr (inr b))))

pub apart : (tree : Root) → HasRisingPlaces tree → AllByRecursion (λ p. IsPropertyName p.name) tree.properties → AreNamed tree.children → HasDistinctNames tree → AreApart tree.properties (forest_of tree.children)
apart tree rising named nodes h =
    let own = h tree.place (record { name = []; properties = tree.properties; children = tree.children; siblings = no_nodes }) (root_is_node tree) in
    record {
      properties_apart = record { named = named; distinct = own.properties };
      nodes_apart = nodes_apart tree.children nodes (λ k p b. h k p (below_is_node tree k p rising b));
      siblings_apart = subst AreDistinct (head_names_are tree.children) own.children;
    }

-- the properties and the children of a node below
pub parts_apart : (nodes : Nodes) (place : ℕ) (parts : Parts) → AreNodes (forest_of nodes) → HasBelow nodes place parts → AreProperties parts.properties × AreDistinct (names (forest_of parts.children))
parts_apart no_nodes place parts a h = absurd h
parts_apart (node other name properties children siblings) place parts a h =
    elim h [
      | inl here ↦ subst (λ (p : Parts). AreProperties p.properties × AreDistinct (names (forest_of p.children))) here.1 (a.1, a.3)
      | inr further ↦ elim further [
        | inl inside ↦ parts_apart children place parts a.2 inside
        | inr after ↦ parts_apart siblings place parts a.4 after
      ]
    ]

pub distinct : (tree : Root) → AreApart tree.properties (forest_of tree.children) → HasDistinctNames tree
distinct tree a place parts e =
    elim (chosen (eqb tree.place place) _ _ _ e) [
      | inl root ↦ subst AreDistinctParts (same_Some _ parts root.1) (record { properties = a.properties_apart.distinct; children = subst AreDistinct (sym (head_names_are tree.children)) a.siblings_apart })
      | inr further ↦
          let both = parts_apart tree.children place parts a.nodes_apart (found_below place tree.children parts further.1) in
          record { properties = both.0.distinct; children = subst AreDistinct (sym (head_names_are parts.children)) both.1 }
    ]

-- ---- phandles

phandles_append : (xs ys : List Mark) → phandles_in (xs ++ ys) ≡ phandles_in xs ++ phandles_in ys
phandles_append [] ys = refl
phandles_append (begin_mark place name ∷ xs) ys = phandles_append xs ys
phandles_append (end_mark ∷ xs) ys = phandles_append xs ys
phandles_append (nop_mark ∷ xs) ys = phandles_append xs ys
phandles_append (last_mark ∷ xs) ys = phandles_append xs ys
phandles_append (prop_mark p ∷ xs) ys = by_name (bytes_eq (codes "phandle") p.name) (phandles_append xs ys)
  where
    by_name : (b : Bool) → phandles_in (xs ++ ys) ≡ phandles_in xs ++ phandles_in ys → cond b (p.value ∷ phandles_in (xs ++ ys)) (phandles_in (xs ++ ys)) ≡ cond b (p.value ∷ phandles_in xs) (phandles_in xs) ++ phandles_in ys
    by_name true e = ap (λ (x : List (List ℕ)). p.value ∷ x) e
    by_name false e = e

-- the other properties have other names
no_others : (properties : List Property) → AllByRecursion (λ y. y ≢ codes "phandle") (property_names properties) → phandles_in (map prop_mark properties) ≡ []
no_others [] a = refl
no_others (p ∷ properties) a = by_name (bytes_eq (codes "phandle") p.name) refl (no_others properties a.1)
  where
    by_name : (b : Bool) → bytes_eq (codes "phandle") p.name ≡ b → phandles_in (map prop_mark properties) ≡ [] → cond b (p.value ∷ phandles_in (map prop_mark properties)) (phandles_in (map prop_mark properties)) ≡ []
    by_name true is e = absurd (a.0 (sym ((bytes_eq-Decides (codes "phandle") p.name).0 is)))
    by_name false is e = e

pub own_phandles : (properties : List Property) → AreDistinct (property_names properties) → phandles_in (map prop_mark properties) ≡ phandle_values properties
own_phandles [] d = refl
own_phandles (p ∷ properties) d = by_name (bytes_eq (codes "phandle") p.name) refl (own_phandles properties d.1)
  where
    by_name : (b : Bool) → bytes_eq (codes "phandle") p.name ≡ b → phandles_in (map prop_mark properties) ≡ phandle_values properties
        → cond b (p.value ∷ phandles_in (map prop_mark properties)) (phandles_in (map prop_mark properties)) ≡ option_to_list (cond b (Some p.value) (value_of properties (codes "phandle")))
    by_name true is e = ap (λ (x : List (List ℕ)). p.value ∷ x) (no_others properties (subst (λ (n : Name). AllByRecursion (λ y. y ≢ n) (property_names properties)) (sym ((bytes_eq-Decides (codes "phandle") p.name).0 is)) d.0))
    by_name false is e = e

pub node_phandles : (nodes : Nodes) → AreNodes (forest_of nodes) → phandles_in (marks_of_nodes nodes) ≡ phandles (forest_of nodes)
node_phandles no_nodes a = refl
node_phandles (node place name properties children siblings) a =
    let inside = node_phandles children a.2 in
    let after = node_phandles siblings a.4 in
    phandles_append (map prop_mark properties) (marks_of_nodes children ++ end_mark ∷ marks_of_nodes siblings)
    ∙ (λ i. own_phandles properties (a.1).distinct i ++ phandles_append (marks_of_nodes children) (end_mark ∷ marks_of_nodes siblings) i)
    ∙ (λ i. phandle_values properties ++ (inside i ++ after i))
    ∙ sym (append_assoc (phandle_values properties) (phandles (forest_of children)) (phandles (forest_of siblings)))

pub tree_phandles : (tree : Root) → AreApart tree.properties (forest_of tree.children) → phandles_in (marks_of tree ++ last_mark ∷ []) ≡ phandle_values tree.properties ++ phandles (forest_of tree.children)
tree_phandles tree a =
    phandles_append (marks_of tree) (last_mark ∷ [])
    ∙ append-nil (phandles_in (marks_of tree))
    ∙ phandles_append (map prop_mark tree.properties) (marks_of_nodes tree.children ++ end_mark ∷ [])
    ∙ (λ i. own_phandles tree.properties a.properties_apart.distinct i ++ phandles_append (marks_of_nodes tree.children) (end_mark ∷ []) i)
    ∙ ap (λ (x : List (List ℕ)). phandle_values tree.properties ++ x) (append-nil (phandles_in (marks_of_nodes tree.children)) ∙ node_phandles tree.children a.nodes_apart)
