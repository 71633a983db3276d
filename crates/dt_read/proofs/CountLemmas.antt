-- The counts of a tree's tokens are those of its nodes.
use Rattle.std.proofs.Common.{◌≡◌, ℕ, ◌+◌, List, [], ◌∷◌, ◌++◌, length, map, refl, ap, ◌∙◌, arith}
use Rattle.std.specs.List.{sum_by}
use Rattle.std.proofs.lemmas.List.{length-append}
use Rattle.std.proofs.lemmas.List.Sums.{sum_by-append, sum_by-cons}
use Rattle.dt_model.specs.Path.{Path}
use Rattle.dt_model.specs.Tree.{Property, Placed, preorder, nodes_of}
use Rattle.dt_trees.specs.Placed.{Nodes, no_nodes, node, forest_of, PlacedTree, reading_of}
use Rattle.dt_read.specs.Marks.{Mark, begin_mark, end_mark, prop_mark, nop_mark, last_mark, marks_of_nodes, marks_of}
use Rattle.dt_read.specs.Counting.{nodes_in, properties_in}
use Rattle.dt_read.specs.Blocks.{whole_of}

nodes_append : (xs ys : List Mark) → nodes_in (xs ++ ys) ≡ nodes_in xs + nodes_in ys
nodes_append [] ys = omega arith
nodes_append (begin_mark place name ∷ xs) ys = omega (arith, nodes_append xs ys)
nodes_append (end_mark ∷ xs) ys = nodes_append xs ys
nodes_append (prop_mark p ∷ xs) ys = nodes_append xs ys
nodes_append (nop_mark ∷ xs) ys = nodes_append xs ys
nodes_append (last_mark ∷ xs) ys = nodes_append xs ys

properties_append : (xs ys : List Mark) → properties_in (xs ++ ys) ≡ properties_in xs + properties_in ys
properties_append [] ys = omega arith
properties_append (begin_mark place name ∷ xs) ys = properties_append xs ys
properties_append (end_mark ∷ xs) ys = properties_append xs ys
properties_append (prop_mark p ∷ xs) ys = omega (arith, properties_append xs ys)
properties_append (nop_mark ∷ xs) ys = properties_append xs ys
properties_append (last_mark ∷ xs) ys = properties_append xs ys

no_nodes_in : (properties : List Property) → nodes_in (map prop_mark properties) ≡ 0
no_nodes_in [] = refl
no_nodes_in (p ∷ properties) = no_nodes_in properties

own_properties : (properties : List Property) → properties_in (map prop_mark properties) ≡ length properties
own_properties [] = refl
own_properties (p ∷ properties) = omega (arith, own_properties properties)

abbrev pub sizes : List Placed → ℕ
sizes placed = sum_by (λ n. length n.properties) placed

nodes_counted : (nodes : Nodes) (path : Path) → nodes_in (marks_of_nodes nodes) ≡ length (preorder path (forest_of nodes))
nodes_counted no_nodes path = refl
nodes_counted (node place name properties children siblings) path =
    let inside = nodes_counted children (path ++ name ∷ []) in
    let after = nodes_counted siblings path in
    omega (arith, nodes_append (map prop_mark properties) (marks_of_nodes children ++ end_mark ∷ marks_of_nodes siblings), no_nodes_in properties, nodes_append (marks_of_nodes children) (end_mark ∷ marks_of_nodes siblings), inside, after, length-append (preorder (path ++ name ∷ []) (forest_of children)) (preorder path (forest_of siblings)))

properties_counted : (nodes : Nodes) (path : Path) → properties_in (marks_of_nodes nodes) ≡ sizes (preorder path (forest_of nodes))
properties_counted no_nodes path = refl
properties_counted (node place name properties children siblings) path =
    let inside = properties_counted children (path ++ name ∷ []) in
    let after = properties_counted siblings path in
    let first = sum_by-cons (λ (n : Placed). length n.properties) (record { path = path ++ name ∷ []; properties = properties }) (preorder (path ++ name ∷ []) (forest_of children) ++ preorder path (forest_of siblings)) in
    let split = sum_by-append (λ (n : Placed). length n.properties) (preorder (path ++ name ∷ []) (forest_of children)) (preorder path (forest_of siblings)) in
    omega (arith, properties_append (map prop_mark properties) (marks_of_nodes children ++ end_mark ∷ marks_of_nodes siblings), own_properties properties, properties_append (marks_of_nodes children) (end_mark ∷ marks_of_nodes siblings), inside, after, first, split)

all_nodes : (t : PlacedTree) → nodes_in (marks_of (whole_of t) ++ last_mark ∷ []) ≡ length (nodes_of (reading_of t))
all_nodes t =
    omega (arith, nodes_append (marks_of (whole_of t)) (last_mark ∷ []), nodes_append (map prop_mark t.properties) (marks_of_nodes t.children ++ end_mark ∷ []), no_nodes_in t.properties, nodes_append (marks_of_nodes t.children) (end_mark ∷ []), nodes_counted t.children [])

all_properties : (t : PlacedTree) → properties_in (marks_of (whole_of t) ++ last_mark ∷ []) ≡ sizes (nodes_of (reading_of t))
all_properties t =
    let first = sum_by-cons (λ (n : Placed). length n.properties) (record { path = []; properties = t.properties }) (preorder [] (forest_of t.children)) in
    omega (arith, properties_append (marks_of (whole_of t)) (last_mark ∷ []), properties_append (map prop_mark t.properties) (marks_of_nodes t.children ++ end_mark ∷ []), own_properties t.properties, properties_append (marks_of_nodes t.children) (end_mark ∷ []), properties_counted t.children [], first)

pub nodes_so : (t u : PlacedTree) → t ≡ u → (n : ℕ) (marks : List Mark) → n ≡ nodes_in marks → marks ≡ marks_of (whole_of t) ++ last_mark ∷ [] → n ≡ length (nodes_of (reading_of u))
nodes_so t u same n marks e whole = e ∙ ap nodes_in whole ∙ all_nodes t ∙ ap (λ (v : PlacedTree). length (nodes_of (reading_of v))) same

pub properties_so : (t u : PlacedTree) → t ≡ u → (n : ℕ) (marks : List Mark) → n ≡ properties_in marks → marks ≡ marks_of (whole_of t) ++ last_mark ∷ [] → n ≡ sizes (nodes_of (reading_of u))
properties_so t u same n marks e whole = e ∙ ap properties_in whole ∙ all_properties t ∙ ap (λ (v : PlacedTree). sizes (nodes_of (reading_of v))) same
