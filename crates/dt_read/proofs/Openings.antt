-- A walk through a tree opens its nodes in preorder.
use Rattle.std.proofs.Common.{◌≡◌, ◌≢◌, ℕ, true, false, List, [], ◌∷◌, ◌++◌, map, Option, Some, None, refl, sym, ap, subst, ◌∙◌, append_assoc, true≢false, inl}
use Rattle.std.proofs.lemmas.List.{append-nil, map-append}
use Rattle.std.specs.Prelude.{is_some, option_and_then}
use Rattle.std.specs.List.{AllByRecursion}
use Rattle.std.specs.Str.{bytes_eq}
use Rattle.dt_model.specs.Lists.{IsIn}
use Rattle.dt_model.specs.Names.{Name}
use Rattle.dt_model.specs.Path.{Path}
use Rattle.dt_model.specs.Tree.{Property, Node, sibling, node_below, Placed, preorder, nodes_of}
use Rattle.dt_model.specs.Valid.{AreNodes, AreDistinct, IsValid, names}
use Rattle.dt_model.proofs.Listed.{other_sibling}
use Rattle.dt_model.proofs.Preorder.{paths_of, paths_distinct}
use Rattle.dt_model.proofs.Tests.{bytes_eq_refl, in_right}
use Rattle.dt_trees.specs.Placed.{Nodes, no_nodes, node, forest_of, PlacedTree, reading_of, place_below, place_of, IsAt}
use Rattle.dt_read.specs.Walked.{Step, opens, holds, closes, steps_of_nodes, steps_of}
use Rattle.dt_trees.proofs.NodePlaces.{stands_below}
use Rattle.dt_read.proofs.Opened.{opened, AreOpened}

abbrev places_in : Nodes → List ℕ
places_in no_nodes = []
places_in (node place name ps children siblings) = place ∷ (places_in children ++ places_in siblings)

past_properties : (ps : List Property) (rest : List Step) → opened (map holds ps ++ rest) ≡ opened rest
past_properties [] rest = refl
past_properties (p ∷ ps) rest = past_properties ps rest

opened_in : (ns : Nodes) (rest : List Step) → opened (steps_of_nodes ns ++ rest) ≡ places_in ns ++ opened rest
opened_in no_nodes rest = refl
opened_in (node place name ps children siblings) rest =
    let regroup : (map holds ps ++ (steps_of_nodes children ++ closes ∷ steps_of_nodes siblings)) ++ rest ≡ map holds ps ++ (steps_of_nodes children ++ closes ∷ (steps_of_nodes siblings ++ rest)) = simp append_assoc in
    let inside = opened_in children (closes ∷ (steps_of_nodes siblings ++ rest)) in
    let after = opened_in siblings rest in
    ap (λ ks. place ∷ ks) (
    ap opened regroup
    ∙ past_properties ps (steps_of_nodes children ++ closes ∷ (steps_of_nodes siblings ++ rest))
    ∙ inside
    ∙ ap (λ ks. places_in children ++ ks) after
    ∙ sym (append_assoc (places_in children) (places_in siblings) (opened rest))
    )

-- a node that is found among later siblings isn't the first of them
pub other_name : (siblings : Nodes) (at : ℕ) (ps : List Property) (x y : Name) (p : Path) (k : ℕ) → AreDistinct (y ∷ names (forest_of siblings)) → place_below at siblings (x ∷ p) ≡ Some k → bytes_eq x y ≡ false
other_name siblings at ps x y p k distinct is =
    let stands : is_some (node_below (record { properties = ps; children = forest_of siblings }) (x ∷ p)) ≡ true = sym (stands_below siblings at ps (x ∷ p)) ∙ ap is_some is in
    there (sibling (forest_of siblings) x) refl stands
  where
    there : (o : Option Node) → sibling (forest_of siblings) x ≡ o → is_some (option_and_then (λ c. node_below c p) (sibling (forest_of siblings) x)) ≡ true → bytes_eq x y ≡ false
    there None f s = absurd (true≢false (sym s ∙ ap (λ z. is_some (option_and_then (λ c. node_below c p) z)) f))
    there (Some c) f s = other_sibling (forest_of siblings) x y c distinct.0 f

-- a look-up finds what is below siblings, behind a path
abbrev Finds : (Path → Option ℕ) → Path → Nodes → ℕ → Type 0
Finds look q ns at = (x : Name) (p : Path) (k : ℕ) → place_below at ns (x ∷ p) ≡ Some k → look (q ++ x ∷ p) ≡ Some k

placed_in : (look : Path → Option ℕ) (q : Path) (ns : Nodes) (at : ℕ) → AreNodes (forest_of ns) → AreDistinct (names (forest_of ns)) → Finds look q ns at
    → map (λ n. look n.path) (preorder q (forest_of ns)) ≡ map (λ k. Some k) (places_in ns)
placed_in look q no_nodes at nodes distinct finds = refl
placed_in look q (node place name ps children siblings) at nodes distinct finds =
    let here : look (q ++ name ∷ []) ≡ Some place = finds name [] place (rw (bytes_eq_refl name) refl) in
    let inside = placed_in look (q ++ name ∷ []) children place nodes.2 nodes.3 in_children in
    let after = placed_in look q siblings at nodes.4 distinct.1 among_siblings in
    let both : map (λ n. look n.path) (preorder (q ++ name ∷ []) (forest_of children) ++ preorder q (forest_of siblings)) ≡ map (λ k. Some k) (places_in children ++ places_in siblings) =
    map-append (λ n. look n.path) (preorder (q ++ name ∷ []) (forest_of children)) (preorder q (forest_of siblings))
    ∙ ap (λ ks. ks ++ map (λ n. look n.path) (preorder q (forest_of siblings))) inside
    ∙ ap (λ ks. map (λ k. Some k) (places_in children) ++ ks) after
    ∙ sym (map-append (λ k. Some k) (places_in children) (places_in siblings)) in
    λ i. here i ∷ both i
  where
    in_children : Finds look (q ++ name ∷ []) children place
    in_children x p k e = ap look (append_assoc q (name ∷ []) (x ∷ p)) ∙ finds name (x ∷ p) k (rw (bytes_eq_refl name) e)

    among_siblings : Finds look q siblings at
    among_siblings x p k e = finds x p k (rw (other_name siblings at ps x name p k distinct e) e)

-- the whole walk opens all nodes
pub all_opened : (t : PlacedTree) → IsValid (reading_of t) → AreOpened t [] (nodes_of (reading_of t)) (steps_of t)
all_opened t valid = record {
  whole = refl;
  places =
      let below = placed_in (place_of t) [] t.children t.place valid.nodes valid.siblings (λ x p k e. e) in
      let told : opened (map holds t.properties ++ (steps_of_nodes t.children ++ closes ∷ [])) ≡ places_in t.children ++ [] = past_properties t.properties (steps_of_nodes t.children ++ closes ∷ []) ∙ opened_in t.children (closes ∷ []) in
      let all : opened (map holds t.properties ++ (steps_of_nodes t.children ++ closes ∷ [])) ≡ places_in t.children = told ∙ append-nil (places_in t.children) in
      ap (λ ks. Some t.place ∷ ks) (below ∙ ap (map (λ k. Some k)) (sym all));
}

-- the node that is opened next
pub record OpensNext (t : PlacedTree) (before nodes : List Placed) (k : ℕ) (steps : List Step) : Type 0 where
  pub first : Placed
  pub later : List Placed
  pub are : nodes ≡ first ∷ later
  pub at : IsAt t first.path k
  pub listed : IsIn first (nodes_of (reading_of t))
  pub left : AreOpened t (before ++ first ∷ []) later steps

pub next_opened : (t : PlacedTree) (before nodes : List Placed) (k : ℕ) (name : Name) (steps : List Step) → AreOpened t before nodes (opens k name ∷ steps) → OpensNext t before nodes k steps
next_opened t before [] k name steps h = absurd (let z : [] ≡ Some k ∷ map (λ j. Some j) (opened steps) = h.places in cc)
next_opened t before (n ∷ nodes) k name steps h = record {
  first = n;
  later = nodes;
  are = refl;
  at = head_of h.places;
  listed = subst (IsIn n) (sym h.whole) (in_right n before (n ∷ nodes) (inl refl));
  left = record { whole = h.whole ∙ sym (append_assoc before (n ∷ []) nodes); places = tail_of h.places };
}
  where
    head_of : place_of t n.path ∷ map (λ m. place_of t m.path) nodes ≡ Some k ∷ map (λ j. Some j) (opened steps) → place_of t n.path ≡ Some k
    head_of e = cc

    tail_of : place_of t n.path ∷ map (λ m. place_of t m.path) nodes ≡ Some k ∷ map (λ j. Some j) (opened steps) → map (λ m. place_of t m.path) nodes ≡ map (λ j. Some j) (opened steps)
    tail_of e = cc

pub none_opened : (t : PlacedTree) (before nodes : List Placed) → AreOpened t before nodes [] → nodes ≡ []
none_opened t before [] h = refl
none_opened t before (n ∷ nodes) h = absurd (let z : place_of t n.path ∷ map (λ m. place_of t m.path) nodes ≡ [] = h.places in cc)

-- no place is opened twice
opened_apart : (t : PlacedTree) (nodes : List Placed) (ks : List ℕ) → ((p q : Path) (k : ℕ) → IsAt t p k → IsAt t q k → p ≡ q) → AreDistinct (paths_of nodes) → map (λ n. place_of t n.path) nodes ≡ map (λ k. Some k) ks → AreDistinct ks
opened_apart t [] [] places d e = tt
opened_apart t [] (k ∷ ks) places d e = absurd (let z : [] ≡ Some k ∷ map (λ j. Some j) ks = e in cc)
opened_apart t (n ∷ nodes) [] places d e = absurd (let z : place_of t n.path ∷ map (λ m. place_of t m.path) nodes ≡ [] = e in cc)
opened_apart t (n ∷ nodes) (k ∷ ks) places d e = (others nodes ks d.0 (tail_of e), opened_apart t nodes ks places d.1 (tail_of e))
  where
    head_of : place_of t n.path ∷ map (λ m. place_of t m.path) nodes ≡ Some k ∷ map (λ j. Some j) ks → place_of t n.path ≡ Some k
    head_of e = cc

    tail_of : place_of t n.path ∷ map (λ m. place_of t m.path) nodes ≡ Some k ∷ map (λ j. Some j) ks → map (λ m. place_of t m.path) nodes ≡ map (λ j. Some j) ks
    tail_of e = cc

    first_of : (m : Placed) (ms : List Placed) (j : ℕ) (js : List ℕ) → place_of t m.path ∷ map (λ m. place_of t m.path) ms ≡ Some j ∷ map (λ j. Some j) js → place_of t m.path ≡ Some j
    first_of m ms j js e = cc

    rest_of : (m : Placed) (ms : List Placed) (j : ℕ) (js : List ℕ) → place_of t m.path ∷ map (λ m. place_of t m.path) ms ≡ Some j ∷ map (λ j. Some j) js → map (λ m. place_of t m.path) ms ≡ map (λ j. Some j) js
    rest_of m ms j js e = cc

    others : (ms : List Placed) (js : List ℕ) → AllByRecursion (λ q. q ≢ n.path) (paths_of ms) → map (λ m. place_of t m.path) ms ≡ map (λ j. Some j) js → AllByRecursion (λ j. j ≢ k) js
    others [] [] a f = tt
    others [] (j ∷ js) a f = absurd (let z : [] ≡ Some j ∷ map (λ i. Some i) js = f in cc)
    others (m ∷ ms) [] a f = absurd (let z : place_of t m.path ∷ map (λ m. place_of t m.path) ms ≡ [] = f in cc)
    others (m ∷ ms) (j ∷ js) a f = (λ same. a.0 (places m.path n.path k (first_of m ms j js f ∙ ap (λ i. Some i) same) (head_of e)), others ms js a.1 (rest_of m ms j js f))

pub all_apart : (t : PlacedTree) → IsValid (reading_of t) → ((p q : Path) (k : ℕ) → IsAt t p k → IsAt t q k → p ≡ q) → AreDistinct (opened (steps_of t))
all_apart t valid places = opened_apart t (nodes_of (reading_of t)) (opened (steps_of t)) places (paths_distinct (reading_of t) valid) (all_opened t valid).places
