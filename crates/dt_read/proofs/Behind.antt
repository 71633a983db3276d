-- The sibling behind a node has the name behind the node's.
use Rattle.std.proofs.Common.{◌≡◌, ◌≢◌, ℕ, Bool, true, false, cond, List, [], ◌∷◌, ◌++◌, Option, Some, None, refl, sym, ap, subst, ◌∙◌, Bor, inl, inr}
use Rattle.std.specs.List.{AllByRecursion}
use Rattle.std.specs.Prelude.{IfSome}
use Rattle.std.specs.Str.{bytes_eq}
use Rattle.std.proofs.lemmas.Option.{same_Some}
use Rattle.std.proofs.lemmas.Slice.Eq.{bytes_eq-Decides}
use Rattle.dt_model.specs.Names.{Name}
use Rattle.dt_model.specs.Path.{Path}
use Rattle.dt_model.specs.Tree.{Property, node_below}
use Rattle.dt_model.specs.Valid.{AreDistinct, AreNodes, names}
use Rattle.dt_read.specs.declared.token.Tag.{Tag}
use Rattle.dt_read.specs.declared.token.Tag.TheVariants as tags
use Rattle.dt_read.specs.View.{tag_mark}
use Rattle.dt_trees.specs.Placed.{Nodes, no_nodes, node, forest_of, PlacedTree, place_below, IsAt, names_under, child_names, first_place_of, names_behind}
use Rattle.dt_read.specs.Marks.{Mark, begin_mark, marks_of_nodes}
use Rattle.dt_read.specs.TreeTokens.{Parts, node_of, IsEnd, first_place}
use Rattle.dt_read.specs.Blocks.{whole_of, IsWellPlaced}
use Rattle.dt_trees.proofs.NamesBehind.{differs, behind_all}
use Rattle.dt_read.proofs.Apart.{below_is_node, root_is_node}
use Rattle.dt_read.proofs.Nodes.{at_node}
use Rattle.dt_read.proofs.Ordering.{HasBelow}

-- ---- the tokens behind a node

pub first_begins : (siblings : Nodes) (rest more : List Mark) (place : ℕ) (name : List ℕ) → IsEnd rest → marks_of_nodes siblings ++ rest ≡ begin_mark place name ∷ more → Some place ≡ first_place siblings
first_begins no_nodes rest more place name ends e = absurd (subst IsEnd e ends)
first_begins (node other x properties children siblings) rest more place name ends e = let same : place ≡ other = cc in ap (λ (n : ℕ). Some n) same

pub none_begins : (siblings : Nodes) (rest marks : List Mark) → marks_of_nodes siblings ++ rest ≡ marks → IsEnd marks → None ≡ first_place siblings
none_begins no_nodes rest marks e ends = refl
none_begins (node other x properties children siblings) rest marks e ends = absurd (subst IsEnd (sym e) ends)

pub ends_at : (at : ℕ) (tag : Tag) (p : Property) (marks : List Mark) → ((name : Bor (List ℕ)) → tag ≡ tags.BeginNode name → ⊥) → IsEnd (tag_mark at tag p ∷ marks)
ends_at at (tags.BeginNode name) p marks h = absurd (h name refl)
ends_at at tags.EndNode p marks h = tt
ends_at at (tags.Property bytes) p marks h = tt
ends_at at tags.Nop p marks h = tt
ends_at at tags.End p marks h = tt

-- ---- names and places

abbrev first_below : ℕ → Nodes → Path → List Name → Option ℕ
first_below at nodes path [] = None
first_below at nodes path (x ∷ xs) = place_below at nodes (path ++ x ∷ [])

abbrev names_below : List Property → Nodes → Path → List Name
names_below ps nodes path = names_under (node_below (record { properties = ps; children = forest_of nodes }) path)

-- what stands behind the node of a path
record Behind (at : ℕ) (nodes : Nodes) (ps : List Property) (path : Path) (name : Name) (k : ℕ) : Type 0 where
  parts : Parts
  below : HasBelow nodes k parts
  first : first_place parts.siblings ≡ first_below at nodes path (names_behind name (names_below ps nodes path))

-- the first of the siblings behind a node
first_after : (at place : ℕ) (name : Name) (properties : List Property) (children siblings : Nodes) → AllByRecursion (λ y. y ≢ name) (names (forest_of siblings))
    → first_place siblings ≡ first_below at (node place name properties children siblings) [] (names (forest_of siblings))
first_after at place name properties children no_nodes a = refl
first_after at place name properties children (node other x ps cs ss) a =
    let same : bytes_eq x x ≡ true = (bytes_eq-Decides x x).1 refl in
    rw (differs x name a.0) (rw same refl)

-- past the first of some siblings
skips : (at place : ℕ) (name : Name) (properties : List Property) (children siblings : Nodes) (xs : List Name) → AllByRecursion (λ y. y ≢ name) xs
    → first_below at siblings [] xs ≡ first_below at (node place name properties children siblings) [] xs
skips at place name properties children siblings [] a = refl
skips at place name properties children siblings (x ∷ xs) a = rw (differs x name a.0) refl

inside : (at place : ℕ) (name : Name) (properties : List Property) (children siblings : Nodes) (x : Name) (path : Path) (xs : List Name) → bytes_eq x name ≡ true
    → first_below place children path xs ≡ first_below at (node place name properties children siblings) (x ∷ path) xs
inside at place name properties children siblings x path [] u = refl
inside at place name properties children siblings x path (y ∷ ys) u = rw u refl

beside : (at place : ℕ) (name : Name) (properties : List Property) (children siblings : Nodes) (x : Name) (path : Path) (xs : List Name) → bytes_eq x name ≡ false
    → first_below at siblings (x ∷ path) xs ≡ first_below at (node place name properties children siblings) (x ∷ path) xs
beside at place name properties children siblings x path [] u = refl
beside at place name properties children siblings x path (y ∷ ys) u = rw u refl

behind_path : (nodes : Nodes) (at : ℕ) (ps : List Property) (path : Path) (name : Name) (k : ℕ) → AreNodes (forest_of nodes) → AreDistinct (names (forest_of nodes)) → place_below at nodes (path ++ name ∷ []) ≡ Some k
    → Behind at nodes ps path name k
behind_path no_nodes at ps [] name k a d e = absurd cc
behind_path no_nodes at ps (x ∷ path) name k a d e = absurd cc
behind_path (node place other properties children siblings) at ps [] name k a d e =
    by_name (bytes_eq name other) refl e (λ f. behind_path siblings at ps [] name k a.4 d.1 f)
  where
    by_name : (b : Bool) → bytes_eq name other ≡ b → cond b (Some place) (place_below at siblings (name ∷ [])) ≡ Some k → (place_below at siblings (name ∷ []) ≡ Some k → Behind at siblings ps [] name k)
        → Behind at (node place other properties children siblings) ps [] name k
    by_name true u f after = record {
      parts = record { name = other; properties = properties; children = children; siblings = siblings };
      below = inl (same_Some place k f, refl);
      first = rw u (first_after at place other properties children siblings d.0);
    }
    by_name false u f after =
        let b = after f in
        record {
          parts = b.parts;
          below = inr (inr b.below);
          first = rw u (b.first ∙ skips at place other properties children siblings (names_behind name (names (forest_of siblings))) (behind_all (λ y. y ≢ other) name (names (forest_of siblings)) d.0));
        }
behind_path (node place other properties children siblings) at ps (x ∷ path) name k a d e =
    by_name (bytes_eq x other) refl e (λ f. behind_path children place properties path name k a.2 a.3 f) (λ f. behind_path siblings at ps (x ∷ path) name k a.4 d.1 f)
  where
    by_name : (b : Bool) → bytes_eq x other ≡ b → cond b (place_below place children (path ++ name ∷ [])) (place_below at siblings (x ∷ (path ++ name ∷ []))) ≡ Some k
        → (place_below place children (path ++ name ∷ []) ≡ Some k → Behind place children properties path name k)
        → (place_below at siblings (x ∷ (path ++ name ∷ [])) ≡ Some k → Behind at siblings ps (x ∷ path) name k)
        → Behind at (node place other properties children siblings) ps (x ∷ path) name k
    by_name true u f within after =
        let b = within f in
        record {
          parts = b.parts;
          below = inr (inl b.below);
          first = b.first ∙ inside at place other properties children siblings x path (names_behind name (names_below properties children path)) u
              ∙ ap (λ (xs : List Name). first_below at (node place other properties children siblings) (x ∷ path) (names_behind name xs)) (rw u refl);
        }
    by_name false u f within after =
        let b = after f in
        record {
          parts = b.parts;
          below = inr (inr b.below);
          first = b.first ∙ beside at place other properties children siblings x path (names_behind name (names_below ps siblings (x ∷ path))) u
              ∙ ap (λ (xs : List Name). first_below at (node place other properties children siblings) (x ∷ path) (names_behind name xs)) (rw u refl);
        }

first_same : (t : PlacedTree) (path : Path) (xs : List Name) → first_below t.place t.children path xs ≡ first_place_of t path xs
first_same t path [] = refl
first_same t path (x ∷ xs) = refl

-- ---- the sibling behind a node, of a tree that is seen as another

pub behind_so : (t u : PlacedTree) → t ≡ u → IsWellPlaced t → (path : Path) (name : Name) (k : ℕ) → IsAt u (path ++ name ∷ []) k → (sibling : Option ℕ) → IfSome (node_of (whole_of t) k) (λ parts. sibling ≡ first_place parts.siblings)
    → sibling ≡ first_place_of u path (names_behind name (child_names u path))
behind_so t u same w path name k e sibling h =
    let at : IsAt t (path ++ name ∷ []) k = subst (λ (v : PlacedTree). IsAt v (path ++ name ∷ []) k) (sym same) e in
    let b = behind_path t.children t.place t.properties path name k w.apart.nodes_apart w.apart.siblings_apart at in
    at_node (λ parts. sibling ≡ first_place parts.siblings) (node_of (whole_of t) k) b.parts (below_is_node (whole_of t) k b.parts w.rising b.below) h
    ∙ b.first
    ∙ first_same t path (names_behind name (child_names t path))
    ∙ ap (λ (v : PlacedTree). first_place_of v path (names_behind name (child_names v path))) same

pub none_behind_root : (t u : PlacedTree) → t ≡ u → IsWellPlaced t → (k : ℕ) → IsAt u [] k → (sibling : Option ℕ) → IfSome (node_of (whole_of t) k) (λ parts. sibling ≡ first_place parts.siblings) → sibling ≡ None
none_behind_root t u same w k e sibling h =
    let is : t.place ≡ k = same_Some t.place k (subst (λ (v : PlacedTree). IsAt v [] k) (sym same) e) in
    at_node (λ parts. sibling ≡ first_place parts.siblings) (node_of (whole_of t) k) (record { name = []; properties = t.properties; children = t.children; siblings = no_nodes })
    (subst (λ (n : ℕ). node_of (whole_of t) n ≡ Some (record { name = []; properties = t.properties; children = t.children; siblings = no_nodes })) is (root_is_node (whole_of t))) h
