-- Where places rise, each is one path's, and the node at a place is the path's.
use Rattle.std.proofs.Common.{◌≡◌, ◌≢◌, ℕ, ◌+◌, ◌<◌, ◌≤◌, Bool, true, false, cond, List, [], ◌∷◌, ◌++◌, map, Some, refl, sym, ap, ◌∙◌, arith, inl, inr}
use Rattle.std.specs.List.{AllByRecursion}
use Rattle.std.specs.Str.{bytes_eq}
use Rattle.std.proofs.lemmas.Option.{same_Some}
use Rattle.std.proofs.lemmas.Slice.Eq.{bytes_eq-Decides}
use Rattle.dt_model.specs.Names.{Name}
use Rattle.dt_model.specs.Path.{Path}
use Rattle.dt_model.specs.Tree.{Property, Node, node_below}
use Rattle.dt_model.specs.Valid.{AreDistinct, names}
use Rattle.dt_trees.specs.Placed.{Nodes, no_nodes, node, forest_of, place_below, last_name}
use Rattle.dt_read.specs.TreeTokens.{Parts, heads_of, head_named}
use Rattle.dt_read.specs.Order.{Rise}
use Rattle.dt_read.proofs.Ordering.{HasBelow, rise_bounds}

-- a step by whether a name is the first sibling's
abbrev pub Next : ℕ → ℕ → Nodes → Nodes → Name → Path → ℕ → Bool → Type 0
Next at place children siblings x p k b = cond b (place_below place children p) (place_below at siblings (x ∷ p)) ≡ Some k

-- ---- places lie between those of the siblings around

pub between : (nodes : Nodes) (at low high : ℕ) (x : Name) (p : Path) (k : ℕ) → Rise low nodes high → place_below at nodes (x ∷ p) ≡ Some k → (low ≤ k) × (k < high)
between no_nodes at low high x p k r e = absurd cc
between (node place name properties children siblings) at low high x p k r e =
    by_name (bytes_eq x name) e (λ y q f. between children place (place + 1) r.1 y q k r.2 f) (λ f. between siblings at r.1 high x p k r.3 f)
  where
    here : (q : Path) → place_below place children q ≡ Some k → ((y : Name) (q : Path) → place_below place children (y ∷ q) ≡ Some k → (place + 1 ≤ k) × (k < r.1)) → (low ≤ k) × (k < high)
    here [] f inside = let is = same_Some place k f in let c = rise_bounds children (place + 1) r.1 r.2 in let s = rise_bounds siblings r.1 high r.3 in let first = r.0 in (omega arith, omega arith)
    here (y ∷ q) f inside = let b = inside y q f in let s = rise_bounds siblings r.1 high r.3 in let first = r.0 in (omega arith, omega arith)

    by_name : (b : Bool) → Next at place children siblings x p k b → ((y : Name) (q : Path) → place_below place children (y ∷ q) ≡ Some k → (place + 1 ≤ k) × (k < r.1)) → (place_below at siblings (x ∷ p) ≡ Some k → (r.1 ≤ k) × (k < high)) → (low ≤ k) × (k < high)
    by_name true f inside after = here p f inside
    by_name false f inside after = let b = after f in let c = rise_bounds children (place + 1) r.1 r.2 in let first = r.0 in (omega arith, omega arith)

-- inside the first sibling, itself included
inside_first : (nodes : Nodes) (place middle : ℕ) (p : Path) (k : ℕ) → Rise (place + 1) nodes middle → place_below place nodes p ≡ Some k → k < middle
inside_first nodes place middle [] k r e = let is = same_Some place k e in let b = rise_bounds nodes (place + 1) middle r in omega arith
inside_first nodes place middle (x ∷ p) k r e = (between nodes place (place + 1) middle x p k r e).1

pub one_path : (nodes : Nodes) (at low high : ℕ) (p q : Path) (k : ℕ) → at < low → Rise low nodes high → place_below at nodes p ≡ Some k → place_below at nodes q ≡ Some k → p ≡ q
one_path nodes at low high [] [] k less r e f = refl
one_path nodes at low high [] (y ∷ q) k less r e f = let is = same_Some at k e in let b = between nodes at low high y q k r f in absurd (omega arith)
one_path nodes at low high (x ∷ p) [] k less r e f = let is = same_Some at k f in let b = between nodes at low high x p k r e in absurd (omega arith)
one_path no_nodes at low high (x ∷ p) (y ∷ q) k less r e f = absurd cc
one_path (node place name properties children siblings) at low high (x ∷ p) (y ∷ q) k less r e f =
    by_names (bytes_eq x name) (bytes_eq y name) refl refl e f
    (λ e f. one_path children place (place + 1) r.1 p q k (omega arith) r.2 e f)
    (λ e f. one_path siblings at r.1 high (x ∷ p) (y ∷ q) k (let c = rise_bounds children (place + 1) r.1 r.2 in let first = r.0 in omega arith) r.3 e f)
  where
    by_names : (b c : Bool) → bytes_eq x name ≡ b → bytes_eq y name ≡ c → Next at place children siblings x p k b → Next at place children siblings y q k c
        → (place_below place children p ≡ Some k → place_below place children q ≡ Some k → p ≡ q)
        → (place_below at siblings (x ∷ p) ≡ Some k → place_below at siblings (y ∷ q) ≡ Some k → (x ∷ p) ≡ (y ∷ q)) → (x ∷ p) ≡ (y ∷ q)
    by_names true true u v e f inside after =
        let same : x ≡ y = (bytes_eq-Decides x name).0 u ∙ sym ((bytes_eq-Decides y name).0 v) in
        let rest = inside e f in
        λ i. same i ∷ rest i
    by_names true false u v e f inside after = let a = inside_first children place r.1 p k r.2 e in let b = between siblings at r.1 high y q k r.3 f in absurd (omega arith)
    by_names false true u v e f inside after = let a = inside_first children place r.1 q k r.2 f in let b = between siblings at r.1 high x p k r.3 e in absurd (omega arith)
    by_names false false u v e f inside after = after e f

-- ---- the node at a place

abbrev pub plain : Parts → Node
plain parts = record { properties = parts.properties; children = forest_of parts.children }

-- below some siblings the node of a path is there
pub record FoundBelow (at : ℕ) (nodes : Nodes) (ps : List Property) (x : Name) (p : Path) (k : ℕ) : Type 0 where
  pub parts : Parts
  pub below : HasBelow nodes k parts
  pub there : node_below (record { properties = ps; children = forest_of nodes }) (x ∷ p) ≡ Some (plain parts)
  pub name : last_name (x ∷ p) ≡ parts.name
  pub more : (z : Name) → place_below at nodes ((x ∷ p) ++ z ∷ []) ≡ place_below k parts.children (z ∷ [])

pub found_below_path : (nodes : Nodes) (at : ℕ) (ps : List Property) (x : Name) (p : Path) (k : ℕ) → place_below at nodes (x ∷ p) ≡ Some k → FoundBelow at nodes ps x p k
found_below_path no_nodes at ps x p k e = absurd cc
found_below_path (node place name properties children siblings) at ps x p k e =
    by_name (bytes_eq x name) refl e (λ y q f. found_below_path children place properties y q k f) (λ f. found_below_path siblings at ps x p k f)
  where
    here : (q : Path) → p ≡ q → bytes_eq x name ≡ true → place_below place children q ≡ Some k → ((y : Name) (q : Path) → place_below place children (y ∷ q) ≡ Some k → FoundBelow place children properties y q k)
        → FoundBelow at (node place name properties children siblings) ps x q k
    here [] s u f inside = record {
      parts = record { name = name; properties = properties; children = children; siblings = siblings };
      below = inl (same_Some place k f, refl);
      there = rw u refl;
      name = (bytes_eq-Decides x name).0 u;
      more = λ z. rw u (ap (λ (n : ℕ). place_below n children (z ∷ [])) (same_Some place k f));
    }
    here (y ∷ q) s u f inside =
        let b = inside y q f in
        record {
          parts = b.parts;
          below = inr (inl b.below);
          there = rw u b.there;
          name = b.name;
          more = λ z. rw u (b.more z);
        }

    by_name : (b : Bool) → bytes_eq x name ≡ b → Next at place children siblings x p k b → ((y : Name) (q : Path) → place_below place children (y ∷ q) ≡ Some k → FoundBelow place children properties y q k)
        → (place_below at siblings (x ∷ p) ≡ Some k → FoundBelow at siblings ps x p k) → FoundBelow at (node place name properties children siblings) ps x p k
    by_name true u f inside after = here p refl u f inside
    by_name false u f inside after =
        let b = after f in
        record {
          parts = b.parts;
          below = inr (inr b.below);
          there = rw u b.there;
          name = b.name;
          more = λ z. rw u (b.more z);
        }

-- ---- the places of children

skips : (k place : ℕ) (name : Name) (properties : List Property) (children siblings : Nodes) (xs : List Name) → AllByRecursion (λ y. y ≢ name) xs
    → map (λ x. place_below k (node place name properties children siblings) (x ∷ [])) xs ≡ map (λ x. place_below k siblings (x ∷ [])) xs
skips k place name properties children siblings [] a = refl
skips k place name properties children siblings (x ∷ xs) a =
    let rest = skips k place name properties children siblings xs a.1 in
    let differ : bytes_eq x name ≡ false = by_test (bytes_eq x name) refl in
    let one : place_below k (node place name properties children siblings) (x ∷ []) ≡ place_below k siblings (x ∷ []) = rw differ refl in
    λ i. one i ∷ rest i
  where
    by_test : (b : Bool) → bytes_eq x name ≡ b → bytes_eq x name ≡ false
    by_test true is = absurd (a.0 ((bytes_eq-Decides x name).0 is))
    by_test false is = is

pub child_place : (k : ℕ) (nodes : Nodes) (x : Name) → place_below k nodes (x ∷ []) ≡ head_named (heads_of nodes) x
child_place k no_nodes x = refl
child_place k (node place name properties children siblings) x = ap (cond (bytes_eq x name) (Some place)) (child_place k siblings x)

pub child_places : (k : ℕ) (nodes : Nodes) → AreDistinct (names (forest_of nodes)) → map (λ x. place_below k nodes (x ∷ [])) (names (forest_of nodes)) ≡ map (λ n. Some n) (map (λ h. h.0) (heads_of nodes))
child_places k no_nodes d = refl
child_places k (node place name properties children siblings) d =
    let same : bytes_eq name name ≡ true = (bytes_eq-Decides name name).1 refl in
    let one : place_below k (node place name properties children siblings) (name ∷ []) ≡ Some place = rw same refl in
    let rest = skips k place name properties children siblings (names (forest_of siblings)) d.0 ∙ child_places k siblings d.1 in
    λ i. one i ∷ rest i
