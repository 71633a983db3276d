-- The tree's nodes are those that stand, and its children stand in the order of the text.
use Rattle.std.proofs.Common.{◌≡◌, ℕ, zero, suc, ◌+◌, ◌<◌, ◌≤◌, Bool, true, false, List, [], ◌∷◌, ◌++◌, map, length, reverse, Option, None, Some, is_some, refl, sym, ap, subst, ◌∙◌, inl, inr, arith, append-nil}
use Rattle.std.specs.List.{AllByRecursion}
use Rattle.std.proofs.lemmas.List.{length-reverse}
use Rattle.dt_model.specs.Limits.{most_names}
use Rattle.dt_model.specs.Names.{Name}
use Rattle.dt_model.specs.Path.{Path}
use Rattle.dt_model.specs.Event.{Stack, stands, age}
use Rattle.dt_model.specs.Source.{Events}
use Rattle.dt_model.specs.Lists.{IsIn, FallBy}
use Rattle.dt_model.specs.Named.{NodeReference, Content, Named, NamedForest, NamedNode, node_at, names}
use Rattle.dt_model.specs.Ordered.{AreChildrenInOrder}
use Rattle.dt_model.proofs.Tests.{each_from, in_map, in_map_from}
use Rattle.dt_source_growing.specs.declared.growing.Node.{Node}
use Rattle.dt_source_growing.specs.declared.growing.Property.{Property}
use Rattle.dt_source_growing.specs.declared.growing.Giving.{Giving}
use Rattle.dt_source_growing.specs.Grown.{StandsUnder, IsGrown}
use Rattle.dt_source_nodes.specs.Owned.{AreRising}
use Rattle.dt_source_nodes.specs.Listing.{trees_of, forest_below, name_of, tree_with}
use Rattle.dt_source_nodes.proofs.ChildrenLed.{AreChildren, IsChild, leads_child, child_led, leads_within}
use Rattle.dt_source_nodes.proofs.Placing.{grown_node, found_below, led_below}

-- what is younger in turn falls by age, where places that rise have things of one kind
pub falls_by : {X : Type 0} (age : X → ℕ) (thing : ℕ → X) (is : List ℕ) → ((i j : ℕ) → IsIn i is → IsIn j is → i < j → age (thing j) < age (thing i)) →
    AreRising is → FallBy age (map thing is)
falls_by age thing [] younger rising = tt
falls_by {X} age thing (i ∷ is) younger rising = (behind is (λ j h. inr h) rising.0, falls_by age thing is (λ j k h g. younger j k (inr h) (inr g)) rising.1)
  where
    behind : (js : List ℕ) → ((j : ℕ) → IsIn j js → IsIn j (i ∷ is)) → AllByRecursion (λ j. i < j) js → AllByRecursion (λ (y : X). age y < age (thing i)) (map thing js)
    behind [] among above = tt
    behind (j ∷ js) among above = (younger i j (inl refl) (among j (inl refl)) above.0, behind js (λ k h. among k (inr h)) above.1)

names_of_trees : (name : ℕ → Name) (content : ℕ → Content NodeReference) (below : ℕ → NamedForest NodeReference) (ks : List ℕ) → names (trees_of name content below ks) ≡ map name ks
names_of_trees name content below [] = refl
names_of_trees name content below (k ∷ ks) = ap (λ (xs : List Name). name k ∷ xs) (names_of_trees name content below ks)

module _ (nodes : List Node) (properties : List Property) (givings : List Giving) (es : Events) (grown : IsGrown nodes properties givings es)
    (children : ℕ → List ℕ) (are : AreChildren nodes children) (content : ℕ → Content NodeReference) where
  -- the tree
  abbrev pub tree : List (ℕ × ℕ) → Named NodeReference
  tree reservations = tree_with reservations (name_of nodes) content children

  -- what a path leads to is a node that stands
  pub found_at : (reservations : List (ℕ × ℕ)) (rooted : StandsUnder nodes [] 0) (p : Path) (n : NamedNode NodeReference) → node_at (tree reservations) p ≡ Some n →
      (j left : ℕ) × StandsUnder nodes (reverse p) j × (n ≡ grown_node nodes children are content left j) × (left + length p ≡ most_names)
  found_at reservations rooted p n e =
      let found = found_below nodes children are content p most_names 0 [] n rooted e in
      let end : reverse p ++ [] ≡ reverse p = append-nil (reverse p) in
      let size : found.1 + length (reverse p ++ []) ≡ most_names + 0 = found.4 in
      let same : length (reverse p ++ []) ≡ length p = ap (λ (r : Stack). length r) end ∙ length-reverse p in
      (found.0, found.1, subst (λ (r : Stack). StandsUnder nodes r found.0) end found.2, found.3, omega arith)

  pub led_at : (reservations : List (ℕ × ℕ)) (rooted : StandsUnder nodes [] 0) (p : Path) (j : ℕ) → StandsUnder nodes (reverse p) j →
      (n : NamedNode NodeReference) × (node_at (tree reservations) p ≡ Some n)
  led_at reservations rooted p j h =
      let end : reverse p ≡ reverse p ++ [] = sym (append-nil (reverse p)) in
      let few : length (reverse p) ≤ most_names = grown.shallow (reverse p) j h in
      let same : length (reverse p) ≡ length p = length-reverse p in
      led_below nodes children are content grown.one_node p most_names 0 [] j rooted (subst (λ (r : Stack). StandsUnder nodes r j) end h) (omega arith)

  -- a path leads to a node exactly where the node stands
  pub nodes_stand : (reservations : List (ℕ × ℕ)) (rooted : StandsUnder nodes [] 0) (p : Path) → is_some (node_at (tree reservations) p) ≡ stands es (reverse p)
  nodes_stand reservations rooted p = step (node_at (tree reservations) p) refl (stands es (reverse p)) refl
    where
      step : (o : Option (NamedNode NodeReference)) → node_at (tree reservations) p ≡ o → (b : Bool) → stands es (reverse p) ≡ b → is_some o ≡ b
      step None e true s =
          let led = grown.nodes_are (reverse p) s in
          let found = led_at reservations rooted p led.0 led.1 in
          let there : Some found.0 ≡ None = sym found.1 ∙ e in cc
      step None e false s = refl
      step (Some n) e true s = refl
      step (Some n) e false s =
          let found = found_at reservations rooted p n e in
          let there : true ≡ false = sym (grown.nodes_stand (reverse p) found.0 found.2) ∙ s in absurd (cc)

  -- ---- children

  names_here : (left j : ℕ) (q : Stack) → StandsUnder nodes q j → left + length q ≡ most_names → names (forest_below (name_of nodes) content children left j) ≡ map (name_of nodes) (children j)
  unfolding forest_below
  names_here zero j q h e = step (children j) (are.sound j)
    where
      step : (cs : List ℕ) → ((c : ℕ) → IsIn c cs → IsChild nodes j c) → [] ≡ map (name_of nodes) cs
      step [] all = refl
      step (c ∷ cs) all =
          let deep : length (name_of nodes c ∷ q) ≤ most_names = grown.shallow (name_of nodes c ∷ q) c (leads_child nodes q j c h (all c (inl refl))) in
          let full : 0 + length q ≡ most_names = e in
          let more : suc (length q) ≤ most_names = deep in absurd (omega arith)
  names_here (suc left) j q h e = names_of_trees (name_of nodes) content (forest_below (name_of nodes) content children left) (children j)

  pub children_in_order : (reservations : List (ℕ × ℕ)) (rooted : StandsUnder nodes [] 0) (p : Path) (n : NamedNode NodeReference) → node_at (tree reservations) p ≡ Some n → AreChildrenInOrder es p (names n.children)
  children_in_order reservations rooted p n e =
      let found = found_at reservations rooted p n e in
      let j = found.0 in
      let size : found.1 + length p ≡ most_names = found.4 in
      let same : length (reverse p) ≡ length p = length-reverse p in
      let full : found.1 + length (reverse p) ≡ most_names = omega arith in
      let here : names n.children ≡ map (name_of nodes) (children j) = ap (λ (m : NamedNode NodeReference). names m.children) found.3 ∙ names_here found.1 j (reverse p) found.2 full in
      subst (AreChildrenInOrder es p) (sym here) (in_order j found.2)
    where
      in_order : (j : ℕ) → StandsUnder nodes (reverse p) j → AreChildrenInOrder es p (map (name_of nodes) (children j))
      in_order j h =
          let led : (c : ℕ) → IsIn c (children j) → StandsUnder nodes (name_of nodes c ∷ reverse p) c = λ c i. leads_child nodes (reverse p) j c h (are.sound j c i) in
          record {
            sound = each_from (λ (x : Name). stands es (x ∷ reverse p) ≡ true) (map (name_of nodes) (children j))
                (λ x i. let w = in_map_from (name_of nodes) (children j) x i in
                subst (λ (y : Name). stands es (y ∷ reverse p) ≡ true) (sym w.2) (grown.nodes_stand (name_of nodes w.0 ∷ reverse p) w.0 (led w.0 w.1)));
            complete = λ x s.
                let k = grown.nodes_are (x ∷ reverse p) s in
                let child = child_led nodes x (reverse p) j k.0 (λ i g. grown.one_node (reverse p) i j g h) k.1 in
                subst (λ (y : Name). IsIn y (map (name_of nodes) (children j))) child.1
                (in_map (name_of nodes) (children j) k.0 (are.complete j k.0 (leads_within nodes (reverse p) j h) child.0));
            sorted = falls_by (λ (x : Name). age es (x ∷ reverse p)) (name_of nodes) (children j)
                (λ c d i k below. grown.nodes_in_order (name_of nodes c ∷ reverse p) (name_of nodes d ∷ reverse p) c d (led c i) (led d k) below) (are.rising j);
          }
