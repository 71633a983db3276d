-- The tree that rows make is that of the events.
use Rattle.std.proofs.Common.{◌≡◌, ℕ, zero, suc, ◌+◌, ◌-◌, ◌<◌, ◌≤◌, Bool, true, false, cond, List, [], ◌∷◌, map, length, reverse, Option, None, Some, option_map, unwrap_or, slice_get, refl, sym, ap, subst, ◌∙◌, inl, inr, arith}
use Rattle.std.specs.List.{AllByRecursion}
use Rattle.std.specs.Option.{option_and_then, option_map_or}
use Rattle.std.specs.Str.{bytes_eq}
use Rattle.std.proofs.lemmas.List.{reverse-reverse}
use Rattle.std.proofs.lemmas.Option.{slice_get-map, slice_get_within}
use Rattle.dt_model.specs.Limits.{most_names}
use Rattle.dt_model.specs.Names.{Name}
use Rattle.dt_model.specs.Path.{Path}
use Rattle.dt_model.specs.Meaning.{Item}
use Rattle.dt_model.specs.Event.{Stack, value_at}
use Rattle.dt_model.specs.Overlay.{OverlayReference}
use Rattle.dt_model.specs.Source.{Reference, Part, Events, referent}
use Rattle.dt_model.specs.Lists.{IsIn}
use Rattle.dt_model.specs.Named.{NodeReference, Content, NamedProperty, Named, NamedNode, NamedPlaced, Listed, node_at, content_in, value_of, node_count, nodes_of, paths_of, list_of}
use Rattle.dt_model.specs.NamedOf.{path_among, meant, IsBelow, RefersBelow, IsNamedBy}
use Rattle.dt_model.specs.Ordered.{ArePropertiesInOrder, AreLabelsInOrder}
use Rattle.dt_model.proofs.Tests.{bytes_eq_true, bytes_eq_differ, in_map_from}
use Rattle.dt_source_growing.specs.declared.growing.Node.{Node}
use Rattle.dt_source_growing.specs.declared.growing.Property.{Property}
use Rattle.dt_source_growing.specs.declared.growing.Giving.{Giving}
use Rattle.dt_source_nodes.specs.declared.listing.Row.{Row}
use Rattle.dt_source_growing.specs.Grown.{StandsUnder, IsGrown}
use Rattle.dt_source_nodes.specs.Owned.{AreOwned}
use Rattle.dt_source_nodes.specs.Listing.{name_of, rows_of, ArePlaces, tree_with, listed_row}
use Rattle.dt_source_growing.specs.declared.referring.Unnamed.{Unnamed}
use Rattle.dt_source_nodes.specs.Contents.{property_owner, label_owner, AreNamedBy, AreLabelled, all_read, read_values, content_of, AreResolved}
use Rattle.dt_source_nodes.proofs.ChildrenLed.{AreChildren, leads_once, leads_child, child_led, leads_within}
use Rattle.dt_source_nodes.proofs.Walking.{walk, rows-nodes, rows-count, forest-count, forest-listed}
use Rattle.dt_source_nodes.proofs.Placing.{Pairwise, IsPlacedAt, forest-placed, all_walked}
use Rattle.dt_source_nodes.proofs.Standing.{found_at, led_at, nodes_stand, children_in_order}
use Rattle.dt_source_nodes.proofs.Binding.{referent_stands}
use Rattle.dt_source_nodes.proofs.Filling.{properties_in_order, labels_in_order, values_stand, values_refer}

-- ---- lists side by side

pair_at : {X Y : Type 0} (R : X → Y → Type 0) (xs : List X) (ys : List Y) (j : ℕ) (y : Y) → Pairwise R xs ys → slice_get ys j ≡ Some y → (x : X) × (slice_get xs j ≡ Some x) × R x y
pair_at R [] [] j y h e = cc
pair_at R [] (z ∷ ys) j y h e = absurd h
pair_at R (x ∷ xs) [] j y h e = absurd h
pair_at R (x ∷ xs) (z ∷ ys) zero y h e = let same : z ≡ y = cc in (x, refl, subst (R x) same h.0)
pair_at R (x ∷ xs) (z ∷ ys) (suc j) y h e = pair_at R xs ys j y h.1 e

each_pair : {X Y Z : Type 0} (R : X → Y → Type 0) (f : X → Z) (P : Z → Type 0) (xs : List X) (ys : List Y) → Pairwise R xs ys → ((x : X) (y : Y) → R x y → P (f x)) → AllByRecursion P (map f xs)
each_pair R f P [] ys h each = tt
each_pair R f P (x ∷ xs) [] h each = absurd h
each_pair R f P (x ∷ xs) (y ∷ ys) h each = (each x y h.0, each_pair R f P xs ys h.1 each)

path_there : (ns : List (NamedPlaced NodeReference)) (j : ℕ) (n : NamedPlaced NodeReference) → slice_get ns j ≡ Some n → path_among (map (λ (m : NamedPlaced NodeReference). m.path) ns) j ≡ n.path
path_there [] j n h = cc
path_there (m ∷ ns) zero n h = let same : m ≡ n = cc in ap (λ (l : NamedPlaced NodeReference). l.path) same
path_there (m ∷ ns) (suc j) n h = path_there ns j n h

in_at : {X : Type 0} (xs : List X) (x : X) → IsIn x xs → (j : ℕ) × (slice_get xs j ≡ Some x)
in_at [] x h = absurd h
in_at (y ∷ xs) x (inl e) = (0, ap (λ z. Some z) (sym e))
in_at (y ∷ xs) x (inr h) = let w = in_at xs x h in (suc w.0, w.1)

-- ---- the node of some names

-- the first of the children that has the name
abbrev pub child_of : (ℕ → Name) → Name → List ℕ → Option ℕ
child_of name x [] = None
child_of name x (c ∷ cs) = cond (bytes_eq x (name c)) (Some c) (child_of name x cs)

-- the node to which names lead
abbrev pub led : (ℕ → Name) → (ℕ → List ℕ) → Stack → Option ℕ
led name children [] = Some 0
led name children (x ∷ p) = option_and_then (λ k. child_of name x (children k)) (led name children p)

-- the place that it has
abbrev pub place_by : (ℕ → Name) → (ℕ → List ℕ) → List (Option ℕ) → Stack → ℕ
place_by name children places p = unwrap_or (option_and_then (λ k. option_and_then (λ o. o) (slice_get places k)) (led name children p)) 0

child_found : (name : ℕ → Name) (x : Name) (cs : List ℕ) (c : ℕ) → IsIn c cs → name c ≡ x → (d : ℕ) × (child_of name x cs ≡ Some d) × IsIn d cs × (name d ≡ x)
child_found name x [] c h e = absurd h
child_found name x (b ∷ cs) c h e = step (bytes_eq x (name b)) refl h (λ g. child_found name x cs c g e)
  where
    Found : List ℕ → Option ℕ → Type 0
    Found bs o = (d : ℕ) × (o ≡ Some d) × IsIn d bs × (name d ≡ x)

    step : (t : Bool) → bytes_eq x (name b) ≡ t → IsIn c (b ∷ cs) → (IsIn c cs → Found cs (child_of name x cs)) → Found (b ∷ cs) (cond t (Some b) (child_of name x cs))
    step true f i more = (b, refl, inl refl, sym (bytes_eq_true x (name b) f))
    step false f (inl same) more = absurd (bytes_eq_differ x (name b) f (sym e ∙ ap name same))
    step false f (inr later) more = let w = more later in (w.0, w.1, inr w.2, w.3)

module _ (nodes : List Node) (children : ℕ → List ℕ) (are : AreChildren nodes children) (one : (p : Stack) (i j : ℕ) → StandsUnder nodes p i → StandsUnder nodes p j → i ≡ j) where
  led_there : (p : Stack) (k : ℕ) → StandsUnder nodes p k → led (name_of nodes) children p ≡ Some k
  led_there [] k h = ap (λ (n : ℕ). Some n) (sym h.0)
  led_there (x ∷ p) k h =
      let parent = h.0.parent in
      let above = led_there p parent h.5 in
      let child = child_led nodes x p parent k (λ j g. one p j parent g h.5) h in
      let found = child_found (name_of nodes) x (children parent) k (are.complete parent k (leads_within nodes p parent h.5) child.0) child.1 in
      let other : StandsUnder nodes (x ∷ p) found.0 = subst (λ (y : Name). StandsUnder nodes (y ∷ p) found.0) found.3 (leads_child nodes p parent found.0 h.5 (are.sound parent found.0 found.2)) in
      ap (option_and_then (λ j. child_of (name_of nodes) x (children j))) above ∙ (found.1 ∙ ap (λ (n : ℕ). Some n) (one (x ∷ p) found.0 k other h))

  module _ (rows : List Row) (all : map (λ (r : Row). r.node) rows ≡ 0 ∷ walk children most_names 0) (shallow : (p : Stack) (k : ℕ) → StandsUnder nodes p k → length p ≤ most_names)
      (places : List (Option ℕ)) (ordered : ArePlaces rows (length nodes) places) where
    place_there : (p : Stack) (k : ℕ) → StandsUnder nodes p k → (i : ℕ) × (slice_get places k ≡ Some (Some i)) × (place_by (name_of nodes) children places p ≡ i)
    place_there p k h =
        let few : length p ≤ most_names = shallow p k h in
        let whole : length p + (most_names - length p) ≡ most_names = omega arith in
        let none : ℕ → Content NodeReference = λ j. record { labels = []; properties = [] } in
        let walked = (all_walked nodes children are none one most_names p k (most_names - length p) h whole).0 in
        let row = in_map_from (λ (r : Row). r.node) rows k (subst (IsIn k) (sym all) walked) in
        let there = in_at rows row.0 row.1 in
        let within : row.0.node < length nodes = subst (λ (j : ℕ). j < length nodes) row.2 (leads_within nodes p k h) in
        let given = ordered.complete there.0 row.0 there.1 within in
        let at : slice_get places k ≡ Some (Some given.0) = ap (slice_get places) row.2 ∙ given.1 in
        let joined : Option (Option ℕ) → ℕ = λ o. unwrap_or (option_and_then (λ i. i) o) 0 in
        let place : Option ℕ → ℕ = λ o. unwrap_or (option_and_then (λ j. option_and_then (λ i. i) (slice_get places j)) o) 0 in
        (given.0, at, ap place (led_there p k h) ∙ ap joined at)

    pub named_by : AreNamedBy nodes places (length rows) (place_by (name_of nodes) children places)
    named_by = record {
      there = λ p k h. let w = place_there p k h in w.1 ∙ ap (λ (i : ℕ). Some (Some i)) (sym w.2);
      below = λ p k h.
          let w = place_there p k h in
          let row = ordered.sound k w.0 w.1 in
          subst (λ (i : ℕ). i < length rows) (sym w.2) (slice_get_within rows w.0 row.0 row.1);
    }

-- ---- the tree

module _ (nodes : List Node) (properties : List Property) (givings : List Giving) (es : Events) (grown : IsGrown nodes properties givings es) (rooted : StandsUnder nodes [] 0)
    (children : ℕ → List ℕ) (are : AreChildren nodes children) (property_indices label_indices : ℕ → List ℕ)
    (own_properties : AreOwned (map property_owner properties) (length nodes) property_indices) (own_labels : AreOwned (map label_owner givings) (length nodes) label_indices)
    (unnamed : Unnamed) (place : Stack → ℕ) (reservations : List (ℕ × ℕ)) where
  abbrev content : ℕ → Content NodeReference
  content = content_of unnamed es place properties givings property_indices label_indices

  abbrev tree : Named NodeReference
  tree = tree_with reservations (name_of nodes) content children

  root : Row
  root = record { node = 0; parent = 0 }

  abbrev rows : List Row
  rows = rows_of children most_names (record { node = 0; parent = 0 }) 0

  pub rows_are : map (λ (r : Row). r.node) rows ≡ 0 ∷ walk children most_names 0
  rows_are = ap (λ (ks : List ℕ). 0 ∷ ks) (rows-nodes children most_names 0 0)

  -- as many nodes as rows
  pub count_is : 1 + node_count tree.children ≡ length rows
  count_is =
      let nodes_there = forest-count (name_of nodes) content children most_names 0 in
      let rows_there = rows-count children most_names 0 0 in
      omega arith

  -- the rows are its list
  pub list_is : map (listed_row (name_of nodes) content) rows ≡ list_of tree
  list_is = ap (λ (xs : List (Listed NodeReference)). listed_row (name_of nodes) content (record { node = 0; parent = 0 }) ∷ xs) (sym (forest-listed (name_of nodes) content children most_names 0 0))

  pub placed : Pairwise (IsPlacedAt nodes children are content) (nodes_of tree) (0 ∷ walk children most_names 0)
  placed = ((rooted, refl), forest-placed nodes children are content most_names 0 [] rooted)

  module _ (places : List (Option ℕ)) (ordered : ArePlaces rows (length nodes) places) (named : AreNamedBy nodes places (length rows) place) where
    -- the path of the place of some names
    path_is : (p : Stack) (k : ℕ) → StandsUnder nodes p k → path_among (paths_of tree) (place p) ≡ reverse p
    path_is p k h =
        let row = ordered.sound k (place p) (named.there p k h) in
        let at : slice_get (0 ∷ walk children most_names 0) (place p) ≡ Some k =
        ap (λ (ks : List ℕ). slice_get ks (place p)) (sym rows_are) ∙ (slice_get-map (λ (r : Row). r.node) rows (place p) ∙ (ap (option_map (λ (r : Row). r.node)) row.1 ∙ ap (λ (j : ℕ). Some j) row.2)) in
        let pair = pair_at (IsPlacedAt nodes children are content) (nodes_of tree) (0 ∷ walk children most_names 0) (place p) k placed at in
        let same : reverse pair.0.path ≡ p = leads_once nodes (reverse pair.0.path) p k pair.2.0 h in
        path_there (nodes_of tree) (place p) pair.0 pair.1 ∙ (sym (reverse-reverse pair.0.path) ∙ ap (λ (q : Stack). reverse q) same)

    module _ (resolved : AreResolved unnamed nodes properties es) (labelled : AreLabelled unnamed es) where
      path_of_referent : (r : Reference) (p : Stack) → referent es r ≡ Some p → path_among (paths_of tree) (place p) ≡ reverse p
      path_of_referent r p h = let k = referent_stands nodes properties givings es grown r p h in path_is p k.0 k.1

      values : (p : Path) (x : Name) → option_map (meant tree) (value_of (content_in tree p).properties x) ≡ option_and_then (all_read unnamed es) (value_at es (reverse p) x)
      values p x = step (node_at tree p) refl
        where
          shown : Option (NamedNode NodeReference) → Option (List (Item OverlayReference))
          shown o = option_map (meant tree) (value_of (option_map_or (λ (n : NamedNode NodeReference). n.content) o (record { labels = []; properties = [] })).properties x)

          none : node_at tree p ≡ None → (b : Option (List Part)) → value_at es (reverse p) x ≡ b → None ≡ option_and_then (all_read unnamed es) b
          none e None f = refl
          none e (Some v) f =
              let value = grown.values_are (reverse p) x v f in
              let there = led_at nodes properties givings es grown children are content reservations rooted p value.1.property.node value.1.node in
              let no : None ≡ Some there.0 = sym e ∙ there.1 in cc

          step : (o : Option (NamedNode NodeReference)) → node_at tree p ≡ o → shown (node_at tree p) ≡ option_and_then (all_read unnamed es) (value_at es (reverse p) x)
          step None e = ap shown e ∙ none e (value_at es (reverse p) x) refl
          step (Some n) e =
              let found = found_at nodes properties givings es grown children are content reservations rooted p n e in
              let held : n.content ≡ content found.0 = ap (λ (m : NamedNode NodeReference). m.content) found.3 in
              ap shown e ∙ (ap (λ (c : Content NodeReference). option_map (meant tree) (value_of c.properties x)) held
              ∙ values_stand nodes properties givings es grown property_indices label_indices own_properties own_labels unnamed place resolved (path_among (paths_of tree)) path_of_referent
              (reverse p) found.0 x found.2)

      refers_below : (n : NamedPlaced NodeReference) (k : ℕ) → IsPlacedAt nodes children are content n k → RefersBelow (1 + node_count tree.children) n.content
      refers_below n k at =
          subst (RefersBelow (1 + node_count tree.children)) (sym at.1)
          (values_refer nodes properties givings es grown property_indices label_indices own_properties own_labels unnamed place resolved (path_among (paths_of tree)) path_of_referent labelled
          (IsBelow (1 + node_count tree.children))
          (λ r p h. let w = referent_stands nodes properties givings es grown r p h in
          subst (λ (m : ℕ). place p < m) (sym count_is) (named.below p w.0 w.1)) (λ l label. label) (reverse n.path) k at.0)

      -- what a node that a path leads to has
      content_here : (Q : Path → Content NodeReference → Type 0) → ((p : Path) (k : ℕ) → StandsUnder nodes (reverse p) k → Q p (content k)) →
          (p : Path) (n : NamedNode NodeReference) → node_at tree p ≡ Some n → Q p n.content
      content_here Q each p n e =
          let found = found_at nodes properties givings es grown children are content reservations rooted p n e in
          subst (Q p) (sym (ap (λ (m : NamedNode NodeReference). m.content) found.3)) (each p found.0 found.2)

      pub named_after : IsNamedBy es (read_values unnamed es) tree
      named_after = record {
        nodes = nodes_stand nodes properties givings es grown children are content reservations rooted;
        values = values;
        referred = each_pair (IsPlacedAt nodes children are content) (λ (n : NamedPlaced NodeReference). n.content) (RefersBelow (1 + node_count tree.children)) (nodes_of tree)
            (0 ∷ walk children most_names 0) placed refers_below;
        order = record {
          children = children_in_order nodes properties givings es grown children are content reservations rooted;
          properties = content_here (λ p c. ArePropertiesInOrder es p (map (λ (x : NamedProperty NodeReference). x.name) c.properties))
              (properties_in_order nodes properties givings es grown property_indices label_indices own_properties own_labels unnamed place);
          labels = content_here (λ p c. AreLabelsInOrder es p c.labels)
              (labels_in_order nodes properties givings es grown property_indices label_indices own_properties own_labels unnamed place);
        };
      }
