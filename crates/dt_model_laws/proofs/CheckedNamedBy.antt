-- A named tree with the nodes and labels that stand after events, and these values, by tests at finitely many paths and names.
use Rattle.std.proofs.Common.{◌≡◌, ◌+◌, Bool, true, ◌&&◌, List, [], ◌∷◌, Option, Some, None, is_some, reverse, refl, sym, ap, ◌∙◌}
use Rattle.std.specs.List.{AllByRecursion, list_all}
use Rattle.std.specs.Option.{option_map, option_map_or}
use Rattle.std.specs.Str.{bytes_eq}
use Rattle.dt_model.specs.Names.{Name}
use Rattle.dt_model.specs.Path.{Path, path_eq}
use Rattle.dt_model.specs.Lists.{IsIn}
use Rattle.dt_model.specs.Meaning.{Item}
use Rattle.dt_model.specs.Event.{Stack, stands, value_at, names, age, property_age, label_age}
use Rattle.dt_model.specs.Source.{Part, Events}
use Rattle.dt_model.specs.Overlay.{OverlayReference}
use Rattle.dt_model.specs.Named as named
use Rattle.dt_model.specs.Named.{NodeReference, NamedProperty, Named, NamedNode, NamedPlaced, node_at, content_in, value_of, node_count, nodes_of}
use Rattle.dt_model.specs.NamedOf.{IsNamedBy, RefersBelow, contents_of, meant}
use Rattle.dt_model.specs.Ordered.{IsNamedInOrder}
use Rattle.dt_model.proofs.Tests.{and_left, and_right, all_at, each_in}
use Rattle.dt_model.proofs.Cases.{map_some, some_there}
use Rattle.dt_model_laws.proofs.InOrder.{opens_among, defines_among, gives_among, falls, children_in_order, properties_in_order, labels_in_order}
use Rattle.dt_model_laws.proofs.CheckedWords.{agree, same_answer, has, has_in, same_names, same_paths}
use Rattle.dt_model_laws.proofs.CheckedEvents.{covers_events, node_covered, value_covered, turned_back}
use Rattle.dt_model_laws.proofs.NamedListed.{at_listed}
use Rattle.dt_model_laws.proofs.NamedValues.{property_names, value_listed}

-- ---- the order

-- a node's children, properties and labels stand in order
abbrev are_children : Events → Stack → List Name → Bool
are_children es q xs = list_all (opens_among q xs) es && (list_all (λ x. stands es (x ∷ q)) xs && falls (λ x. age es (x ∷ q)) xs)

abbrev are_properties : Events → Stack → List Name → Bool
are_properties es q xs = list_all (defines_among q xs) es && (list_all (λ x. is_some (value_at es q x)) xs && falls (λ x. property_age es q x) xs)

abbrev are_labels : Events → Stack → List Name → Bool
are_labels es q ls = list_all (gives_among q ls) es && (list_all (λ l. names es l q) ls && falls (λ l. label_age es l q) ls)

three : (a b c : Bool) → a && (b && c) ≡ true → (a ≡ true) × (b ≡ true) × (c ≡ true)
three a b c h = (and_left a (b && c) h, and_left b c (and_right a (b && c) h), and_right b c (and_right a (b && c) h))

abbrev is_in_order : Events → Path → NamedNode NodeReference → Bool
is_in_order es p n = are_children es (reverse p) (named.names n.children) && (are_properties es (reverse p) (property_names n.content.properties) && are_labels es (reverse p) n.content.labels)

-- ---- the tests

-- the node is at one of these paths, and its properties have these names
abbrev is_placed : List Path → List Name → NamedPlaced NodeReference → Bool
is_placed qs ns n = has path_eq qs n.path && list_all (λ (x : NamedProperty NodeReference). has bytes_eq ns x.name) n.content.properties

-- the values by paths and names
abbrev pub Values : Type 0
Values = Path → Name → Option (List (Item OverlayReference))

abbrev SameValue : Values → Named NodeReference → Path → Name → Type 0
SameValue value t p x = option_map (meant t) (value_of (content_in t p).properties x) ≡ value p x

-- each value is of a property that stands after the events
abbrev pub AreDefined : Events → Values → Type 0
AreDefined es value = (p : Path) (x : Name) (items : List (Item OverlayReference)) → value p x ≡ Some items → (v : List Part) × (value_at es (reverse p) x ≡ Some v)

pub record IsCheckedBy (es : Events) (value : Values) (qs : List Path) (ns : List Name) (t : Named NodeReference) : Type 0 where
  pub placed : list_all (is_placed qs ns) (nodes_of t) ≡ true
  pub nodes : list_all (λ p. agree (is_some (node_at t p)) (stands es (reverse p))) qs ≡ true
  pub values : AllByRecursion (λ p. AllByRecursion (SameValue value t p) ns) qs
  pub referred : AllByRecursion (RefersBelow (1 + node_count t.children)) (contents_of t)
  pub ordered : list_all (λ p. option_map_or (is_in_order es p) (node_at t p) true) qs ≡ true

module _ (es : Events) (value : Values) (defined : AreDefined es value) (qs : List Path) (ns : List Name) (covered : covers_events qs ns es ≡ true) (t : Named NodeReference) (h : IsCheckedBy es value qs ns t) where
  node_within : (p : Path) (c : NamedNode NodeReference) → node_at t p ≡ Some c → IsIn p qs
  node_within p c e =
      let n : NamedPlaced NodeReference = record { path = p; content = c.content } in
      has_in path_eq same_paths qs p (and_left (has path_eq qs p) (list_all (λ (x : NamedProperty NodeReference). has bytes_eq ns x.name) c.content.properties) (all_at (is_placed qs ns) (nodes_of t) n h.placed (at_listed t p c e)))

  same_nodes : (p : Path) → is_some (node_at t p) ≡ stands es (reverse p)
  same_nodes p =
      same_answer (IsIn p qs) (is_some (node_at t p)) (stands es (reverse p)) (λ k. let c = some_there (node_at t p) k in node_within p c.0 c.1)
      (λ k. turned_back p qs (node_covered qs ns es covered (reverse p) k)) (all_at (λ p. agree (is_some (node_at t p)) (stands es (reverse p))) qs p h.nodes)

  -- ---- values

  same_option : {A : Type 0} (X : Type 0) (a b : Option A) → ((v : A) → a ≡ Some v → X) → ((v : A) → b ≡ Some v → X) → (X → a ≡ b) → a ≡ b
  same_option X None None f g h = refl
  same_option X None (Some y) f g h = h (g y refl)
  same_option X (Some x) b f g h = h (f x refl)

  property_within : (p : Path) (x : Name) (v : List (Item NodeReference)) → value_of (content_in t p).properties x ≡ Some v → IsIn p qs × IsIn x ns
  property_within p x v k = step (node_at t p) refl k
    where
      step : (o : Option (NamedNode NodeReference)) → node_at t p ≡ o → value_of (option_map_or (λ n. n.content) o (record { labels = []; properties = [] })).properties x ≡ Some v → IsIn p qs × IsIn x ns
      step None e z = absurd (let no : None ≡ Some v = z in cc)
      step (Some c) e z =
          let n : NamedPlaced NodeReference = record { path = p; content = c.content } in
          let all = and_right (has path_eq qs p) (list_all (λ (x : NamedProperty NodeReference). has bytes_eq ns x.name) c.content.properties) (all_at (is_placed qs ns) (nodes_of t) n h.placed (at_listed t p c e)) in (
            node_within p c e,
            has_in bytes_eq same_names ns x (all_at (λ (x : NamedProperty NodeReference). has bytes_eq ns x.name) c.content.properties (record { name = x; value = v }) all (value_listed c.content.properties x v z)),
          )

  same_values : (p : Path) (x : Name) → SameValue value t p x
  same_values p x =
      same_option (IsIn p qs × IsIn x ns) (option_map (meant t) (value_of (content_in t p).properties x)) (value p x)
      (λ v k. let w = map_some (meant t) (value_of (content_in t p).properties x) v k in property_within p x w.0 w.1)
      (λ v k.
      let w = defined p x v k in
      let c = value_covered qs ns es covered (reverse p) x w.0 w.1 in
      (turned_back p qs c.0, c.1))
      (λ i. each_in (SameValue value t p) ns x (each_in (λ p. AllByRecursion (SameValue value t p) ns) qs p h.values i.0) i.1)

  -- ---- the order

  node_in_order : (p : Path) (c : NamedNode NodeReference) → node_at t p ≡ Some c → is_in_order es p c ≡ true
  node_in_order p c e =
      ap (λ o. option_map_or (is_in_order es p) o true) (sym e) ∙ all_at (λ p. option_map_or (is_in_order es p) (node_at t p) true) qs p h.ordered (node_within p c e)

  each_ordered : (p : Path) (c : NamedNode NodeReference) → node_at t p ≡ Some c
      → (are_children es (reverse p) (named.names c.children) ≡ true) × (are_properties es (reverse p) (property_names c.content.properties) ≡ true)
      × (are_labels es (reverse p) c.content.labels ≡ true)
  each_ordered p c e =
      three (are_children es (reverse p) (named.names c.children)) (are_properties es (reverse p) (property_names c.content.properties)) (are_labels es (reverse p) c.content.labels)
      (node_in_order p c e)

  in_order : IsNamedInOrder es t
  in_order = record {
    children = λ p c e.
        let xs = named.names c.children in
        let k = three (list_all (opens_among (reverse p) xs) es) (list_all (λ x. stands es (x ∷ reverse p)) xs) (falls (λ x. age es (x ∷ reverse p)) xs) (each_ordered p c e).0 in
        children_in_order es (reverse p) xs k.0 k.1 k.2;
    properties = λ p c e.
        let xs = property_names c.content.properties in
        let k = three (list_all (defines_among (reverse p) xs) es) (list_all (λ x. is_some (value_at es (reverse p) x)) xs) (falls (λ x. property_age es (reverse p) x) xs) (each_ordered p c e).1 in
        properties_in_order es (reverse p) xs k.0 k.1 k.2;
    labels = λ p c e.
        let ls = c.content.labels in
        let k = three (list_all (gives_among (reverse p) ls) es) (list_all (λ l. names es l (reverse p)) ls) (falls (λ l. label_age es l (reverse p)) ls) (each_ordered p c e).2 in
        labels_in_order es (reverse p) ls k.0 k.1 k.2;
  }

  pub checked_by : IsNamedBy es value t
  checked_by = record { nodes = same_nodes; values = same_values; referred = h.referred; order = in_order }
