-- What the tree's nodes have is what stands: values, properties and labels in the order of the text.
use Rattle.std.proofs.Common.{◌≡◌, ℕ, Bool, true, false, cond, List, [], ◌∷◌, map, length, reverse, Option, None, Some, IsSome, is_some, option_map, unwrap_or, slice_get, refl, sym, ap, subst, ◌∙◌, inl, inr}
use Rattle.std.specs.List.{AllByRecursion}
use Rattle.std.specs.Option.{option_and_then, option_map_or}
use Rattle.std.specs.Str.{bytes_eq}
use Rattle.std.proofs.lemmas.Option.{slice_get-map}
use Rattle.dt_model.specs.Names.{Name, IsLabel}
use Rattle.dt_model.specs.Path.{Path}
use Rattle.dt_model.specs.Meaning.{Item, item_renamed, EachReference}
use Rattle.dt_model.specs.Event.{Stack, value_at, names, property_age, label_age}
use Rattle.dt_model.specs.Overlay.{inside, outside, reference_renamed}
use Rattle.dt_model.specs.Source.{Part, Reference, Events, referent}
use Rattle.dt_model.specs.Lists.{IsIn}
use Rattle.dt_model.specs.Named.{NodeReference, Content, NamedProperty, value_of}
use Rattle.dt_model.specs.Ordered.{ArePropertiesInOrder, AreLabelsInOrder}
use Rattle.dt_model.proofs.Tests.{bytes_eq_true, bytes_eq_differ, each_from, in_map, in_map_from}
use Rattle.dt_model.proofs.Cases.{map_some, some_there}
use Rattle.dt_source_growing.specs.declared.growing.Node.{Node}
use Rattle.dt_source_growing.specs.declared.growing.Property.{Property}
use Rattle.dt_source_growing.specs.declared.growing.Giving.{Giving}
use Rattle.dt_source_growing.specs.Grown.{StandsUnder, HasValue, HasLabel, IsGrown, value_held}
use Rattle.dt_source_nodes.specs.Owned.{AreOwned}
use Rattle.dt_source_growing.specs.declared.referring.Unnamed.{Unnamed}
use Rattle.dt_source_nodes.specs.Contents.{property_owner, label_owner, named_parts, AreLabelled, all_read, named_property, property_at, label_at, content_of, AreResolved}
use Rattle.dt_source_nodes.proofs.ChildrenLed.{leads_within}
use Rattle.dt_source_nodes.proofs.Standing.{falls_by}
use Rattle.dt_source_nodes.proofs.Binding.{parts_told, parts_refer}

-- ---- look-ups by name

-- a value that is found is that of a property of the name
value_found : (ps : List (NamedProperty NodeReference)) (x : Name) (v : List (Item NodeReference)) → value_of ps x ≡ Some v → (p : NamedProperty NodeReference) × IsIn p ps × (p.name ≡ x) × (p.value ≡ v)
value_found [] x v h = cc
value_found (p ∷ ps) x v h = step (λ g. value_found ps x v g) (bytes_eq x p.name) refl h
  where
    Found : List (NamedProperty NodeReference) → Type 0
    Found qs = (q : NamedProperty NodeReference) × IsIn q qs × (q.name ≡ x) × (q.value ≡ v)

    step : (value_of ps x ≡ Some v → Found ps) → (b : Bool) → bytes_eq x p.name ≡ b → cond b (Some p.value) (value_of ps x) ≡ Some v → Found (p ∷ ps)
    step more true e g = (p, inl refl, sym (bytes_eq_true x p.name e), cc)
    step more false e g = let found = more g in (found.0, inr found.1, found.2, found.3)

-- where none is found no property has the name
value_missed : (ps : List (NamedProperty NodeReference)) (x : Name) (p : NamedProperty NodeReference) → value_of ps x ≡ None → IsIn p ps → p.name ≡ x → ⊥
value_missed [] x p h i e = absurd i
value_missed (q ∷ ps) x p h i e = step (λ g j. value_missed ps x p g j e) (bytes_eq x q.name) refl h i
  where
    step : (value_of ps x ≡ None → IsIn p ps → ⊥) → (b : Bool) → bytes_eq x q.name ≡ b → cond b (Some q.value) (value_of ps x) ≡ None → IsIn p (q ∷ ps) → ⊥
    step more true d g j = cc
    step more false d g (inl same) = bytes_eq_differ x q.name d (sym e ∙ ap (λ (r : NamedProperty NodeReference). r.name) same)
    step more false d g (inr later) = more g later

-- the property of an index
property_there : (unnamed : Unnamed) (es : Events) (place : Stack → ℕ) (properties : List Property) (i : ℕ) (q : Property) → slice_get properties i ≡ Some q →
    property_at unnamed es place properties i ≡ named_property unnamed es place q
property_there unnamed es place properties i q h = ap (λ (o : Option Property). option_map_or (named_property unnamed es place) o (record { name = []; value = [] })) h

-- ---- owners

pub owner_stands : (q : Property) (k : ℕ) → property_owner q ≡ Some k → (q.stands ≡ true) × (q.node ≡ k)
owner_stands q k h = step q.stands refl h
  where
    step : (b : Bool) → q.stands ≡ b → cond b (Some q.node) None ≡ Some k → (q.stands ≡ true) × (q.node ≡ k)
    step true e g = (e, cc)
    step false e g = cc

module _ (nodes : List Node) (properties : List Property) (givings : List Giving) (es : Events) (grown : IsGrown nodes properties givings es)
    (property_indices label_indices : ℕ → List ℕ) (own_properties : AreOwned (map property_owner properties) (length nodes) property_indices)
    (own_labels : AreOwned (map label_owner givings) (length nodes) label_indices) (unnamed : Unnamed) (place : Stack → ℕ) where
  abbrev pub content : ℕ → Content NodeReference
  content = content_of unnamed es place properties givings property_indices label_indices

  -- the property of an index that belongs to a node that stands
  owned_property : (p : Stack) (k i : ℕ) → StandsUnder nodes p k → IsIn i (property_indices k) →
      (q : Property) × (slice_get properties i ≡ Some q) × (q.stands ≡ true) × StandsUnder nodes p q.node
  owned_property p k i h among =
      let found = map_some property_owner (slice_get properties i) (Some k) (sym (slice_get-map property_owner properties i) ∙ own_properties.sound k i among) in
      let owner = owner_stands found.0 k found.2 in
      (found.0, found.1, owner.0, subst (StandsUnder nodes p) (sym owner.1) h)

  -- it is a value of the node
  has_value : (p : Stack) (k i : ℕ) (h : StandsUnder nodes p k) (among : IsIn i (property_indices k)) →
      (q : Property) × (slice_get properties i ≡ Some q) × HasValue nodes properties p (property_at unnamed es place properties i).name (value_held q.value) i
  has_value p k i h among =
      let w = owned_property p k i h among in
      let named : w.0.name.now ≡ (property_at unnamed es place properties i).name =
      sym (ap (λ (q : NamedProperty NodeReference). q.name) (property_there unnamed es place properties i w.0 w.1)) in
      (w.0, w.1, record { property = w.0; there = w.1; stands = w.2; named = named; value = refl; node = w.3 })

  -- each value of a node is at an index that belongs to it
  value_owned : (p : Stack) (k : ℕ) (x : Name) (v : List Part) (i : ℕ) → StandsUnder nodes p k → HasValue nodes properties p x v i →
      IsIn i (property_indices k) × ((property_at unnamed es place properties i).name ≡ x)
  value_owned p k x v i h value =
      let same : value.property.node ≡ k = grown.one_node p value.property.node k value.node h in
      let owner : property_owner value.property ≡ Some k = ap (λ (b : Bool). cond b (Some value.property.node) None) value.stands ∙ ap (λ (j : ℕ). Some j) same in
      let there : slice_get (map property_owner properties) i ≡ Some (Some k) =
      slice_get-map property_owner properties i ∙ (ap (option_map property_owner) value.there ∙ ap (λ (o : Option ℕ). Some o) owner) in (
        own_properties.complete k i (leads_within nodes p k h) there,
        ap (λ (q : NamedProperty NodeReference). q.name) (property_there unnamed es place properties i value.property value.there) ∙ value.named,
      )

  -- ---- order

  -- the properties of a node stand in the order of the text
  pub properties_in_order : (path : Path) (k : ℕ) → StandsUnder nodes (reverse path) k → ArePropertiesInOrder es path (map (λ (x : NamedProperty NodeReference). x.name) (content k).properties)
  properties_in_order path k h = subst (ArePropertiesInOrder es path) (sym (names_again (property_indices k))) in_order
    where
      name : ℕ → Name
      name i = (property_at unnamed es place properties i).name

      names_again : (is : List ℕ) → map (λ (x : NamedProperty NodeReference). x.name) (map (property_at unnamed es place properties) is) ≡ map (λ (i : ℕ). (property_at unnamed es place properties i).name) is
      names_again [] = refl
      names_again (i ∷ is) = ap (λ (xs : List Name). (property_at unnamed es place properties i).name ∷ xs) (names_again is)

      in_order : ArePropertiesInOrder es path (map (λ (i : ℕ). (property_at unnamed es place properties i).name) (property_indices k))
      in_order = record {
        sound = each_from (λ (x : Name). is_some (value_at es (reverse path) x) ≡ true) (map (λ (i : ℕ). (property_at unnamed es place properties i).name) (property_indices k))
            (λ x among. let w = in_map_from (λ (i : ℕ). (property_at unnamed es place properties i).name) (property_indices k) x among in
            let value = has_value (reverse path) k w.0 h w.1 in
            subst (λ (y : Name). is_some (value_at es (reverse path) y) ≡ true) (sym w.2)
            (ap is_some (grown.values_stand (reverse path) (property_at unnamed es place properties w.0).name (value_held value.0.value) w.0 value.2)));
        complete = λ x there.
            let v = some_there (value_at es (reverse path) x) there in
            let value = grown.values_are (reverse path) x v.0 v.1 in
            let owned = value_owned (reverse path) k x v.0 value.0 h value.1 in
            subst (λ (y : Name). IsIn y (map (λ (i : ℕ). (property_at unnamed es place properties i).name) (property_indices k))) owned.1
            (in_map (λ (i : ℕ). (property_at unnamed es place properties i).name) (property_indices k) value.0 owned.0);
        sorted = falls_by (property_age es (reverse path)) (λ (i : ℕ). (property_at unnamed es place properties i).name) (property_indices k)
            (λ i j a b below.
            let first = has_value (reverse path) k i h a in
            let second = has_value (reverse path) k j h b in
            grown.values_in_order (reverse path) (property_at unnamed es place properties i).name (property_at unnamed es place properties j).name
            (value_held first.0.value) (value_held second.0.value) i j first.2 second.2 below)
            (own_properties.rising k);
      }

  -- the label of an index that belongs to a node
  has_label : (p : Stack) (k i : ℕ) → StandsUnder nodes p k → IsIn i (label_indices k) → HasLabel nodes givings (label_at givings i) p i
  has_label p k i h among =
      let found = map_some label_owner (slice_get givings i) (Some k) (sym (slice_get-map label_owner givings i) ∙ own_labels.sound k i among) in
      let node : found.0.node ≡ k = let e = found.2 in cc in
      let label : found.0.label.now ≡ label_at givings i = sym (ap (λ (o : Option Giving). option_map_or (λ (g : Giving). g.label.now) o []) found.1) in
      record { giving = found.0; there = found.1; label = label; node = subst (StandsUnder nodes p) (sym node) h }

  label_owned : (p : Stack) (k : ℕ) (l : Name) (i : ℕ) → StandsUnder nodes p k → HasLabel nodes givings l p i → IsIn i (label_indices k) × (label_at givings i ≡ l)
  label_owned p k l i h label =
      let same : label.giving.node ≡ k = grown.one_node p label.giving.node k label.node h in
      let there : slice_get (map label_owner givings) i ≡ Some (Some k) =
      slice_get-map label_owner givings i ∙ (ap (option_map label_owner) label.there ∙ ap (λ (j : ℕ). Some (Some j)) same) in (
        own_labels.complete k i (leads_within nodes p k h) there,
        ap (λ (o : Option Giving). option_map_or (λ (g : Giving). g.label.now) o []) label.there ∙ label.label,
      )

  -- so do its labels
  pub labels_in_order : (path : Path) (k : ℕ) → StandsUnder nodes (reverse path) k → AreLabelsInOrder es path (content k).labels
  labels_in_order path k h =
      let p = reverse path in
      record {
        sound = each_from (λ (l : Name). names es l p ≡ true) (map (label_at givings) (label_indices k))
            (λ l among. let w = in_map_from (label_at givings) (label_indices k) l among in
            subst (λ (m : Name). names es m p ≡ true) (sym w.2) (grown.labels_stand (label_at givings w.0) p w.0 (has_label p k w.0 h w.1)));
        complete = λ l there.
            let label = grown.labels_are l p there in
            let owned = label_owned p k l label.0 h label.1 in
            subst (λ (m : Name). IsIn m (map (label_at givings) (label_indices k))) owned.1 (in_map (label_at givings) (label_indices k) label.0 owned.0);
        sorted = falls_by (λ (l : Name). label_age es l p) (label_at givings) (label_indices k)
            (λ i j a b below. grown.labels_in_order (label_at givings i) (label_at givings j) p i j (has_label p k i h a) (has_label p k j h b) below) (own_labels.rising k);
      }

  -- ---- values

  -- a value that is found in the node
  module _ (resolved : AreResolved unnamed nodes properties es) (path_of : ℕ → Path) (is : (r : Reference) (p : Stack) → referent es r ≡ Some p → path_of (place p) ≡ reverse p) where
    -- what the parts of a value that stands are
    named_there : (parts : List Part) → IsSome (all_read unnamed es parts) →
        (items : List (Item NodeReference)) × (named_parts unnamed es place parts ≡ Some items) × (all_read unnamed es parts ≡ Some (map (item_renamed (reference_renamed path_of)) items))
    named_there parts some = step (named_parts unnamed es place parts) refl
      where
        step : (o : Option (List (Item NodeReference))) → named_parts unnamed es place parts ≡ o →
            (items : List (Item NodeReference)) × (named_parts unnamed es place parts ≡ Some items) × (all_read unnamed es parts ≡ Some (map (item_renamed (reference_renamed path_of)) items))
        step None e =
            let none : None ≡ all_read unnamed es parts = ap (option_map (map (item_renamed (reference_renamed path_of)))) (sym e) ∙ parts_told unnamed es place reverse path_of is parts in
            let there : is_some (all_read unnamed es parts) ≡ true = some in cc
        step (Some items) e = (items, e, sym (parts_told unnamed es place reverse path_of is parts) ∙ ap (option_map (map (item_renamed (reference_renamed path_of)))) e)

    -- the values of a node are those that stand
    pub values_stand : (p : Stack) (k : ℕ) (x : Name) → StandsUnder nodes p k →
        option_map (map (item_renamed (reference_renamed path_of))) (value_of (content k).properties x) ≡ option_and_then (all_read unnamed es) (value_at es p x)
    values_stand p k x h = step (value_of (content k).properties x) refl (value_at es p x) refl
      where
        made : List (NamedProperty NodeReference)
        made = map (property_at unnamed es place properties) (property_indices k)

        step : (o : Option (List (Item NodeReference))) → value_of (content k).properties x ≡ o → (b : Option (List Part)) → value_at es p x ≡ b →
            option_map (map (item_renamed (reference_renamed path_of))) o ≡ option_and_then (all_read unnamed es) b
        step None e None f = refl
        step None e (Some parts) f =
            let value = grown.values_are p x parts f in
            let owned = value_owned p k x parts value.0 h value.1 in
            absurd (value_missed made x (property_at unnamed es place properties value.0) e (in_map (property_at unnamed es place properties) (property_indices k) value.0 owned.0) owned.1)
        step (Some v) e b f =
            let found = value_found made x v e in
            let index = in_map_from (property_at unnamed es place properties) (property_indices k) found.0 found.1 in
            let i = index.0 in
            let w = owned_property p k i h index.1 in
            let parts = value_held w.0.value in
            let items = named_there parts (resolved i w.0 p w.1 w.2 w.3) in
            let at : found.0 ≡ named_property unnamed es place w.0 = index.2 ∙ property_there unnamed es place properties i w.0 w.1 in
            let name : w.0.name.now ≡ x = sym (ap (λ (q : NamedProperty NodeReference). q.name) at) ∙ found.2 in
            let value : v ≡ items.0 =
            sym found.3 ∙ (ap (λ (q : NamedProperty NodeReference). q.value) at ∙ ap (λ (o : Option (List (Item NodeReference))). unwrap_or o []) items.1) in
            let there : value_at es p x ≡ Some parts = grown.values_stand p x parts i (record { property = w.0; there = w.1; stands = w.2; named = name; value = refl; node = w.3 }) in
            ap (λ (xs : List (Item NodeReference)). Some (map (item_renamed (reference_renamed path_of)) xs)) value ∙ (sym items.2 ∙ ap (option_and_then (all_read unnamed es)) (sym there ∙ f))

    -- and refer to nodes that have places
    pub values_refer : AreLabelled unnamed es → (P : NodeReference → Type 0) → ((r : Reference) (p : Stack) → referent es r ≡ Some p → P (inside (place p))) → ((l : Name) → IsLabel l → P (outside l)) → (p : Stack) (k : ℕ) → StandsUnder nodes p k →
        AllByRecursion (λ (q : NamedProperty NodeReference). EachReference P q.value) (content k).properties
    values_refer labelled P holds labels p k h = each_from (λ (q : NamedProperty NodeReference). EachReference P q.value) made (λ q among. refers q (in_map_from (property_at unnamed es place properties) (property_indices k) q among))
      where
        made : List (NamedProperty NodeReference)
        made = map (property_at unnamed es place properties) (property_indices k)

        refers : (q : NamedProperty NodeReference) → (i : ℕ) × IsIn i (property_indices k) × (q ≡ property_at unnamed es place properties i) → EachReference P q.value
        refers q index =
            let i = index.0 in
            let w = owned_property p k i h index.1 in
            let parts = value_held w.0.value in
            let items = named_there parts (resolved i w.0 p w.1 w.2 w.3) in
            let at : q ≡ named_property unnamed es place w.0 = index.2 ∙ property_there unnamed es place properties i w.0 w.1 in
            let value : items.0 ≡ q.value = sym (ap (λ (o : Option (List (Item NodeReference))). unwrap_or o []) items.1) ∙ sym (ap (λ (r : NamedProperty NodeReference). r.value) at) in
            let there : value_at es p w.0.name.now ≡ Some parts = grown.values_stand p w.0.name.now parts i (record { property = w.0; there = w.1; stands = w.2; named = refl; value = refl; node = w.3 }) in
            subst (EachReference P) value (parts_refer unnamed es place P holds labels parts (labelled p w.0.name.now parts there) items.0 items.1)
