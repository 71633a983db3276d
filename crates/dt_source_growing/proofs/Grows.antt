-- A sound tree that shows what stands after events is what these grow.
use Rattle.std.proofs.Common.{◌≡◌, ℕ, ◌≤◌, true, false, List, [], Option, Some, None, is_some, length, option_map, refl, sym, ◌∙◌, ap, arith}
use Rattle.std.specs.Option.{option_and_then, option_map_or}
use Rattle.std.proofs.lemmas.Option.{option_and_then_some, slice_get_within}
use Rattle.dt_model.specs.Limits.{most_names}
use Rattle.dt_model.specs.Names.{Name}
use Rattle.dt_model.specs.Event.{Stack, stands}
use Rattle.dt_model.specs.Source.{Part, Events}
use Rattle.dt_source_growing.specs.Shape.{node_at, property_at, given_at, Shows}
use Rattle.dt_source_growing.specs.Grown.{HasValue, HasLabel, IsGrown, value_held}
use Rattle.dt_source_growing.specs.Growing.{properties_listed, shape, IsSoundGrowing}
use Rattle.dt_source_growing.specs.Table.{name_entry}
use Rattle.dt_source_growing.specs.declared.growing.Property.{Property}
use Rattle.dt_source_growing.specs.declared.growing.Growing.{Growing}
use Rattle.dt_source_growing.proofs.Listings.{found_stands}
use Rattle.dt_source_growing.proofs.Soundness.{is_property, is_given, given_is}
use Rattle.dt_source_growing.proofs.Leading.{leads_to, leads_from, leads_one}

some_is : {A : Type 0} (o : Option A) → is_some o ≡ true → (a : A) × (o ≡ Some a)
some_is None h = cc
some_is (Some a) h = (a, refl)

module _ (g : Growing) (h : IsSoundGrowing g) where
  -- a value of a node that stands is the one that is found
  pub value_to : (p : Stack) (x : Name) (v : List Part) (i : ℕ) → HasValue g.nodes.items g.properties.items p x v i → (property_at (shape g) (p, x) ≡ Some i) × ((shape g).value i ≡ Some v)
  value_to p x v i e =
      let l = properties_listed g.properties.items g.indices in
      let owner : l.owner i ≡ e.property.node = ap (λ (o : Option Property). option_map_or (λ n. n.node) o 0) e.there in
      let named : l.name i ≡ x = ap (λ (o : Option Property). option_map_or (λ n. n.name.now) o []) e.there ∙ e.named in
      let stood : l.stands i ≡ true = ap (λ (o : Option Property). option_map_or (λ n. n.stands) o false) e.there ∙ e.stands in
      let last : l.last (l.owner i) (l.name i) ≡ Some i = h.has_properties.indexed.complete i (omega arith) (slice_get_within g.properties.items i e.property e.there) stood in
      let here : l.last e.property.node x ≡ Some i = rw (owner, named) at last in
      let at : node_at (shape g) p ≡ Some e.property.node = leads_to g h p e.property.node e.node in (
        ap (option_and_then (λ k. (shape g).property k x)) at ∙ found_stands l e.property.node x i here stood,
        ap (option_map (λ (q : Property). value_held q.value)) e.there ∙ ap Some e.value,
      )

  pub value_from : (p : Stack) (x : Name) (v : List Part) (i : ℕ) → property_at (shape g) (p, x) ≡ Some i → (shape g).value i ≡ Some v → HasValue g.nodes.items g.properties.items p x v i
  value_from p x v i e w =
      option_and_then_some (λ k. (shape g).property k x) (node_at (shape g) p) i e
      (λ k e1 e2.
      let q = is_property (length g.nodes.items) g.properties.items g.indices h.has_properties k x i e2 in
      let same : Some (value_held q.property.value) ≡ Some v = sym (ap (option_map (λ (q : Property). value_held q.value)) q.there) ∙ w in
      record {
        property = q.property;
        there = q.there;
        stands = q.stands;
        named = q.name;
        value = cc;
        node = leads_from g h p q.property.node (e1 ∙ ap Some (sym q.node));
      })

  pub label_to : (l : Name) (p : Stack) (i : ℕ) → HasLabel g.nodes.items g.givings.items l p i → (given_at (shape g) (p, l) ≡ Some i) × (name_entry g.labels.map.entries l ≡ Some i)
  label_to l p i e =
      let at : node_at (shape g) p ≡ Some e.giving.node = leads_to g h p e.giving.node e.node in
      let last : name_entry g.labels.map.entries l ≡ Some i = ap (name_entry g.labels.map.entries) (sym e.label) ∙ h.has_labels.latest p i e.giving e.there at in
      (ap (option_and_then (λ k. (shape g).given k l)) at ∙ given_is g.givings.items g.labels.map.entries l i e.giving last e.there, last)

  pub label_from : (l : Name) (p : Stack) (i : ℕ) → given_at (shape g) (p, l) ≡ Some i → HasLabel g.nodes.items g.givings.items l p i
  label_from l p i e =
      option_and_then_some (λ k. (shape g).given k l) (node_at (shape g) p) i e
      (λ k e1 e2.
      let q = is_given (shape g) g.givings.items g.labels.map.entries h.has_labels k l i e2 in
      record { giving = q.giving; there = q.there; label = q.label; node = leads_from g h p q.giving.node (e1 ∙ ap Some (sym q.node)) })

  pub grown : (es : Events) → Shows (shape g) es → ((p : Stack) → stands es p ≡ true → length p ≤ most_names) → IsGrown g.nodes.items g.properties.items g.givings.items es
  grown es s shallow = record {
    above = λ k n from at. h.has_nodes.above k n from at;
    shallow = λ p k l. shallow p (sym (s.nodes p) ∙ ap is_some (leads_to g h p k l));
    nodes_are = λ p e. let k = some_is (node_at (shape g) p) (s.nodes p ∙ e) in (k.0, leads_from g h p k.0 k.1);
    nodes_stand = λ p k l. sym (s.nodes p) ∙ ap is_some (leads_to g h p k l);
    one_node = leads_one g h;
    nodes_in_order = λ p q j k l m less. s.node_ages.order p q j k (leads_to g h p j l) (leads_to g h q k m) less;
    values_are = λ p x v e.
        option_and_then_some (shape g).value (property_at (shape g) (p, x)) v (s.values p x ∙ e)
        (λ i e1 e2. (i, value_from p x v i e1 e2));
    values_stand = λ p x v i e. let t = value_to p x v i e in sym (s.values p x) ∙ ap (option_and_then (shape g).value) t.0 ∙ t.1;
    one_value = λ p x v w i j e f. let same : Some i ≡ Some j = sym (value_to p x v i e).0 ∙ (value_to p x w j f).0 in cc;
    values_in_order = λ p x y v w i j e f less. s.property_ages.order (p, x) (p, y) i j (value_to p x v i e).0 (value_to p y w j f).0 less;
    labels_are = λ l p e. let k = some_is (given_at (shape g) (p, l)) (s.labels p l ∙ e) in (k.0, label_from l p k.0 k.1);
    labels_stand = λ l p i e. sym (s.labels p l) ∙ ap is_some (label_to l p i e).0;
    one_label = λ l p q i j e f. let same : Some i ≡ Some j = sym (label_to l p i e).1 ∙ (label_to l q j f).1 in cc;
    labels_in_order = λ l k p i j e f less. s.label_ages.order (p, l) (p, k) i j (label_to l p i e).0 (label_to k p j f).0 less;
  }
