-- Changes of the lists and tables of a tree under construction are changes of its shape.
use Rattle.std.proofs.Common.{◌≡◌, ℕ, ◌+◌, ◌<◌, Bool, true, false, List, [], ◌∷◌, ◌++◌, Option, Some, None, ◌&&◌, cond, nat_eq, length, slice_get, slice_set, option_map, refl, sym, ◌∙◌, ap, subst, arith, length-append}
use Rattle.std.specs.Option.{option_and_then, option_map_or}
use Rattle.std.specs.Str.{bytes_eq}
use Rattle.std.proofs.lemmas.Option.{slice_get_within}
use Rattle.std.proofs.lemmas.Bool.{eqb-true, eq-eqb}
use Rattle.dt_model.specs.Names.{Name}
use Rattle.dt_model.specs.Source.{Part}
use Rattle.dt_names.specs.declared.key.NameKey.{NameKey}
use Rattle.dt_source_growing.specs.Grown.{name_said, value_held}
use Rattle.dt_source_growing.specs.Table.{Key, entry, Puts, name_entry, PutsName}
use Rattle.dt_source_growing.specs.Shape.{Shape, begun, MakesRoot, AddsChild, OpensChild, Cuts, Defines, Undefines, Gives}
use Rattle.dt_source_growing.specs.Growing.{found, nodes_listed, properties_listed, item_of, to_node, shape_of, HasNodes, HasProperties, HasLabels}
use Rattle.dt_source_growing.specs.declared.table.Last.{Last}
use Rattle.dt_source_growing.specs.declared.growing.Node.{Node}
use Rattle.dt_source_growing.specs.declared.growing.Property.{Property}
use Rattle.dt_source_growing.specs.declared.growing.Giving.{Giving}
use Rattle.dt_model.proofs.Cases.{bool_cases}
use Rattle.dt_source_growing.proofs.TableLemmas.{key_is, key-refl}
use Rattle.dt_source_growing.proofs.Walks.{option_cases}
use Rattle.dt_source_growing.proofs.Indices.{begun-keeps, begun-not}
use Rattle.dt_source_growing.proofs.Listings.{giving_of, found_none, found-added, found-dropped, found-kept, listed-push, listed-drop, listed-again, listed-written, slice_get-push_old, slice_get-push_new, slice_get-set_same, slice_get-set_other, length-set}

-- what the table says of items after a put
pub item_of_put : (old new : List (Key × Last)) (i : ℕ) (x : Name) (w : Last) → Puts old new i x w → (j : ℕ) (y : Name)
    → item_of new j y ≡ cond (nat_eq i j && bytes_eq x y) (Some w.item) (item_of old j y)
item_of_put old new i x w puts j y = ap (option_map (λ (e : Last). e.item)) (puts j y) ∙ through (nat_eq i j && bytes_eq x y)
  where
    through : (b : Bool) → option_map (λ (e : Last). e.item) (cond b (Some w) (entry old j y)) ≡ cond b (Some w.item) (item_of old j y)
    through true = refl
    through false = refl

module _ (properties : List Property) (indices : List (Key × Last)) (givings : List Giving) (labels : List (NameKey × ℕ)) where
  pub makes_root : (nodes new : List Node) (children : List (Key × Last)) (n : Node) → HasNodes nodes children → length nodes ≡ 0 → new ≡ nodes ++ n ∷ []
      → MakesRoot (shape_of nodes children properties indices givings labels) (shape_of new children properties indices givings labels)
  makes_root nodes new children n h none e = record {
    none = none;
    size = ap length e ∙ length-append nodes (n ∷ []) ∙ ap (λ k. k + 1) none;
    child = λ i x. option_cases ((nodes_listed nodes children).last i x) (found (nodes_listed new children) i x ≡ found (nodes_listed nodes children) i x)
        (λ e. found_none (nodes_listed new children) i x e ∙ sym (found_none (nodes_listed nodes children) i x e))
        (λ k e. absurd (omega (arith, (h.indexed.sound i x k e).1)));
    opened = refl;
    properties = record { count = refl; property = refl; value = refl; defined = refl };
    labels = record { givings = refl; given = refl };
  }

  pub adds_child : (nodes new : List Node) (children found' : List (Key × Last)) (n : Node) (w : Last) → HasNodes nodes children → new ≡ nodes ++ n ∷ []
      → Puts children found' n.parent (name_said n.name) w → w.index ≡ length nodes → n.stands ≡ true
      → AddsChild (shape_of nodes children properties indices givings labels) (shape_of new found' properties indices givings labels) n.parent (name_said n.name) w.item
  adds_child nodes new children found' n w h e puts index here =
      subst (λ xs. AddsChild (shape_of nodes children properties indices givings labels) (shape_of xs found' properties indices givings labels) n.parent (name_said n.name) w.item) (sym e)
      record {
        size = length-append nodes (n ∷ []);
        child = found-added 1 (nodes_listed nodes children) (nodes_listed (nodes ++ n ∷ []) found') n.parent (name_said n.name) h.indexed
            (listed-push (λ (m : Node). m.parent) (λ (m : Node). name_said m.name) (λ (m : Node). m.stands) nodes n children found' w puts index here);
        opened = item_of_put children found' n.parent (name_said n.name) w puts;
        properties = record { count = refl; property = refl; value = refl; defined = refl };
        labels = record { givings = refl; given = refl };
      }

  pub opens_child : (nodes : List Node) (children found' : List (Key × Last)) (i : ℕ) (x : Name) (w : Last) → Puts children found' i x w → found (nodes_listed nodes children) i x ≡ Some w.index
      → OpensChild (shape_of nodes children properties indices givings labels) (shape_of nodes found' properties indices givings labels) i x w.item
  opens_child nodes children found' i x w puts there = record {
    size = refl;
    child = found-kept (nodes_listed nodes children) (nodes_listed nodes found') (listed-again (λ (m : Node). m.parent) (λ (m : Node). name_said m.name) (λ (m : Node). m.stands) nodes children found' i x w puts there);
    opened = item_of_put children found' i x w puts;
    properties = record { count = refl; property = refl; value = refl; defined = refl };
    labels = record { givings = refl; given = refl };
  }

  -- a node that stands doesn't any more
  pub cuts : (nodes : List Node) (children : List (Key × Last)) (k : ℕ) (n m : Node) → HasNodes nodes children → 0 < k → slice_get nodes k ≡ Some n → n.stands ≡ true
      → m.parent ≡ n.parent → name_said m.name ≡ name_said n.name → m.stands ≡ false
      → Cuts (shape_of nodes children properties indices givings labels) (shape_of (slice_set nodes k m) children properties indices givings labels)
      ((nodes_listed nodes children).owner k) ((nodes_listed nodes children).name k)
  cuts nodes children k n m h from there stands parent name fell =
      let l = nodes_listed nodes children in
      let inside : k < length nodes = slice_get_within nodes k n there in
      let stood : l.stands k ≡ true = ap (λ (o : Option Node). option_map_or (λ n. n.stands) o false) there ∙ stands in
      let fewer = found-dropped 1 l (nodes_listed (slice_set nodes k m) children) k h.indexed inside (h.indexed.complete k (omega arith) inside stood)
      (listed-drop (λ (m : Node). m.parent) (λ (m : Node). name_said m.name) (λ (m : Node). m.stands) nodes k n m children there parent name fell) in
      record {
        size = length-set nodes k m;
        child = fewer;
        opened = refl;
        properties = record { count = refl; property = refl; value = refl; defined = refl };
        labels = record { givings = refl; given = refl };
      }

  -- no such child stands
  pub cuts_nothing : (nodes : List Node) (children : List (Key × Last)) (a : ℕ) (y : Name) → found (nodes_listed nodes children) a y ≡ None
      → Cuts (shape_of nodes children properties indices givings labels) (shape_of nodes children properties indices givings labels) a y
  cuts_nothing nodes children a y none = record {
    size = refl;
    child = λ i x. bool_cases (nat_eq a i && bytes_eq y x) (found (nodes_listed nodes children) i x ≡ cond (nat_eq a i && bytes_eq y x) None (found (nodes_listed nodes children) i x))
        (λ t. let c : (a ≡ i) × (y ≡ x) = key_is a i y x t in rw t (rw (← c.0, ← c.1) none))
        (λ f. rw f refl);
    opened = refl;
    properties = record { count = refl; property = refl; value = refl; defined = refl };
    labels = record { givings = refl; given = refl };
  }

module _ (nodes : List Node) (children : List (Key × Last)) (givings : List Giving) (labels : List (NameKey × ℕ)) where
  -- a property that stands is written over
  pub defines_again : (properties : List Property) (indices found' : List (Key × Last)) (k : ℕ) (q r : Property) (i : ℕ) (x : Name) (w : Last) → slice_get properties k ≡ Some q
      → r.node ≡ q.node → r.name.now ≡ q.name.now → r.stands ≡ q.stands → Puts indices found' i x w → w.index ≡ k → found (properties_listed properties indices) i x ≡ Some k
      → (new : List Property) → new ≡ slice_set properties k r
      → Defines (shape_of nodes children properties indices givings labels) (shape_of nodes children new found' givings labels) i x (value_held r.value) w.item
  defines_again properties indices found' k q r i x w there node name stands puts index here new e =
      let l = properties_listed properties indices in
      let m = properties_listed (slice_set properties k r) found' in
      let same : (j : ℕ) (y : Name) → found m j y ≡ found l j y = found-kept l m
      (listed-written (λ (m : Property). m.node) (λ (m : Property). m.name.now) (λ (m : Property). m.stands) properties k q r indices found' i x w there node name stands puts (here ∙ ap Some (sym index))) in
      subst (λ xs. Defines (shape_of nodes children properties indices givings labels) (shape_of nodes children xs found' givings labels) i x (value_held r.value) w.item) (sym e)
      record {
        nodes = record { size = refl; child = refl; opened = refl };
        property = λ j y. same j y ∙ bool_cases (nat_eq i j && bytes_eq x y) (found l j y ≡ begun (nat_eq i j && bytes_eq x y) (length properties) (found l j y))
            (λ t. let c : (i ≡ j) × (x ≡ y) = key_is i j x y t in
            let at : found l j y ≡ Some k = rw (← c.0, ← c.1) here in
            at ∙ sym (begun-keeps (nat_eq i j && bytes_eq x y) (length properties) k (found l j y) at))
            (λ f. rw f (sym (begun-not (length properties) (found l j y))));
        value = λ j e. let s : Some k ≡ Some j = sym (same i x ∙ here) ∙ e in let kj : k ≡ j = cc in
            subst (λ j. option_map (λ (q : Property). value_held q.value) (slice_get (slice_set properties k r) j) ≡ Some (value_held r.value)) kj
            (ap (option_map (λ (q : Property). value_held q.value)) (slice_get-set_same properties k r q there));
        others = λ j below other. ap (option_map (λ (q : Property). value_held q.value))
            (slice_get-set_other properties k j r (λ kj. other (same i x ∙ here ∙ ap Some kj)));
        defined = item_of_put indices found' i x w puts;
        labels = record { givings = refl; given = refl };
      }

  pub defines_new : (properties new : List Property) (indices found' : List (Key × Last)) (size : ℕ) (q : Property) (w : Last) → HasProperties size properties indices → new ≡ properties ++ q ∷ []
      → Puts indices found' q.node q.name.now w → w.index ≡ length properties → q.stands ≡ true → found (properties_listed properties indices) q.node q.name.now ≡ None
      → Defines (shape_of nodes children properties indices givings labels) (shape_of nodes children new found' givings labels) q.node q.name.now (value_held q.value) w.item
  defines_new properties new indices found' size q w h e puts index here none =
      let l = properties_listed properties indices in
      let m = properties_listed (properties ++ q ∷ []) found' in
      let more : (j : ℕ) (y : Name) → found m j y ≡ cond (nat_eq q.node j && bytes_eq q.name.now y) (Some (length properties)) (found l j y) = found-added 0 l m q.node q.name.now h.indexed
      (listed-push (λ (m : Property). m.node) (λ (m : Property). m.name.now) (λ (m : Property). m.stands) properties q indices found' w puts index here) in
      let put : found m q.node q.name.now ≡ Some (length properties) = more q.node q.name.now ∙ ap (λ b. cond b (Some (length properties)) (found l q.node q.name.now)) (key-refl q.node q.name.now) in
      subst (λ xs. Defines (shape_of nodes children properties indices givings labels) (shape_of nodes children xs found' givings labels) q.node q.name.now (value_held q.value) w.item) (sym e)
      record {
        nodes = record { size = refl; child = refl; opened = refl };
        property = λ j y. more j y ∙ bool_cases (nat_eq q.node j && bytes_eq q.name.now y)
            (cond (nat_eq q.node j && bytes_eq q.name.now y) (Some (length properties)) (found l j y) ≡ begun (nat_eq q.node j && bytes_eq q.name.now y) (length properties) (found l j y))
            (λ t. let c : (q.node ≡ j) × (q.name.now ≡ y) = key_is q.node j q.name.now y t in
            let was : found l j y ≡ None = rw (← c.0, ← c.1) none in
            rw (t, was) refl)
            (λ f. rw f (sym (begun-not (length properties) (found l j y))));
        value = λ j e. let s : Some (length properties) ≡ Some j = sym put ∙ e in let kj : length properties ≡ j = cc in
            ap (option_map (λ (q : Property). value_held q.value)) (slice_get-push_new properties q j (sym kj));
        others = λ j below other. ap (option_map (λ (q : Property). value_held q.value)) (slice_get-push_old properties q j below);
        defined = item_of_put indices found' q.node q.name.now w puts;
        labels = record { givings = refl; given = refl };
      }

  -- a property that stands doesn't any more
  pub undefines : (properties : List Property) (indices : List (Key × Last)) (size k : ℕ) (q r : Property) → HasProperties size properties indices → slice_get properties k ≡ Some q → q.stands ≡ true
      → r.node ≡ q.node → r.name.now ≡ q.name.now → r.stands ≡ false → r.value ≡ q.value
      → (new : List Property) → new ≡ slice_set properties k r
      → Undefines (shape_of nodes children properties indices givings labels) (shape_of nodes children new indices givings labels)
      ((properties_listed properties indices).owner k) ((properties_listed properties indices).name k)
  undefines properties indices size k q r h there stands node name fell value new e =
      let l = properties_listed properties indices in
      let inside : k < length properties = slice_get_within properties k q there in
      let stood : l.stands k ≡ true = ap (λ (o : Option Property). option_map_or (λ n. n.stands) o false) there ∙ stands in
      let fewer = found-dropped 0 l (properties_listed (slice_set properties k r) indices) k h.indexed inside (h.indexed.complete k (omega arith) inside stood)
      (listed-drop (λ (m : Property). m.node) (λ (m : Property). m.name.now) (λ (m : Property). m.stands) properties k q r indices there node name fell) in
      subst (λ xs. Undefines (shape_of nodes children properties indices givings labels) (shape_of nodes children xs indices givings labels) (l.owner k) (l.name k)) (sym e)
      record {
        nodes = record { size = refl; child = refl; opened = refl };
        count = length-set properties k r;
        property = fewer;
        value = λ j. bool_cases (nat_eq k j)
            (option_map (λ (q : Property). value_held q.value) (slice_get (slice_set properties k r) j) ≡ option_map (λ (q : Property). value_held q.value) (slice_get properties j))
            (λ t. let kj : k ≡ j = eqb-true k j t in
            rw (← kj) (ap (option_map (λ (q : Property). value_held q.value)) (slice_get-set_same properties k r q there) ∙ ap (λ v. Some (value_held v)) value ∙ sym (ap (option_map (λ (q : Property). value_held q.value)) there)))
            (λ f. ap (option_map (λ (q : Property). value_held q.value)) (slice_get-set_other properties k j r (λ kj. let t : nat_eq k j ≡ true = eq-eqb k j kj in cc)));
        defined = refl;
        labels = record { givings = refl; given = refl };
      }

  -- no such property stands
  pub undefines_nothing : (properties : List Property) (indices : List (Key × Last)) (a : ℕ) (y : Name) → found (properties_listed properties indices) a y ≡ None
      → Undefines (shape_of nodes children properties indices givings labels) (shape_of nodes children properties indices givings labels) a y
  undefines_nothing properties indices a y none = record {
    nodes = record { size = refl; child = refl; opened = refl };
    count = refl;
    property = λ i x. bool_cases (nat_eq a i && bytes_eq y x) (found (properties_listed properties indices) i x ≡ cond (nat_eq a i && bytes_eq y x) None (found (properties_listed properties indices) i x))
        (λ t. let c : (a ≡ i) × (y ≡ x) = key_is a i y x t in rw t (rw (← c.0, ← c.1) none))
        (λ f. rw f refl);
    value = λ k. refl;
    defined = refl;
    labels = record { givings = refl; given = refl };
  }

-- the index of a giving, where it is to the node, in a list that got one more
to_node-old : (givings : List Giving) (g : Giving) (i k : ℕ) → k < length givings → to_node (givings ++ g ∷ []) i k ≡ to_node givings i k
to_node-old givings g i k below = ap (option_and_then (λ (h : Giving). cond (nat_eq h.node i) (Some k) None)) (slice_get-push_old givings g k below)

to_node-new : (givings : List Giving) (g : Giving) (i k : ℕ) → k ≡ length givings → to_node (givings ++ g ∷ []) i k ≡ cond (nat_eq g.node i) (Some k) None
to_node-new givings g i k e = ap (option_and_then (λ (h : Giving). cond (nat_eq h.node i) (Some k) None)) (slice_get-push_new givings g k e)

module _ (nodes : List Node) (children : List (Key × Last)) (properties : List Property) (indices : List (Key × Last)) where
  pub gives : (givings new : List Giving) (labels found' : List (NameKey × ℕ)) (s : Shape (List Part)) (g : Giving) → HasLabels s givings labels → new ≡ givings ++ g ∷ []
      → (w : ℕ) → w ≡ length givings → PutsName labels found' g.label.now w
      → Gives (shape_of nodes children properties indices givings labels) (shape_of nodes children properties indices new found') g.label.now g.node
  gives givings new labels found' s g h e w index puts =
      subst (λ xs. Gives (shape_of nodes children properties indices givings labels) (shape_of nodes children properties indices xs found') g.label.now g.node) (sym e)
      record {
        nodes = record { size = refl; child = refl; opened = refl };
        properties = record { count = refl; property = refl; value = refl; defined = refl };
        given = λ i l. ap (option_and_then (to_node (givings ++ g ∷ []) i)) (puts l) ∙ by i l (bytes_eq g.label.now l);
      }
    where
      old_giving : (i : ℕ) (l : Name) (o : Option ℕ) → name_entry labels l ≡ o → option_and_then (to_node (givings ++ g ∷ []) i) o ≡ option_and_then (to_node givings i) o
      old_giving i l None at = refl
      old_giving i l (Some k) at = let x = giving_of givings k l (h.sound l k at) in to_node-old givings g i k (slice_get_within givings k x.0 x.1)

      by : (i : ℕ) (l : Name) (b : Bool) → option_and_then (to_node (givings ++ g ∷ []) i) (cond b (Some w) (name_entry labels l))
          ≡ cond b (cond (nat_eq g.node i) (Some (length givings)) None) (option_and_then (to_node givings i) (name_entry labels l))
      by i l true = to_node-new givings g i w index ∙ ap (λ k. cond (nat_eq g.node i) (Some k) None) index
      by i l false = old_giving i l (name_entry labels l) refl
