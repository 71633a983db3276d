-- A node of a named tree is keyed exactly where it is in the overlay that the tree is named by.
use Rattle.std.proofs.Common.{◌≡◌, ℕ, suc, ◌+◌, ◌<◌, Bool, true, false, ◌||◌, List, [], ◌∷◌, length, nat_lt, reverse, codes, is_some, refl, sym, ap, subst, ◌∙◌, inl, inr, Option, Some, None, arith, true≢false}
use Rattle.std.specs.List.{AllByRecursion, list_any, flat_map}
use Rattle.std.specs.Option.{option_map, option_map_or, option_and_then}
use Rattle.std.proofs.lemmas.Bool.{or_cases}
use Rattle.std.proofs.lemmas.Bool.Decides.{nat_tests, Decides-eqb}
use Rattle.std.proofs.lemmas.List.{reverse-reverse, length-map}
use Rattle.dt_model.specs.Names.{Name, IsLabel}
use Rattle.dt_model.specs.Path.{Path, path_eq}
use Rattle.dt_model.specs.Lists.{IsIn}
use Rattle.dt_model.specs.Meaning.{Item, byte, reference, item_renamed, EachReference}
use Rattle.dt_model.specs.Event.{Stack, Event, opening, giving, definition, undefinition, deletion, gives, takes, value_at, names}
use Rattle.dt_model.specs.Source.{by_label, by_path, Part, one, number_of, text_of, Events, labelled, referent, refers, refers_there, labels_there}
use Rattle.dt_model.specs.Overlay.{inside, outside, reference_renamed, Fragment, Overlay, IsOverlay}
use Rattle.dt_model.specs.OverlaySource.{overlay_reference, overlay_items, overlay_of}
use Rattle.dt_model.specs.Named as named
use Rattle.dt_model.specs.Named.{NodeReference, NamedProperty, Content, Named, NamedNode, NamedPlaced, node_at, node_count, nodes_of, paths_of, value_of}
use Rattle.dt_model.specs.NamedOf.{IsNamedBy, IsBelow, RefersBelow, path_among, meant, refers_to, has_reference_to, asked, contents_of}
use Rattle.dt_model.proofs.Cases.{map_some, map_or_true}
use Rattle.dt_model.proofs.Tests.{any_from, any_here, each_in, in_append, in_map, in_map_from}
use Rattle.dt_model.proofs.Lasts.{last_any, names_by}
use Rattle.dt_model_laws.proofs.Sound.{Sound}
use Rattle.dt_model.proofs.Labels.{some_label}
use Rattle.dt_model_laws.proofs.Keyed.{referred_there}
use Rattle.dt_model_laws.proofs.KeyedNodes.{same_tests}
use Rattle.dt_model_laws.proofs.Orders.{falls_distinct}
use Rattle.dt_model_laws.proofs.NamedListed.{listed_at, at_listed, length-nodes}
use Rattle.dt_model_laws.proofs.NamedPaths.{paths_distinct}
use Rattle.dt_model_laws.proofs.NamedValues.{property_names, value_listed, listed_value}
use Rattle.dt_model_laws.proofs.NamedSources.{apart, stands_node, value_same}
use Rattle.dt_model_laws.proofs.Places.{HasAt, path_at, at_path, one_at}
use Rattle.dt_model_laws.proofs.OverlayParts.{AreOverlayParts}
use Rattle.dt_model.proofs.EventSteps.{path_eq-is, path_eq-refl}

-- ---- references

-- a reference by a label is to the node that the label names
label_inside : (es : Events) (l : Name) (p : Path) → overlay_reference es l ≡ inside p → labelled es l ≡ Some (reverse p)
label_inside es l p e =
    elim (some_label es l) [
      | inl none ↦ let z : outside l ≡ inside p = sym (ap (λ (o : Option Stack). option_map_or (λ q. inside (reverse q)) o (outside l)) none) ∙ e in cc
      | inr some ↦
          let z : inside (reverse some.0) ≡ inside p = sym (ap (λ (o : Option Stack). option_map_or (λ q. inside (reverse q)) o (outside l)) some.1) ∙ e in
          let same : reverse some.0 ≡ p = cc in
          some.1 ∙ ap (λ q. Some q) (sym (reverse-reverse some.0) ∙ ap reverse same)
    ]

inside_label : (es : Events) (l : Name) (q : Stack) → labelled es l ≡ Some q → overlay_reference es l ≡ inside (reverse q)
inside_label es l q e = ap (λ (o : Option Stack). option_map_or (λ q. inside (reverse q)) o (outside l)) e

item_refers : (es : Events) (x : Part) (p : Path) → IsIn (reference (inside p)) (overlay_items es x) → refers es (reverse p) (x ∷ []) ≡ true
item_refers es (one b) p (inl e) = cc
item_refers es (one b) p (inr i) = absurd i
item_refers es (number_of (by_label l)) p (inl e) =
    let same : inside p ≡ overlay_reference es l = cc in
    let named = label_inside es l p (sym same) in
    let here : option_map_or (path_eq (reverse p)) (labelled es l) false ≡ true = ap (λ (o : Option Stack). option_map_or (path_eq (reverse p)) o false) named ∙ path_eq-refl (reverse p) in
    ap (λ b. b || false) here
item_refers es (number_of (by_label l)) p (inr i) = absurd i
item_refers es (number_of (by_path q)) p i = absurd i
item_refers es (text_of r) p i = absurd i

refers_first : (es : Events) (q : Stack) (x : Part) (xs : List Part) → refers es q (x ∷ []) ≡ true → refers es q (x ∷ xs) ≡ true
refers_first es q (one b) xs h = cc
refers_first es q (text_of r) xs h = cc
refers_first es q (number_of r) xs h = step (option_map_or (path_eq q) (referent es r) false) h
  where
    step : (b : Bool) → (b || false) ≡ true → (b || refers es q xs) ≡ true
    step true h = refl
    step false h = cc

refers_rest : (es : Events) (q : Stack) (x : Part) (xs : List Part) → refers es q xs ≡ true → refers es q (x ∷ xs) ≡ true
refers_rest es q (one b) xs h = h
refers_rest es q (text_of r) xs h = h
refers_rest es q (number_of r) xs h = step (option_map_or (path_eq q) (referent es r) false)
  where
    step : (b : Bool) → (b || refers es q xs) ≡ true
    step true = refl
    step false = h

-- a reference that a value means is one of its parts'
items_refer : (es : Events) (parts : List Part) (p : Path) → IsIn (reference (inside p)) (flat_map (overlay_items es) parts) → refers es (reverse p) parts ≡ true
items_refer es [] p i = absurd i
items_refer es (x ∷ xs) p i =
    elim (in_append (reference (inside p)) (overlay_items es x) (flat_map (overlay_items es) xs) i) [
      | inl here ↦ refers_first es (reverse p) x xs (item_refers es x p here)
      | inr later ↦ refers_rest es (reverse p) x xs (items_refer es xs p later)
    ]

-- a reference of one of its parts is one that a value means
refer_items : (es : Events) (parts : List Part) (q : Stack) → AreOverlayParts parts → refers es q parts ≡ true → IsIn (reference (inside (reverse q))) (flat_map (overlay_items es) parts)
refer_items es [] q are h = cc
refer_items es (one b ∷ xs) q are h = inr (refer_items es xs q are h)
refer_items es (number_of (by_label l) ∷ xs) q are h =
    elim (or_cases (option_map_or (path_eq q) (labelled es l) false) (refers es q xs) h) [
      | inl here ↦
          let p = map_or_true (path_eq q) (labelled es l) here in
          let same : q ≡ p.0 = path_eq-is q p.0 p.2 in
          inl (ap (λ r. reference r) (ap (λ z. inside (reverse z)) same ∙ sym (inside_label es l p.0 p.1)))
      | inr later ↦ inr (refer_items es xs q are later)
    ]
refer_items es (number_of (by_path p) ∷ xs) q are h = absurd (true≢false are)
refer_items es (text_of r ∷ xs) q are h = absurd (true≢false are)

-- ---- among what a tree has

refers_to-is : (k : ℕ) (x : Item NodeReference) → refers_to k x ≡ true → x ≡ reference (inside k)
refers_to-is k (byte b) h = cc
refers_to-is k (reference (inside j)) h = ap (λ (i : ℕ). reference (inside i)) ((Decides-eqb j k).0 h)
refers_to-is k (reference (outside l)) h = cc

renamed_reference : (f : ℕ → Path) (x : Item NodeReference) (p : Path) → reference (inside p) ≡ item_renamed (reference_renamed f) x → (j : ℕ) × (x ≡ reference (inside j)) × (f j ≡ p)
renamed_reference f (byte b) p e = cc
renamed_reference f (reference (inside j)) p e = (j, refl, cc)
renamed_reference f (reference (outside l)) p e = cc

each_below : (nodes : ℕ) (items : List (Item NodeReference)) (j : ℕ) → EachReference (IsBelow nodes) items → IsIn (reference (inside j)) items → j < nodes
each_below nodes [] j h i = absurd i
each_below nodes (byte b ∷ items) j h (inl e) = cc
each_below nodes (byte b ∷ items) j h (inr i) = each_below nodes items j h i
each_below nodes (reference k ∷ items) j h (inl e) = let same : k ≡ inside j = cc in subst (IsBelow nodes) same h.0
each_below nodes (reference k ∷ items) j h (inr i) = each_below nodes items j h.1 i

has_some : (xs : List Name) (x : Name) → IsIn x xs → nat_lt 0 (length xs) ≡ true
has_some [] x i = absurd i
has_some (y ∷ ys) x i = positive (length ys)
  where
    positive : (n : ℕ) → nat_lt 0 (suc n) ≡ true
    positive n = grind (arith, nat_tests)

-- the tree is named by the overlay of these events, with these fragments, which is what its source means
pub record IsNamedIn (es : Events) (fs : List Fragment) (t : Named NodeReference) : Type 0 where
  pub tree : IsNamedBy es (overlay_of es fs).value t
  pub sound : Sound es
  pub overlay : IsOverlay (overlay_of es fs)
  pub left : (p : Stack) (x : Name) (v : List Part) → value_at es p x ≡ Some v → AreOverlayParts v
  pub labels : (l : Name) (p : Stack) → names es l p ≡ true → IsLabel l

module _ (es : Events) (fs : List Fragment) (t : Named NodeReference) (by : IsNamedIn es fs t) where
  abbrev pub o : Overlay
  o = overlay_of es fs

  -- ---- labels

  label_there : (q : Stack) (labels : List Name) → AllByRecursion (λ l. names es l q ≡ true) labels → nat_lt 0 (length labels) ≡ true → list_any (labels_there es q) es ≡ true
  label_there q [] sound k = cc
  label_there q (l ∷ ls) sound k = last_any (labels_there es q) (λ e. gives l q e || takes q e) es (giving l q) (names_by es l q sound.0) sound.0

  there_label : (q : Stack) (e : Event (List Part)) → labels_there es q e ≡ true → (l : Name) × (names es l q ≡ true)
  there_label q (opening r) k = cc
  there_label q (giving l r) k = (l, k)
  there_label q (definition r m v) k = cc
  there_label q (undefinition r m) k = cc
  there_label q (deletion r) k = cc

  labelled_same : (p : Path) (c : NamedNode NodeReference) → node_at t p ≡ Some c → nat_lt 0 (length c.content.labels) ≡ list_any (labels_there es (reverse p)) es
  labelled_same p c e =
      let order = by.tree.order.labels p c e in
      same_tests (nat_lt 0 (length c.content.labels)) (list_any (labels_there es (reverse p)) es) (label_there (reverse p) c.content.labels order.sound)
      (λ k.
      let w = any_from (labels_there es (reverse p)) es k in
      let l = there_label (reverse p) w.0 w.2 in
      has_some c.content.labels l.0 (order.complete l.0 l.1))

  -- ---- values

  value_parts : (p : Path) (c : NamedNode NodeReference) (x : Name) (v : List (Item NodeReference)) → node_at t p ≡ Some c → value_of c.content.properties x ≡ Some v
      → (parts : List Part) × (value_at es (reverse p) x ≡ Some parts) × (flat_map (overlay_items es) parts ≡ meant t v)
  value_parts p c x v e k = map_some (flat_map (overlay_items es)) (value_at es (reverse p) x) (meant t v) (sym (value_same es o.value t by.tree p c x e) ∙ ap (option_map (meant t)) k)

  parts_value : (p : Path) (c : NamedNode NodeReference) (x : Name) (parts : List Part) → node_at t p ≡ Some c → value_at es (reverse p) x ≡ Some parts
      → (v : List (Item NodeReference)) × (value_of c.content.properties x ≡ Some v) × (meant t v ≡ flat_map (overlay_items es) parts)
  parts_value p c x parts e k =
      map_some (meant t) (value_of c.content.properties x) (flat_map (overlay_items es) parts) (value_same es o.value t by.tree p c x e ∙ ap (option_map (flat_map (overlay_items es))) k)

  -- no node has a property `phandle`
  pub no_phandle : (p : Path) (c : NamedNode NodeReference) → node_at t p ≡ Some c → value_of c.content.properties (codes "phandle") ≡ None
  no_phandle p c e = step (value_of c.content.properties (codes "phandle")) refl
    where
      step : (y : Option (List (Item NodeReference))) → value_of c.content.properties (codes "phandle") ≡ y → y ≡ None
      step None k = refl
      step (Some v) k =
          let there : o.value p (codes "phandle") ≡ Some (meant t v) = sym (value_same es o.value t by.tree p c (codes "phandle") e) ∙ ap (option_map (meant t)) k in
          absurd (true≢false (by.overlay.values_named p (codes "phandle") (ap is_some there)).1)

  -- ---- references

  -- a value of the tree that refers to node k is a source's value that refers to its path
  reference_there : (k : ℕ) (p : Path) → HasAt k p (paths_of t) → list_any (has_reference_to k) (contents_of t) ≡ true → list_any (refers_there es (reverse p)) es ≡ true
  reference_there k p at some =
      let c = any_from (has_reference_to k) (contents_of t) some in
      let x = any_from (λ (x : NamedProperty NodeReference). list_any (refers_to k) x.value) (c.0).properties c.2 in
      let item = any_from (refers_to k) (x.0).value x.2 in
      let node = in_map_from (λ (x : NamedPlaced NodeReference). x.content) (nodes_of t) c.0 c.1 in
      let a = listed_at t node.0 (apart es o.value t by.tree) node.1 in
      let same : c.0 ≡ a.node.content = node.2 ∙ sym a.same in
      let i : IsIn x.0 a.node.content.properties = subst (λ (z : Content NodeReference). IsIn x.0 z.properties) same x.1 in
      let order = by.tree.order.properties node.0.path a.node a.is in
      let d = falls_distinct _ (property_names a.node.content.properties) order.sorted in
      let w = value_parts node.0.path a.node (x.0).name (x.0).value a.is (listed_value a.node.content.properties x.0 d i) in
      let there : IsIn (reference (inside k)) (x.0).value = subst (λ z. IsIn z (x.0).value) (refers_to-is k item.0 item.2) item.1 in
      let means : IsIn (reference (inside p)) (meant t (x.0).value) =
      subst (λ z. IsIn (reference (inside z)) (meant t (x.0).value)) (path_at k p (paths_of t) at)
      (in_map (item_renamed (reference_renamed (path_among (paths_of t)))) (x.0).value (reference (inside k)) there) in
      referred_there es (reverse node.0.path) (x.0).name w.0 (reverse p) w.1 (items_refer es w.0 p (subst (IsIn (reference (inside p))) (sym w.2) means))

  -- a source's value that refers to a path is a value of the tree that refers to the path's node
  value_there : (k : ℕ) (p : Path) (q : Stack) (m : Name) (parts : List Part) → HasAt k p (paths_of t) → value_at es q m ≡ Some parts → refers es (reverse p) parts ≡ true
      → list_any (has_reference_to k) (contents_of t) ≡ true
  value_there k p q m parts at value refer =
      let back : value_at es (reverse (reverse q)) m ≡ Some parts = ap (λ z. value_at es z m) (reverse-reverse q) ∙ value in
      let c = stands_node es o.value t by.tree (reverse q) (by.sound.values (reverse (reverse q)) m parts back) in
      let v = parts_value (reverse q) c.0 m parts c.1 back in
      let referred : IsIn (reference (inside p)) (flat_map (overlay_items es) parts) =
      subst (λ z. IsIn (reference (inside z)) (flat_map (overlay_items es) parts)) (reverse-reverse p) (refer_items es parts (reverse p) (by.left q m parts value) refer) in
      let means : IsIn (reference (inside p)) (meant t v.0) = subst (IsIn (reference (inside p))) (sym v.2) referred in
      let item = in_map_from (item_renamed (reference_renamed (path_among (paths_of t)))) v.0 (reference (inside p)) means in
      let j = renamed_reference (path_among (paths_of t)) item.0 p item.2 in
      let i : IsIn (reference (inside j.0)) v.0 = subst (λ z. IsIn z v.0) j.1 item.1 in
      let listed = value_listed (c.0).content.properties m v.0 v.1 in
      let there : IsIn (c.0).content (contents_of t) = in_map (λ (x : NamedPlaced NodeReference). x.content) (nodes_of t) (record { path = reverse q; content = (c.0).content }) (at_listed t (reverse q) c.0 c.1) in
      let below_all = each_in (RefersBelow (1 + node_count t.children)) (contents_of t) (c.0).content by.tree.referred there in
      let below = each_below (1 + node_count t.children) v.0 j.0 (each_in (λ (x : NamedProperty NodeReference). EachReference (IsBelow (1 + node_count t.children)) x.value) (c.0).content.properties _ below_all listed) i in
      let a = length-nodes t in
      let b = length-map (nodes_of t) (λ (x : NamedPlaced NodeReference). x.path) in
      let placed : HasAt j.0 p (paths_of t) = subst (λ z. HasAt j.0 z (paths_of t)) j.2 (at_path j.0 (paths_of t) (omega (arith, below, a, b))) in
      let same : j.0 ≡ k = one_at j.0 k p (paths_of t) (paths_distinct t (apart es o.value t by.tree)) placed at in
      any_here (has_reference_to k) (contents_of t) (c.0).content there
      (any_here (λ (x : NamedProperty NodeReference). list_any (refers_to k) x.value) (c.0).content.properties (record { name = m; value = v.0 }) listed
      (any_here (refers_to k) v.0 (reference (inside j.0)) i ((Decides-eqb j.0 k).1 same)))

  there_reference : (k : ℕ) (p : Path) → HasAt k p (paths_of t) → (e : Event (List Part)) → refers_there es (reverse p) e ≡ true → list_any (has_reference_to k) (contents_of t) ≡ true
  there_reference k p at (opening q) r = cc
  there_reference k p at (giving l q) r = cc
  there_reference k p at (definition q m v) r = let w = map_or_true (refers es (reverse p)) (value_at es q m) r in value_there k p q m w.0 at w.1 w.2
  there_reference k p at (undefinition q m) r = cc
  there_reference k p at (deletion q) r = cc

  referred_same : (k : ℕ) (p : Path) → HasAt k p (paths_of t) → list_any (has_reference_to k) (contents_of t) ≡ list_any (refers_there es (reverse p)) es
  referred_same k p at =
      same_tests (list_any (has_reference_to k) (contents_of t)) (list_any (refers_there es (reverse p)) es) (reference_there k p at)
      (λ r. let w = any_from (refers_there es (reverse p)) es r in there_reference k p at w.0 w.2)

  -- ---- both

  pub keyed_same : (k : ℕ) (p : Path) (c : NamedNode NodeReference) → HasAt k p (paths_of t) → node_at t p ≡ Some c → (asked (contents_of t) k c.content).keyed ≡ o.keyed p
  keyed_same k p c at e =
      ap (λ y. is_some (option_and_then named.number_of y) || nat_lt 0 (length c.content.labels) || list_any (has_reference_to k) (contents_of t)) (no_phandle p c e)
      ∙ ap (λ b. b || list_any (has_reference_to k) (contents_of t)) (labelled_same p c e)
      ∙ ap (λ b. list_any (labels_there es (reverse p)) es || b) (referred_same k p at)
