-- A node of a named tree is keyed exactly where it is in the meaning of the places that mean the tree.
use Rattle.std.proofs.Common.{◌≡◌, ℕ, suc, ◌+◌, ◌<◌, Bool, true, false, ◌||◌, List, [], ◌∷◌, ◌++◌, length, map, nat_lt, reverse, is_some, refl, sym, ap, subst, ◌∙◌, inl, inr, Some, arith}
use Rattle.std.specs.List.{AllByRecursion, list_any}
use Rattle.std.specs.Option.{option_map, option_map_or}
use Rattle.std.proofs.lemmas.Bool.{or_cases}
use Rattle.std.proofs.lemmas.Bool.Decides.{nat_tests, Decides-eqb}
use Rattle.std.proofs.lemmas.List.{reverse-reverse, length-map}
use Rattle.dt_model.specs.Names.{Name}
use Rattle.dt_model.specs.Path.{Path, path_eq}
use Rattle.dt_model.specs.Lists.{IsIn}
use Rattle.dt_model.specs.Meaning.{Item, byte, reference, item_renamed, EachReference}
use Rattle.dt_model.specs.Event.{Stack, Event, opening, giving, definition, undefinition, deletion, gives, takes, value_at, names}
use Rattle.dt_model.specs.Source.{Part, one, number_of, text_of, Place, Mode, Events, referent, bound, all_bound, refers, refers_there, labels_there, written_number}
use Rattle.dt_model.specs.Named.{NodeReference, NamedProperty, Content, Named, NamedNode, NamedPlaced, node_at, node_count, nodes_of, paths_of}
use Rattle.dt_model.specs.Overlay.{OverlayReference, inside, outside, reference_renamed}
use Rattle.dt_model.specs.NamedOf.{IsNamedOf, IsBelow, RefersBelow, bound_values, path_among, meant, refers_to, has_reference_to, asked, contents_of}
use Rattle.dt_model.proofs.Cases.{map_some, then_some, map_or_true}
use Rattle.dt_model.proofs.Tests.{any_from, any_here, each_in, in_left, in_right, in_map, in_map_from}
use Rattle.dt_model.proofs.Lasts.{last_any, names_by}
use Rattle.dt_model_laws.proofs.Bound.{named_rules, all_each_bound}
use Rattle.dt_model_laws.proofs.Holding.{Holds}
use Rattle.dt_model_laws.proofs.Keyed.{referred_there}
use Rattle.dt_model_laws.proofs.Orders.{falls_distinct}
use Rattle.dt_model_laws.proofs.NamedListed.{listed_at, at_listed, length-nodes}
use Rattle.dt_model_laws.proofs.NamedPaths.{paths_distinct}
use Rattle.dt_model_laws.proofs.NamedValues.{property_names, value_listed, listed_value}
use Rattle.dt_model_laws.proofs.NamedSources.{events, apart, stands_node, value_parts, parts_value, written_same}
use Rattle.dt_model_laws.proofs.Places.{HasAt, path_at, at_path, one_at}
use Rattle.dt_model.proofs.EventSteps.{path_eq-is}

-- tests that pass together
pub same_tests : (a b : Bool) → (a ≡ true → b ≡ true) → (b ≡ true → a ≡ true) → a ≡ b
same_tests true b to from = sym (to refl)
same_tests false true to from = from refl
same_tests false false to from = refl

-- ---- references

each_reference : (K : Path → Type 0) (items : List (Item Path)) (r : Path) → EachReference K items → IsIn (reference r) items → K r
each_reference K [] r h i = absurd i
each_reference K (byte b ∷ items) r h (inl e) = cc
each_reference K (byte b ∷ items) r h (inr i) = each_reference K items r h i
each_reference K (reference q ∷ items) r h (inl e) = let same : q ≡ r = cc in subst K same h.0
each_reference K (reference q ∷ items) r h (inr i) = each_reference K items r h.1 i

-- a reference that a value means is one of its parts'
bound_refers : (es : Events) (parts : List Part) (items : List (Item Path)) (r : Path) → all_bound es parts ≡ Some items → IsIn (reference r) items → refers es (reverse r) parts ≡ true
bound_refers es parts items r e i =
    let K : Path → Type 0 = λ q. refers es (reverse q) parts ≡ true in
    each_reference K items r (all_each_bound es K parts items (λ q h. subst (λ z. refers es z parts ≡ true) (sym (reverse-reverse q)) h) e) i

-- a reference of one of its parts is one that a value means
refers_bound : (es : Events) (parts : List Part) (items : List (Item Path)) (q : Stack) → all_bound es parts ≡ Some items → refers es q parts ≡ true → IsIn (reference (reverse q)) items
refers_bound es [] items q e h = cc
refers_bound es (x ∷ xs) items q e h =
    let first = then_some (λ front. option_map (λ others. front ++ others) (all_bound es xs)) (bound es x) items e in
    let rest = map_some (λ others. first.0 ++ others) (all_bound es xs) items first.2 in
    subst (IsIn (reference (reverse q))) rest.2 (step x first.0 rest.0 first.1 (λ k. refers_bound es xs rest.0 q rest.1 k) h)
  where
    step : (x : Part) (front rest : List (Item Path)) → bound es x ≡ Some front → (refers es q xs ≡ true → IsIn (reference (reverse q)) rest) → refers es q (x ∷ xs) ≡ true
        → IsIn (reference (reverse q)) (front ++ rest)
    step (one b) front rest is more k = in_right (reference (reverse q)) front rest (more k)
    step (text_of r) front rest is more k = in_right (reference (reverse q)) front rest (more k)
    step (number_of r) front rest is more k =
        elim (or_cases (option_map_or (path_eq q) (referent es r) false) (refers es q xs) k) [
          | inl here ↦
              let p = map_or_true (path_eq q) (referent es r) here in
              let m = map_some (λ p. reference (reverse p) ∷ []) (referent es r) front is in
              let z : Some p.0 ≡ Some m.0 = sym p.1 ∙ m.1 in
              let same : q ≡ m.0 = path_eq-is q p.0 p.2 ∙ cc in
              in_left (reference (reverse q)) front rest (subst (IsIn (reference (reverse q))) m.2 (inl (ap (λ y. reference (reverse y)) same)))
          | inr later ↦ in_right (reference (reverse q)) front rest (more later)
        ]

refers_to-is : (k : ℕ) (x : Item NodeReference) → refers_to k x ≡ true → x ≡ reference (inside k)
refers_to-is k (byte b) h = cc
refers_to-is k (reference (inside j)) h = ap (λ (i : ℕ). reference (inside i)) ((Decides-eqb j k).0 h)
refers_to-is k (reference (outside l)) h = cc

renamed_reference : (f : ℕ → Path) (x : Item NodeReference) (p : Path) → reference (inside p) ≡ item_renamed (reference_renamed f) x → (j : ℕ) × (x ≡ reference (inside j)) × (f j ≡ p)
renamed_reference f (byte b) p e = cc
renamed_reference f (reference (inside j)) p e = (j, refl, cc)
renamed_reference f (reference (outside l)) p e = cc

each_below : (nodes : ℕ) (items : List (Item NodeReference)) (j : ℕ) → EachReference (IsBelow nodes) items → IsIn (reference (inside j)) items → j < nodes
each_below nodes [] j h i = absurd i
each_below nodes (byte b ∷ items) j h (inl e) = cc
each_below nodes (byte b ∷ items) j h (inr i) = each_below nodes items j h i
each_below nodes (reference k ∷ items) j h (inl e) = let same : k ≡ inside j = cc in subst (IsBelow nodes) same h.0
each_below nodes (reference k ∷ items) j h (inr i) = each_below nodes items j h.1 i

-- a reference that a base's value means, among what the tree has
inside_reference : (items : List (Item Path)) (p : Path) → IsIn (reference (inside p)) (map (item_renamed {S = OverlayReference} inside) items) → IsIn (reference p) items
inside_reference [] p i = absurd i
inside_reference (byte b ∷ items) p (inl e) = cc
inside_reference (byte b ∷ items) p (inr i) = inr (inside_reference items p i)
inside_reference (reference q ∷ items) p (inl e) = let same : p ≡ q = cc in inl (ap (λ z. reference z) same)
inside_reference (reference q ∷ items) p (inr i) = inr (inside_reference items p i)

has_some : (xs : List Name) (x : Name) → IsIn x xs → nat_lt 0 (length xs) ≡ true
has_some [] x i = absurd i
has_some (y ∷ ys) x i = positive (length ys)
  where
    positive : (n : ℕ) → nat_lt 0 (suc n) ≡ true
    positive n = grind (arith, nat_tests)

module _ (mode : Mode) (reservations : List (ℕ × ℕ)) (places : List Place) (t : Named NodeReference) (n : IsNamedOf mode reservations places t) (h : Holds named_rules n.means.so_far) where
  abbrev es : Events
  es = events mode reservations places t n

  -- ---- labels

  label_there : (q : Stack) (labels : List Name) → AllByRecursion (λ l. names es l q ≡ true) labels → nat_lt 0 (length labels) ≡ true → list_any (labels_there es q) es ≡ true
  label_there q [] sound k = cc
  label_there q (l ∷ ls) sound k = last_any (labels_there es q) (λ e. gives l q e || takes q e) es (giving l q) (names_by es l q sound.0) sound.0

  there_label : (q : Stack) (e : Event (List Part)) → labels_there es q e ≡ true → (l : Name) × (names es l q ≡ true)
  there_label q (opening r) k = cc
  there_label q (giving l r) k = (l, k)
  there_label q (definition r m v) k = cc
  there_label q (undefinition r m) k = cc
  there_label q (deletion r) k = cc

  labelled_same : (p : Path) (c : NamedNode NodeReference) → node_at t p ≡ Some c → nat_lt 0 (length c.content.labels) ≡ list_any (labels_there es (reverse p)) es
  labelled_same p c e =
      let order = n.tree.order.labels p c e in
      same_tests (nat_lt 0 (length c.content.labels)) (list_any (labels_there es (reverse p)) es) (label_there (reverse p) c.content.labels order.sound)
      (λ k.
      let w = any_from (labels_there es (reverse p)) es k in
      let l = there_label (reverse p) w.0 w.2 in
      has_some c.content.labels l.0 (order.complete l.0 l.1))

  -- ---- references

  -- a value of the tree that refers to node k is a source's value that refers to its path
  reference_there : (k : ℕ) (p : Path) → HasAt k p (paths_of t) → list_any (has_reference_to k) (contents_of t) ≡ true → list_any (refers_there es (reverse p)) es ≡ true
  reference_there k p at some =
      let c = any_from (has_reference_to k) (contents_of t) some in
      let x = any_from (λ (x : NamedProperty NodeReference). list_any (refers_to k) x.value) (c.0).properties c.2 in
      let item = any_from (refers_to k) (x.0).value x.2 in
      let node = in_map_from (λ (x : NamedPlaced NodeReference). x.content) (nodes_of t) c.0 c.1 in
      let a = listed_at t node.0 (apart es (bound_values es) t n.tree) node.1 in
      let same : c.0 ≡ a.node.content = node.2 ∙ sym a.same in
      let i : IsIn x.0 a.node.content.properties = subst (λ (z : Content NodeReference). IsIn x.0 z.properties) same x.1 in
      let order = n.tree.order.properties node.0.path a.node a.is in
      let d = falls_distinct _ (property_names a.node.content.properties) order.sorted in
      let w = value_parts mode reservations places t n node.0.path a.node (x.0).name (x.0).value a.is (listed_value a.node.content.properties x.0 d i) in
      let there : IsIn (reference (inside k)) (x.0).value = subst (λ z. IsIn z (x.0).value) (refers_to-is k item.0 item.2) item.1 in
      let means : IsIn (reference (inside p)) (meant t (x.0).value) =
      subst (λ z. IsIn (reference (inside z)) (meant t (x.0).value)) (path_at k p (paths_of t) at)
      (in_map (item_renamed (reference_renamed (path_among (paths_of t)))) (x.0).value (reference (inside k)) there) in
      let plain = inside_reference w.2.items p (subst (IsIn (reference (inside p))) (sym w.2.same) means) in
      referred_there es (reverse node.0.path) (x.0).name w.0 (reverse p) w.1 (bound_refers es w.0 w.2.items p w.2.bound plain)

  -- a source's value that refers to a path is a value of the tree that refers to the path's node
  value_there : (k : ℕ) (p : Path) (q : Stack) (m : Name) (parts : List Part) → HasAt k p (paths_of t) → value_at es q m ≡ Some parts → refers es (reverse p) parts ≡ true
      → list_any (has_reference_to k) (contents_of t) ≡ true
  value_there k p q m parts at value refer =
      let back : value_at es (reverse (reverse q)) m ≡ Some parts = ap (λ z. value_at es z m) (reverse-reverse q) ∙ value in
      let c = stands_node es (bound_values es) t n.tree (reverse q) (h.sound.values (reverse (reverse q)) m parts back) in
      let v = parts_value mode reservations places t n (reverse q) c.0 m parts c.1 back in
      let bound : IsIn (reference p) v.2.items = subst (λ z. IsIn (reference z) v.2.items) (reverse-reverse p) (refers_bound es parts v.2.items (reverse p) v.2.bound refer) in
      let means : IsIn (reference (inside p)) (meant t v.0) = subst (IsIn (reference (inside p))) v.2.same (in_map (item_renamed inside) v.2.items (reference p) bound) in
      let item = in_map_from (item_renamed (reference_renamed (path_among (paths_of t)))) v.0 (reference (inside p)) means in
      let j = renamed_reference (path_among (paths_of t)) item.0 p item.2 in
      let i : IsIn (reference (inside j.0)) v.0 = subst (λ z. IsIn z v.0) j.1 item.1 in
      let listed = value_listed (c.0).content.properties m v.0 v.1 in
      let there : IsIn (c.0).content (contents_of t) = in_map (λ (x : NamedPlaced NodeReference). x.content) (nodes_of t) (record { path = reverse q; content = (c.0).content }) (at_listed t (reverse q) c.0 c.1) in
      let referred = each_in (RefersBelow (1 + node_count t.children)) (contents_of t) (c.0).content n.tree.referred there in
      let below = each_below (1 + node_count t.children) v.0 j.0 (each_in (λ (x : NamedProperty NodeReference). EachReference (IsBelow (1 + node_count t.children)) x.value) (c.0).content.properties _ referred listed) i in
      let a = length-nodes t in
      let b = length-map (nodes_of t) (λ (x : NamedPlaced NodeReference). x.path) in
      let placed : HasAt j.0 p (paths_of t) = subst (λ z. HasAt j.0 z (paths_of t)) j.2 (at_path j.0 (paths_of t) (omega (arith, below, a, b))) in
      let same : j.0 ≡ k = one_at j.0 k p (paths_of t) (paths_distinct t (apart es (bound_values es) t n.tree)) placed at in
      any_here (has_reference_to k) (contents_of t) (c.0).content there
      (any_here (λ (x : NamedProperty NodeReference). list_any (refers_to k) x.value) (c.0).content.properties (record { name = m; value = v.0 }) listed
      (any_here (refers_to k) v.0 (reference (inside j.0)) i ((Decides-eqb j.0 k).1 same)))

  there_reference : (k : ℕ) (p : Path) → HasAt k p (paths_of t) → (e : Event (List Part)) → refers_there es (reverse p) e ≡ true → list_any (has_reference_to k) (contents_of t) ≡ true
  there_reference k p at (opening q) r = cc
  there_reference k p at (giving l q) r = cc
  there_reference k p at (definition q m v) r = let w = map_or_true (refers es (reverse p)) (value_at es q m) r in value_there k p q m w.0 at w.1 w.2
  there_reference k p at (undefinition q m) r = cc
  there_reference k p at (deletion q) r = cc

  referred_same : (k : ℕ) (p : Path) → HasAt k p (paths_of t) → list_any (has_reference_to k) (contents_of t) ≡ list_any (refers_there es (reverse p)) es
  referred_same k p at =
      same_tests (list_any (has_reference_to k) (contents_of t)) (list_any (refers_there es (reverse p)) es) (reference_there k p at)
      (λ r. let w = any_from (refers_there es (reverse p)) es r in there_reference k p at w.0 w.2)

  -- ---- all three

  pub keyed_same : (k : ℕ) (p : Path) (c : NamedNode NodeReference) → HasAt k p (paths_of t) → node_at t p ≡ Some c
      → (asked (contents_of t) k c.content).keyed
      ≡ (is_some (written_number es (reverse p)) || list_any (labels_there es (reverse p)) es || list_any (refers_there es (reverse p)) es)
  keyed_same k p c at e =
      ap (λ b. is_some b || nat_lt 0 (length c.content.labels) || list_any (has_reference_to k) (contents_of t)) (written_same mode reservations places t n p c e)
      ∙ ap (λ b. is_some (written_number es (reverse p)) || b || list_any (has_reference_to k) (contents_of t)) (labelled_same p c e)
      ∙ ap (λ b. is_some (written_number es (reverse p)) || list_any (labels_there es (reverse p)) es || b) (referred_same k p at)
