-- Events mean one named tree by their nodes, values and labels.
use Rattle.std.proofs.Common.{◌≡◌, ℕ, ◌+◌, List, [], ◌∷◌, ◌++◌, map, length, reverse, refl, sym, ap, subst, ◌∙◌, inl, inr, Option, Some}
use Rattle.std.specs.Option.{option_map}
use Rattle.std.proofs.lemmas.List.{length-map}
use Rattle.dt_model.specs.Names.{Name}
use Rattle.dt_model.specs.Path.{Path}
use Rattle.dt_model.specs.Lists.{IsIn}
use Rattle.dt_model.specs.Meaning.{Item, byte, reference, item_renamed, EachReference}
use Rattle.dt_model.specs.Event.{age, property_age}
use Rattle.dt_model.specs.Source.{Events}
use Rattle.dt_model.specs.Valid.{AreDistinct}
use Rattle.dt_model.specs.Named.{NodeReference, NamedForest, no_nodes, branch, Named, NamedNode, NamedPlaced, NamedProperty, Content, root_of, node_at, names, node_count, preorder, nodes_of, paths_of}
use Rattle.dt_model.specs.Overlay.{OverlayReference, inside, outside, reference_renamed}
use Rattle.dt_model.specs.NamedOf.{IsNamedBy, IsBelow, RefersBelow, path_among, meant, contents_of}
use Rattle.dt_model.proofs.Tests.{each_in, in_map}
use Rattle.dt_model.proofs.Flat.{map_append}
use Rattle.dt_model_laws.proofs.Orders.{one_order, falls_distinct}
use Rattle.dt_model_laws.proofs.Places.{HasAt, at_path, one_at}
use Rattle.dt_model_laws.proofs.NamedListed.{IsSibling, sibling_found, child_at, at_listed, length-nodes}
use Rattle.dt_model_laws.proofs.NamedPaths.{paths_distinct}
use Rattle.dt_model_laws.proofs.NamedValues.{property_names, listed_value}
use Rattle.dt_model_laws.proofs.NamedSources.{apart, value_same}

-- ---- values

-- references to nodes of different paths are renamed to different ones
pub reference_back : (paths : List Path) (r s : NodeReference) → AreDistinct paths → IsBelow (length paths) r → IsBelow (length paths) s
    → reference_renamed (path_among paths) r ≡ reference_renamed (path_among paths) s → r ≡ s
reference_back paths (inside j) (inside k) d h g e =
    let same : path_among paths j ≡ path_among paths k = cc in
    ap (λ (i : ℕ). inside i) (one_at j k (path_among paths j) paths d (at_path j paths h) (subst (λ p. HasAt k p paths) (sym same) (at_path k paths g)))
reference_back paths (inside j) (outside l) d h g e = cc
reference_back paths (outside l) (inside k) d h g e = cc
reference_back paths (outside l) (outside m) d h g e = let same : l ≡ m = cc in ap (λ x. outside x) same

value_back : (paths : List Path) (v w : List (Item NodeReference)) → AreDistinct paths → EachReference (IsBelow (length paths)) v → EachReference (IsBelow (length paths)) w
    → map (item_renamed (reference_renamed (path_among paths))) v ≡ map (item_renamed (reference_renamed (path_among paths))) w → v ≡ w
value_back paths [] [] d h g e = refl
value_back paths [] (x ∷ w) d h g e = cc
value_back paths (x ∷ v) [] d h g e = cc
value_back paths (byte b ∷ v) (byte c ∷ w) d h g e =
    let first : b ≡ c = cc in
    let rest = value_back paths v w d h g cc in
    λ i. byte (first i) ∷ rest i
value_back paths (byte b ∷ v) (reference s ∷ w) d h g e = cc
value_back paths (reference r ∷ v) (byte c ∷ w) d h g e = cc
value_back paths (reference r ∷ v) (reference s ∷ w) d h g e =
    let same : reference_renamed (path_among paths) r ≡ reference_renamed (path_among paths) s = cc in
    let first = reference_back paths r s d h.0 g.0 same in
    let rest = value_back paths v w d h.1 g.1 cc in
    λ i. reference (first i) ∷ rest i

-- properties with the same names and the same values are the same
same_properties : (ps qs : List (NamedProperty NodeReference)) → property_names ps ≡ property_names qs
    → ((p q : NamedProperty NodeReference) → IsIn p ps → IsIn q qs → p.name ≡ q.name → p.value ≡ q.value) → ps ≡ qs
same_properties [] [] e same = refl
same_properties [] (q ∷ qs) e same = cc
same_properties (p ∷ ps) [] e same = cc
same_properties (p ∷ ps) (q ∷ qs) e same =
    let name : p.name ≡ q.name = cc in
    let value = same p q (inl refl) (inl refl) name in
    let first : p ≡ q = λ i. record { name = name i; value = value i } in
    let names : property_names ps ≡ property_names qs = cc in
    let rest : ps ≡ qs = same_properties ps qs names (λ x y i j. same x y (inr i) (inr j)) in
    λ i. first i ∷ rest i

-- ---- forests

module _ {R : Type 0} (S : Content R → Content R → Type 0) where
  -- the forests have the same names, and nodes have what S relates
  abbrev Alike : NamedForest R → NamedForest R → Type 0
  Alike no_nodes no_nodes = Unit {0}
  Alike no_nodes (branch y d g r) = ⊥
  Alike (branch x c f s) no_nodes = ⊥
  Alike (branch x c f s) (branch y d g r) = (x ≡ y) × S c d × Alike f g × Alike s r

  -- the nodes of a path have children of the same names, and S relates what they have
  abbrev AreAlike : Named R → Named R → Type 0
  AreAlike t u = (p : Path) (c d : NamedNode R) → node_at t p ≡ Some c → node_at u p ≡ Some d → S c.content d.content × (names c.children ≡ names d.children)

  -- the siblings are children of the path's node
  abbrev AreAt : Named R → Path → NamedForest R → Type 0
  AreAt t path f = (x : Name) (c : NamedNode R) → IsSibling x c f → node_at t (path ++ x ∷ []) ≡ Some c

  -- the children of a node are its children
  are_at : (t : Named R) (path : Path) (c : NamedNode R) → AreDistinct (names c.children) → node_at t path ≡ Some c → AreAt t path c.children
  are_at t path c d here x b i = child_at (root_of t) b c path x here (sibling_found c.children x b d i)

  module _ (t u : Named R) (distinct : (p : Path) (c : NamedNode R) → node_at t p ≡ Some c → AreDistinct (names c.children)) (same : AreAlike t u) where
    alike : (path : Path) (f g : NamedForest R) → names f ≡ names g → AreAt t path f → AreAt u path g → Alike f g
    alike path no_nodes no_nodes e at at' = tt
    alike path no_nodes (branch y d g r) e at at' = cc
    alike path (branch x c f s) no_nodes e at at' = cc
    alike path (branch x c f s) (branch y d g r) e at at' =
        let n : NamedNode R = record { content = c; children = f } in
        let m : NamedNode R = record { content = d; children = g } in
        let name : x ≡ y = cc in
        let others : names s ≡ names r = cc in
        let here = at x n (inl (refl, refl)) in
        let there : node_at u (path ++ x ∷ []) ≡ Some m = ap (λ z. node_at u (path ++ z ∷ [])) name ∙ at' y m (inl (refl, refl)) in
        let both = same (path ++ x ∷ []) n m here there in
        let apart = distinct (path ++ x ∷ []) n here in (
          name,
          both.0,
          alike (path ++ x ∷ []) f g both.1 (are_at t (path ++ x ∷ []) n apart here) (are_at u (path ++ x ∷ []) m (subst AreDistinct both.1 apart) there),
          alike path s r others (λ z b i. at z b (inr i)) (λ z b i. at' z b (inr i)),
        )

    all_alike : Alike t.children u.children
    all_alike =
        let both = same [] (root_of t) (root_of u) refl refl in
        let apart = distinct [] (root_of t) refl in
        alike [] t.children u.children both.1 (are_at t [] (root_of t) apart refl) (are_at u [] (root_of u) (subst AreDistinct both.1 apart) refl)

module _ {R : Type 0} where
  abbrev paths_in : List (NamedPlaced R) → List Path
  paths_in ns = map (λ (n : NamedPlaced R). n.path) ns

  alike_paths : (path path' : Path) (f g : NamedForest R) → path ≡ path' → Alike (λ c d. Unit {0}) f g → paths_in (preorder path f) ≡ paths_in (preorder path' g)
  alike_paths path path' no_nodes no_nodes e h = refl
  alike_paths path path' no_nodes (branch y d g r) e h = absurd h
  alike_paths path path' (branch x c f s) no_nodes e h = absurd h
  alike_paths path path' (branch x c f s) (branch y d g r) e h =
      let here : path ++ x ∷ [] ≡ path' ++ y ∷ [] = λ i. e i ++ h.0 i ∷ [] in
      let inner = alike_paths (path ++ x ∷ []) (path' ++ y ∷ []) f g here h.2 in
      let outer = alike_paths path path' s r e h.3 in
      let all : paths_in (preorder (path ++ x ∷ []) f ++ preorder path s) ≡ paths_in (preorder (path' ++ y ∷ []) g ++ preorder path' r) =
      map_append (λ (n : NamedPlaced R). n.path) (preorder (path ++ x ∷ []) f) (preorder path s)
      ∙ (λ i. inner i ++ outer i)
      ∙ sym (map_append (λ (n : NamedPlaced R). n.path) (preorder (path' ++ y ∷ []) g) (preorder path' r)) in
      λ i. here i ∷ all i

  alike_same : (f g : NamedForest R) → Alike (λ c d. c ≡ d) f g → f ≡ g
  alike_same no_nodes no_nodes h = refl
  alike_same no_nodes (branch y d g r) h = absurd h
  alike_same (branch x c f s) no_nodes h = absurd h
  alike_same (branch x c f s) (branch y d g r) h =
      let name : x ≡ y = h.0 in
      let content : c ≡ d = h.1 in
      let children : f ≡ g = alike_same f g h.2 in
      let siblings : s ≡ r = alike_same s r h.3 in
      λ i. branch (name i) (content i) (children i) (siblings i)

-- ---- the tree

module _ (es : Events) (value : Path → Name → Option (List (Item OverlayReference))) (t u : Named NodeReference) (n : IsNamedBy es value t) (m : IsNamedBy es value u) where
  children_same : (p : Path) (c d : NamedNode NodeReference) → node_at t p ≡ Some c → node_at u p ≡ Some d → names c.children ≡ names d.children
  children_same p c d e k = one_order _ _ _ _ (n.order.children p c e) (m.order.children p d k)

  children_apart : (p : Path) (c : NamedNode NodeReference) → node_at t p ≡ Some c → AreDistinct (names c.children)
  children_apart p c e = let o = n.order.children p c e in falls_distinct (λ x. age es (x ∷ reverse p)) (names c.children) o.sorted

  paths_same : paths_of t ≡ paths_of u
  paths_same =
      ap (λ (ps : List Path). [] ∷ ps)
      (alike_paths [] [] t.children u.children refl (all_alike (λ c d. Unit {0}) t u children_apart (λ p c d e k. (tt, children_same p c d e k))))

  -- a value of a tree refers to its nodes
  refers_below : (v : Named NodeReference) → IsNamedBy es value v → (p : Path) (c : NamedNode NodeReference) (x : NamedProperty NodeReference) → node_at v p ≡ Some c → IsIn x c.content.properties
      → EachReference (IsBelow (length (paths_of v))) x.value
  refers_below v k p c x e i =
      let there = in_map (λ (x : NamedPlaced NodeReference). x.content) (nodes_of v) (record { path = p; content = c.content }) (at_listed v p c e) in
      let below = each_in (RefersBelow (1 + node_count v.children)) (contents_of v) c.content k.referred there in
      let l : 1 + node_count v.children ≡ length (paths_of v) = sym (length-map (nodes_of v) (λ (x : NamedPlaced NodeReference). x.path) ∙ length-nodes v) in
      subst (λ j. EachReference (IsBelow j) x.value) l
      (each_in (λ (x : NamedProperty NodeReference). EachReference (IsBelow (1 + node_count v.children)) x.value) c.content.properties x below i)

  apart_in : (v : Named NodeReference) (k : IsNamedBy es value v) (p : Path) (c : NamedNode NodeReference) → node_at v p ≡ Some c → AreDistinct (property_names c.content.properties)
  apart_in v k p c e = let o = k.order.properties p c e in falls_distinct (property_age es (reverse p)) (property_names c.content.properties) o.sorted

  properties_same : (p : Path) (c d : NamedNode NodeReference) → node_at t p ≡ Some c → node_at u p ≡ Some d → c.content.properties ≡ d.content.properties
  properties_same p c d e k =
      same_properties c.content.properties d.content.properties (one_order _ _ _ _ (n.order.properties p c e) (m.order.properties p d k))
      (λ x y i j same.
      let of_t : Some (meant t x.value) ≡ value p x.name = ap (option_map (meant t)) (sym (listed_value c.content.properties x (apart_in t n p c e) i)) ∙ value_same es value t n p c x.name e in
      let of_u : Some (meant u y.value) ≡ value p y.name = ap (option_map (meant u)) (sym (listed_value d.content.properties y (apart_in u m p d k) j)) ∙ value_same es value u m p d y.name k in
      let all : ◌≡◌ {A = Option (List (Item OverlayReference))} (Some (meant t x.value)) (Some (meant u y.value)) = of_t ∙ ap (value p) same ∙ sym of_u in
      let both : meant t x.value ≡ meant u y.value = cc in
      let again : map (item_renamed (reference_renamed (path_among (paths_of t)))) x.value ≡ map (item_renamed (reference_renamed (path_among (paths_of t)))) y.value =
      both ∙ ap (λ ps. map (item_renamed (reference_renamed (path_among ps))) y.value) (sym paths_same) in
      value_back (paths_of t) x.value y.value (paths_distinct t (apart es value t n)) (refers_below t n p c x e i)
      (subst (λ ps. EachReference (IsBelow (length ps)) y.value) (sym paths_same) (refers_below u m p d y k j)) again)

  content_same : (p : Path) (c d : NamedNode NodeReference) → node_at t p ≡ Some c → node_at u p ≡ Some d → c.content ≡ d.content
  content_same p c d e k =
      let labels : c.content.labels ≡ d.content.labels = one_order _ _ _ _ (n.order.labels p c e) (m.order.labels p d k) in
      let properties = properties_same p c d e k in
      λ i. record { labels = labels i; properties = properties i }

  pub one_named : t.reservations ≡ u.reservations → t ≡ u
  one_named kept =
      let content = content_same [] (root_of t) (root_of u) refl refl in
      let children : t.children ≡ u.children =
      alike_same t.children u.children (all_alike (λ c d. c ≡ d) t u children_apart (λ p c d e k. (content_same p c d e k, children_same p c d e k))) in
      λ i. record { reservations = kept i; content = content i; children = children i }
