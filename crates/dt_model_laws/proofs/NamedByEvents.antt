-- A named tree with what stands after events is one that a source may mean, and it has as many nodes as stand.
use Rattle.std.proofs.Common.{◌≡◌, ℕ, suc, ◌+◌, ◌≤◌, ◌<◌, true, List, [], ◌∷◌, ◌++◌, length, length-append, reverse, codes, is_some, IsSome, refl, sym, ap, subst, ◌∙◌, inl, inr, Option, Some, None, option_to_list, arith}
use Rattle.std.specs.List.{AllByRecursion, flat_map}
use Rattle.std.specs.Option.{option_map}
use Rattle.std.proofs.lemmas.List.{length-map, length-reverse}
use Rattle.dt_model.specs.Limits.{most_names, most_nodes}
use Rattle.dt_model.specs.Names.{Name, IsNodeName, IsPropertyName, IsLabel}
use Rattle.dt_model.specs.Path.{Path}
use Rattle.dt_model.specs.Lists.{IsIn}
use Rattle.dt_model.specs.Meaning.{Item, AreBytes}
use Rattle.dt_model.specs.Event.{Stack, stands, value_at, names, property_age, label_age}
use Rattle.dt_model.specs.Source.{Part, Events}
use Rattle.dt_model.specs.Valid.{AreDistinct, IsReservation}
use Rattle.dt_model.specs.Named as named
use Rattle.dt_model.specs.Named.{NodeReference, NamedForest, no_nodes, branch, Named, NamedNode, NamedPlaced, NamedProperty, Content, root_of, node_at, value_of, number_of, written_in, node_count, nodes_of, paths_of}
use Rattle.dt_model.specs.Overlay.{OverlayReference, reference_renamed}
use Rattle.dt_model.specs.NamedOf.{IsNamedBy, IsNamed, IsContent, AreNamedNodes, RefersBelow, path_among, meant, contents_of}
use Rattle.dt_model.specs.Refused.{StandMany}
use Rattle.dt_model.proofs.Cases.{all_map, some_there}
use Rattle.dt_model.proofs.Tests.{each_in, each_from, in_map, in_map_from}
use Rattle.dt_model_laws.proofs.Orders.{falls_distinct}
use Rattle.dt_model_laws.proofs.Bound.{path_named}
use Rattle.dt_model_laws.proofs.GivenNumbers.{option_in}
use Rattle.dt_model.proofs.Flat.{flat_of_map, distinct_flat}
use Rattle.dt_model_laws.proofs.Meanings.{no_twice}
use Rattle.dt_model_laws.proofs.NamedListed.{IsSibling, sibling_found, child_at, listed_at, at_listed, length-nodes}
use Rattle.dt_model_laws.proofs.NamedPaths.{paths_distinct}
use Rattle.dt_model_laws.proofs.NamedValues.{all_of_map, property_names, listed_value, bytes_renamed, number_renamed}
use Rattle.dt_model_laws.proofs.NamedSources.{apart, node_stands, value_same, number_in, number_same}
use Rattle.dt_model_laws.proofs.StandingNodes.{no_more}

-- what named trees ask of events and of their values
pub record AreNamable (es : Events) (value : Path → Name → Option (List (Item OverlayReference))) : Type 0 where
  pub shallow : (p : Stack) → stands es p ≡ true → length p ≤ most_names
  pub nodes : (p : Stack) → stands es p ≡ true → AllByRecursion IsNodeName p
  -- a label is a label, and names one node
  pub labels : (l : Name) (p : Stack) → names es l p ≡ true → IsLabel l
  pub one : (l : Name) (p q : Stack) → names es l p ≡ true → names es l q ≡ true → p ≡ q
  pub properties : (p : Stack) (x : Name) (v : List Part) → value_at es p x ≡ Some v → IsPropertyName x
  pub bytes : (p : Path) (x : Name) (items : List (Item OverlayReference)) → value p x ≡ Some items → AreBytes items
  -- a property `phandle` writes a number, no two the same
  pub numbered : (p : Path) (items : List (Item OverlayReference)) → value p (codes "phandle") ≡ Some items → IsSome (number_of items)
  pub own : (p q : Path) (k : ℕ) → number_in value p ≡ Some k → number_in value q ≡ Some k → p ≡ q

last_named : (p : Path) (x : Name) → AllByRecursion IsNodeName (p ++ x ∷ []) → IsNodeName x
last_named [] x h = h.0
last_named (y ∷ p) x h = last_named p x h.1

one_distinct : (o : Option ℕ) → AreDistinct (option_to_list o)
one_distinct None = tt
one_distinct (Some x) = (tt, tt)

listed : (t : Named NodeReference) (p : Path) → is_some (node_at t p) ≡ true → IsIn p (paths_of t)
listed t p h =
    let c = some_there (node_at t p) h in
    in_map (λ (x : NamedPlaced NodeReference). x.path) (nodes_of t) (record { path = p; content = (c.0).content }) (at_listed t p c.0 c.1)

module _ (es : Events) (value : Path → Name → Option (List (Item OverlayReference))) (t : Named NodeReference) (n : IsNamedBy es value t) where
  -- ---- how many nodes there are

  length-paths : length (paths_of t) ≡ 1 + node_count t.children
  length-paths = length-map (nodes_of t) (λ (x : NamedPlaced NodeReference). x.path) ∙ length-nodes t

  pub stand_many : (limit : ℕ) → limit < 1 + node_count t.children → StandMany limit es
  stand_many limit many =
      let l = length-paths in
      record {
        paths = paths_of t;
        distinct = paths_distinct t (apart es value t n);
        standing = each_from (λ p. stands es (reverse p) ≡ true) (paths_of t)
            (λ p i.
            let w = in_map_from (λ (x : NamedPlaced NodeReference). x.path) (nodes_of t) p i in
            let a = listed_at t w.0 (apart es value t n) w.1 in
            node_stands es value t n p a.node (ap (node_at t) w.2 ∙ a.is));
        many = omega (arith, many, l);
      }

  pub not_many : (limit : ℕ) → 1 + node_count t.children ≤ limit → StandMany limit es → ⊥
  not_many limit few many =
      let le = no_more many.paths (paths_of t) many.distinct (λ p i. listed t p (n.nodes p ∙ each_in (λ p. stands es (reverse p) ≡ true) many.paths p many.standing i)) in
      let e = length-paths in
      let more : limit < length many.paths = many.many in
      absurd (omega (arith, le, e, more, few))

  -- ---- values

  value_meant : (p : Path) (c : NamedNode NodeReference) (x : Name) (v : List (Item NodeReference)) → node_at t p ≡ Some c → value_of c.content.properties x ≡ Some v → value p x ≡ Some (meant t v)
  value_meant p c x v e k = sym (value_same es value t n p c x e) ∙ ap (option_map (meant t)) k

  number_meant : (v : List (Item NodeReference)) → number_of (meant t v) ≡ number_of v
  number_meant v = number_renamed (reference_renamed (path_among (paths_of t))) v

  module _ (h : AreNamable es value) where
    -- ---- what a node has

    content_ok : (p : Path) (c : NamedNode NodeReference) → node_at t p ≡ Some c → IsContent (1 + node_count t.children) c.content
    content_ok p c e =
        let labels = n.order.labels p c e in
        let properties = n.order.properties p c e in
        let d : AreDistinct (property_names c.content.properties) = falls_distinct (property_age es (reverse p)) (property_names c.content.properties) properties.sorted in
        record {
          labels = all_map (λ l. names es l (reverse p) ≡ true) IsLabel (λ l k. h.labels l (reverse p) k) c.content.labels labels.sound;
          named = all_of_map (λ (x : NamedProperty NodeReference). x.name) IsPropertyName c.content.properties
              (all_map (λ x. is_some (value_at es (reverse p) x) ≡ true) IsPropertyName
              (λ x k. let v = some_there (value_at es (reverse p) x) k in h.properties (reverse p) x v.0 v.1)
              (property_names c.content.properties) properties.sound);
          distinct = d;
          bytes = each_from (λ (x : NamedProperty NodeReference). AreBytes x.value) c.content.properties
              (λ x i.
              bytes_renamed (reference_renamed (path_among (paths_of t))) x.value
              (h.bytes p x.name (meant t x.value) (value_meant p c x.name x.value e (listed_value c.content.properties x d i))));
          referred = each_in (RefersBelow (1 + node_count t.children)) (contents_of t) c.content n.referred
              (in_map (λ (x : NamedPlaced NodeReference). x.content) (nodes_of t) (record { path = p; content = c.content }) (at_listed t p c e));
          numbered = λ v k. ap is_some (sym (number_meant v)) ∙ h.numbered p (meant t v) (value_meant p c (codes "phandle") v e k);
        }

    -- ---- all nodes

    name_ok : (p : Path) (x : Name) (c : NamedNode NodeReference) → node_at t (p ++ x ∷ []) ≡ Some c → IsNodeName x
    name_ok p x c e = last_named p x (path_named (p ++ x ∷ []) (h.nodes (reverse (p ++ x ∷ [])) (node_stands es value t n (p ++ x ∷ []) c e)))

    depth_ok : (p : Path) (x : Name) (c : NamedNode NodeReference) → node_at t (p ++ x ∷ []) ≡ Some c → suc (length p) ≤ most_names
    depth_ok p x c e =
        let low = h.shallow (reverse (p ++ x ∷ [])) (node_stands es value t n (p ++ x ∷ []) c e) in
        let a = length-reverse (p ++ x ∷ []) in
        let b = length-append p (x ∷ []) in
        omega (arith, low, a, b)

    nodes_ok : (path : Path) (depth : ℕ) (f : NamedForest NodeReference) → depth ≡ suc (length path) → ((x : Name) (c : NamedNode NodeReference) → IsSibling x c f → node_at t (path ++ x ∷ []) ≡ Some c)
        → AreNamedNodes (1 + node_count t.children) depth f
    nodes_ok path depth no_nodes same at = tt
    nodes_ok path depth (branch name content children siblings) same at =
        let c : NamedNode NodeReference = record { content = content; children = children } in
        let here = at name c (inl (refl, refl)) in
        let low = depth_ok path name c here in
        let order = n.order.children (path ++ name ∷ []) c here in
        let d = falls_distinct _ (named.names children) order.sorted in
        let l = length-append path (name ∷ []) in (
          name_ok path name c here,
          content_ok (path ++ name ∷ []) c here,
          omega (arith, low),
          d,
          nodes_ok (path ++ name ∷ []) (suc depth) children (omega (arith, l))
              (λ x b i. child_at (root_of t) b c (path ++ name ∷ []) x here (sibling_found children x b d i)),
          nodes_ok path depth siblings same (λ x b i. at x b (inr i)),
        )

    -- ---- labels and numbers

    -- what each node of a list has, where what it has is a node's own
    own_of : {Y : Type 0} (f : Content NodeReference → List Y) → ((p : Path) (c : NamedNode NodeReference) → node_at t p ≡ Some c → AreDistinct (f c.content))
        → ((p q : Path) (c d : NamedNode NodeReference) (y : Y) → node_at t p ≡ Some c → node_at t q ≡ Some d → IsIn y (f c.content) → IsIn y (f d.content) → p ≡ q)
        → AreDistinct (flat_map f (contents_of t))
    own_of f each own =
        subst AreDistinct (sym (flat_of_map f (λ (x : NamedPlaced NodeReference). x.content) (nodes_of t)))
        (distinct_flat (λ (x : NamedPlaced NodeReference). x.path) (λ x. f x.content) (nodes_of t) (paths_distinct t (apart es value t n))
        (λ x i. let a = listed_at t x (apart es value t n) i in subst (λ c. AreDistinct (f c)) a.same (each x.path a.node a.is))
        (λ x z y i j k l.
        let a = listed_at t x (apart es value t n) i in
        let b = listed_at t z (apart es value t n) j in
        own x.path z.path a.node b.node y a.is b.is (subst (λ c. IsIn y (f c)) (sym a.same) k) (subst (λ c. IsIn y (f c)) (sym b.same) l)))

    labels_ok : AreDistinct (flat_map (λ (c : Content NodeReference). c.labels) (contents_of t))
    labels_ok =
        own_of (λ c. c.labels)
        (λ p c e. let o = n.order.labels p c e in falls_distinct (λ l. label_age es l (reverse p)) c.content.labels o.sorted)
        (λ p q c d l e k i j.
        let a = each_in (λ l. names es l (reverse p) ≡ true) c.content.labels l (n.order.labels p c e).sound i in
        let b = each_in (λ l. names es l (reverse q) ≡ true) d.content.labels l (n.order.labels q d k).sound j in
        no_twice p q (h.one l (reverse p) (reverse q) a b))

    numbers_ok : AreDistinct (flat_map (λ (c : Content NodeReference). option_to_list (written_in c)) (contents_of t))
    numbers_ok =
        own_of (λ c. option_to_list (written_in c)) (λ p c e. one_distinct (written_in c.content))
        (λ p q c d y e k i j.
        let a = sym (number_same es value t n p c e) ∙ option_in (written_in c.content) y i in
        let b = sym (number_same es value t n q d k) ∙ option_in (written_in d.content) y j in
        h.own p q y a b)

    pub is_named : AllByRecursion IsReservation t.reservations → 1 + node_count t.children ≤ most_nodes → IsNamed t
    is_named reserved few =
        let d = (apart es value t n).0 in
        record {
          reservations = reserved;
          root = content_ok [] (root_of t) refl;
          nodes = nodes_ok [] 1 t.children refl (λ x c i. child_at (root_of t) c (root_of t) [] x refl (sibling_found t.children x c d i));
          siblings = d;
          labels = labels_ok;
          numbers = numbers_ok;
          few = few;
        }
