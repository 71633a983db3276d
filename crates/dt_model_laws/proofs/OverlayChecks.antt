-- A tree that is checked is the one that an overlay's source means; one that isn't tells why the source is refused.
use Rattle.std.proofs.Common.{◌≡◌, ℕ, zero, suc, ◌+◌, ◌<◌, Bool, true, false, ◌&&◌, List, [], ◌∷◌, ◌++◌, map, length, reverse, codes, refl, sym, ap, subst, ◌∙◌, inl, inr, Option, Some, None, true≢false, arith}
use Rattle.std.specs.Prelude.{option_and_then}
use Rattle.std.specs.List.{AllByRecursion}
use Rattle.std.specs.Option.{option_map, option_map_or}
use Rattle.std.proofs.lemmas.List.{length-map}
use Rattle.dt_model.specs.Names.{Name}
use Rattle.dt_model.specs.Path.{Path, path_text, path_value}
use Rattle.dt_model.specs.Lists.{IsIn, FallBy, AreInOrder}
use Rattle.dt_model.specs.Meaning.{Item, byte, reference, item_renamed, EachReference}
use Rattle.dt_model.specs.Event.{stands, age, property_age}
use Rattle.dt_model.specs.Overlay.{OverlayReference, inside, outside, reference_renamed, Target, at_reference, at_path, Fragment, Overlay, content, IsBrought, IsContained, HoldsTarget}
use Rattle.dt_model.specs.OverlaySource.{OverlaySoFar, overlay_of, bad_fragment, outside_content, IsLateOverlayRefusal, HasOutsideContent}
use Rattle.dt_model.specs.Source.{Events, Place}
use Rattle.dt_model.specs.Valid.{AreDistinct}
use Rattle.dt_model.specs.Named as named
use Rattle.dt_model.specs.Named.{NodeReference, NamedProperty, Content, Named, NamedNode, NamedPlaced, Listed, node_at, node_below, value_of, node_count, nodes_of, paths_of, list_of}
use Rattle.dt_model.specs.NamedOf.{IsNamedBy, IsBelow, RefersBelow, path_among, meant, contents_of}
use Rattle.dt_model.specs.NamedOverlay.{NamedTarget, to_reference, to_text, NamedFragment, IsTargetOf, AreFragmentsOf, IsNamedOverlayOf}
use Rattle.dt_model_laws.specs.OverlayChecks.{fragments_among, HoldTarget, properties_at, AreFragmentsAmong, HasUntargeted, is_marked, AreBrought, is_within, refers_within, refer_within, is_target_within, AreContained, AreTargetsContained, HasUncontained, AreChecked, AreUncontained, IsTreeAfter, CheckedIsMeant, UntargetedIsRefused, UncontainedIsRefused}
use Rattle.dt_model.proofs.Cases.{map_some, then_some}
use Rattle.dt_model.proofs.Tests.{and_left, and_right, and_both, bytes_eq_true, bytes_eq_refl, each_in, each_from, all_at, in_map, in_map_from}
use Rattle.dt_model_laws.proofs.Orders.{falls_distinct}
use Rattle.dt_model_laws.proofs.NamedListed.{IsApart, at_listed, length-nodes}
use Rattle.dt_model_laws.proofs.NamedValues.{property_names, value_listed, listed_value}
use Rattle.dt_model_laws.proofs.NamedSources.{apart, node_stands, stands_node, value_same}
use Rattle.dt_model_laws.proofs.Overlays.{in_names, of_name}
use Rattle.dt_model_laws.proofs.OverlayNested.{overlay_closed}
use Rattle.dt_model_laws.proofs.ListedNodes.{path_of, listed_node, node_listed, path_is_listed}
use Rattle.dt_model_laws.proofs.ListedOrder.{first_name, fragments_fall}
use Rattle.dt_model_laws.proofs.ListedShapes.{is_below_content, IsFragment, fragment_is, is_fragment, marked_is, marked_there}

abbrev values : Events → Path → Name → Option (List (Item OverlayReference))
values es = (overlay_of es []).value

-- ---- values

plain_renamed : {R S : Type 0} (f : R → S) (bs : List ℕ) → map (item_renamed f) (map byte bs) ≡ map byte bs
plain_renamed f [] = refl
plain_renamed f (b ∷ bs) = ap (λ z. byte b ∷ z) (plain_renamed f bs)

plain_back : {R S : Type 0} (f : R → S) (v : List (Item R)) (bs : List ℕ) → map (item_renamed f) v ≡ map byte bs → v ≡ map byte bs
plain_back f [] [] e = refl
plain_back f [] (b ∷ bs) e = cc
plain_back f (x ∷ v) [] e = cc
plain_back f (byte a ∷ v) (b ∷ bs) e =
    let head : a ≡ b = cc in
    let tail = plain_back f v bs cc in
    λ i. byte (head i) ∷ tail i
plain_back f (reference r ∷ v) (b ∷ bs) e = cc

one_reference : {R S : Type 0} (f : R → S) (v : List (Item R)) (q : S) → map (item_renamed f) v ≡ reference q ∷ [] → (r : R) × (v ≡ reference r ∷ [])
one_reference f [] q e = cc
one_reference f (byte b ∷ v) q e = cc
one_reference f (reference r ∷ []) q e = (r, refl)
one_reference f (reference r ∷ x ∷ v) q e = cc

none_mapped : {X Y : Type 0} (f : X → Y) (o : Option X) → option_map f o ≡ None → o ≡ None
none_mapped f None e = refl
none_mapped f (Some x) e = cc

among_below : (ps : List Path) (k : ℕ) (x : Name) (rest : Path) → path_among ps k ≡ x ∷ rest → k < length ps
among_below [] k x rest e = cc
among_below (p ∷ ps) zero x rest e = omega arith
among_below (p ∷ ps) (suc k) x rest e = let l = among_below ps k x rest e in omega (arith, l)

above : (c d : NamedNode NodeReference) (p r : Path) → node_below c (p ++ r) ≡ Some d → (b : NamedNode NodeReference) × (node_below c p ≡ Some b)
above c d [] r e = (c, refl)
above c d (x ∷ p) r e =
    let w = then_some (λ (b : NamedNode NodeReference). node_below b (p ++ r)) (named.sibling c.children x) d e in
    let v = above w.0 d p r w.2 in
    (v.0, ap (option_and_then (λ (b : NamedNode NodeReference). node_below b p)) w.1 ∙ v.1)

module _ (es : Events) (t : Named NodeReference) (n : IsNamedBy es (values es) t) where
  abbrev ns : List (Listed NodeReference)
  ns = list_of t

  abbrev o : List Fragment → Overlay
  o gs = overlay_of es gs

  is_apart : IsApart t
  is_apart = apart es (values es) t n

  value_here : (p : Path) (c : NamedNode NodeReference) (x : Name) → node_at t p ≡ Some c → option_map (meant t) (value_of c.content.properties x) ≡ values es p x
  value_here p c x e = value_same es (values es) t n p c x e

  -- a value that stands is a node's
  record HasValue (p : Path) (x : Name) (items : List (Item OverlayReference)) : Type 0 where
    node : NamedNode NodeReference
    at : node_at t p ≡ Some node
    value : List (Item NodeReference)
    is : value_of node.content.properties x ≡ Some value
    meaning : meant t value ≡ items

  value_there : (p : Path) (x : Name) (items : List (Item OverlayReference)) → values es p x ≡ Some items → HasValue p x items
  value_there p x items h = step (node_at t p) refl
    where
      step : (y : Option (NamedNode NodeReference)) → node_at t p ≡ y → HasValue p x items
      step None e =
          let no : None ≡ Some items =
          ap (λ z. option_map (meant t) (value_of (option_map_or (λ (c : NamedNode NodeReference). c.content) z (record { labels = []; properties = [] })).properties x)) (sym e) ∙ n.values p x ∙ h in
          cc
      step (Some c) e =
          let m = map_some (meant t) (value_of c.content.properties x) items (value_here p c x e ∙ h) in
          record { node = c; at = e; value = m.0; is = m.1; meaning = m.2 }

  -- the references of a node's value are to nodes of the tree
  value_refers : (p : Path) (c : NamedNode NodeReference) (x : Name) (v : List (Item NodeReference)) → node_at t p ≡ Some c → value_of c.content.properties x ≡ Some v
      → EachReference (IsBelow (length (paths_of t))) v
  value_refers p c x v e k =
      let count : length (paths_of t) ≡ 1 + node_count t.children = length-map (nodes_of t) (λ (q : NamedPlaced NodeReference). q.path) ∙ length-nodes t in
      let all : RefersBelow (1 + node_count t.children) c.content =
      each_in (RefersBelow (1 + node_count t.children)) (contents_of t) c.content n.referred (in_map (λ (q : NamedPlaced NodeReference). q.content) (nodes_of t) (record { path = p; content = c.content }) (at_listed t p c e)) in
      subst (λ k. EachReference (IsBelow k) v) (sym count)
      (each_in (λ (q : NamedProperty NodeReference). EachReference (IsBelow (1 + node_count t.children)) q.value) c.content.properties (record { name = x; value = v }) all (value_listed c.content.properties x v k))

  -- ---- what fragments hold

  -- the node of a fragment
  record HasFragmentNode (k : ℕ) (f : Name) : Type 0 where
    node : NamedNode NodeReference
    at : node_at t (f ∷ []) ≡ Some node
    properties : properties_at ns k ≡ node.content.properties

  fragment_node : (k : ℕ) (f : Name) → IsFragment t k f → HasFragmentNode k f
  fragment_node k f h =
      let w = listed_node t is_apart k h.own h.own_there in
      record {
        node = w.node;
        at = ap (node_at t) (sym h.path) ∙ w.at;
        properties = ap (λ z. option_map_or (λ (m : Listed NodeReference). m.content.properties) z []) h.own_there ∙ ap (λ (c : Content NodeReference). c.properties) (sym w.same);
      }

  held_meant : (f : Name) (c : NamedNode NodeReference) → node_at t (f ∷ []) ≡ Some c → (target : NamedTarget) → HoldTarget c.content.properties target
      → (g : Target) × HoldsTarget (o []) f g × IsTargetOf (paths_of t) target g
  held_meant f c e (to_reference r) h = (
    at_reference (reference_renamed (path_of t) r),
    sym (value_here (f ∷ []) c (codes "target") e) ∙ ap (option_map (meant t)) h,
    ((value_refers (f ∷ []) c (codes "target") (reference r ∷ []) e h).0, refl),
  )
  held_meant f c e (to_text text) h = (
    at_path h.1.0,
    (
      sym (value_here (f ∷ []) c (codes "target") e) ∙ ap (option_map (meant t)) h.0,
      sym (value_here (f ∷ []) c (codes "target-path") e) ∙ ap (option_map (meant t)) h.2 ∙ ap Some (plain_renamed (reference_renamed (path_of t)) (text ++ 0 ∷ []))
          ∙ ap (λ z. Some (map byte (z ++ 0 ∷ []))) h.1.1,
      h.1.2,
    ),
    h.1.1,
  )

  meant_held : (f : Name) (c : NamedNode NodeReference) → node_at t (f ∷ []) ≡ Some c → (g : Target) → HoldsTarget (o []) f g
      → (target : NamedTarget) × HoldTarget c.content.properties target
  meant_held f c e (at_reference q) h =
      let m = map_some (meant t) (value_of c.content.properties (codes "target")) (reference q ∷ []) (value_here (f ∷ []) c (codes "target") e ∙ h) in
      let r = one_reference (reference_renamed (path_of t)) m.0 q m.2 in
      (to_reference r.0, m.1 ∙ ap Some r.1)
  meant_held f c e (at_path p) h =
      let m = map_some (meant t) (value_of c.content.properties (codes "target-path")) (map byte (path_value p)) (value_here (f ∷ []) c (codes "target-path") e ∙ h.1) in (
        to_text (path_text p),
        (
          none_mapped (meant t) (value_of c.content.properties (codes "target")) (value_here (f ∷ []) c (codes "target") e ∙ h.0),
          (p, refl, h.2),
          m.1 ∙ ap Some (plain_back (reference_renamed (path_of t)) m.0 (path_value p) m.2),
        ),
      )

  -- ---- the fragments

  abbrev name_at : ℕ → Name
  name_at k = first_name (path_of t k)

  abbrev fragment_names : List Name
  fragment_names = map name_at (fragments_among ns ns)

  name_stands : (f : Name) → IsIn f fragment_names → stands es (reverse (content f)) ≡ true
  name_stands f i =
      let w = in_map_from name_at (fragments_among ns ns) f i in
      let h = fragment_is t w.0 w.1 in
      let same : f ≡ h.0 = w.2 ∙ ap first_name h.1.path in
      let c = listed_node t is_apart h.1.number h.1.node h.1.there in
      node_stands es (values es) t n (content f) c.node (ap (λ x. node_at t (content x)) same ∙ ap (node_at t) (sym h.1.content) ∙ c.at)

  stands_named : (f : Name) → stands es (reverse (content f)) ≡ true → IsIn f fragment_names
  stands_named f h =
      let c = stands_node es (values es) t n (content f) h in
      let l = node_listed t (content f) c.0 c.1 in
      let w = is_fragment t l.number l.node f l.there l.path in
      subst (λ x. IsIn x fragment_names) (ap first_name w.1) (in_map name_at (fragments_among ns ns) l.node.parent w.0)

  -- the fragments that some of a list mean
  record Made (fs : List NamedFragment) : Type 0 where
    gs : List Fragment
    of : AreFragmentsOf (paths_of t) fs gs
    held : AllByRecursion (λ (g : Fragment). HoldsTarget (o []) g.name g.target) gs
    names : map (λ (g : Fragment). g.name) gs ≡ map name_at (map (λ (f : NamedFragment). f.node) fs)

  make : (fs : List NamedFragment) → AllByRecursion (λ (f : NamedFragment). (x : Name) × IsFragment t f.node x) fs
      → AllByRecursion (λ (f : NamedFragment). HoldTarget (properties_at ns f.node) f.target) fs → Made fs
  make [] are held = record { gs = []; of = tt; held = tt; names = refl }
  make (f ∷ fs) are held =
      let x = are.0.0 in
      let c = fragment_node f.node x are.0.1 in
      let g = held_meant x c.node c.at f.target (subst (λ ps. HoldTarget ps f.target) c.properties held.0) in
      let more = make fs are.1 held.1 in
      record {
        gs = record { name = x; target = g.0 } ∷ more.gs;
        of = (among_below (paths_of t) f.node x [] are.0.1.path, are.0.1.path, g.2, more.of);
        held = (g.1, more.held);
        names = λ i. first_name (sym are.0.1.path i) ∷ more.names i;
      }

  made : (fs : List NamedFragment) → AreFragmentsAmong ns fs → Made fs
  made fs h =
      make fs
      (each_from (λ (f : NamedFragment). (x : Name) × IsFragment t f.node x) fs
      (λ f i. fragment_is t f.node (subst (λ ks. IsIn f.node ks) h.nodes (in_map (λ (f : NamedFragment). f.node) fs f i))))
      h.held

  -- ---- what they bring

  module _ (fs : List NamedFragment) (h : AreFragmentsAmong ns fs) (marks : List Bool) (b : AreBrought ns marks) where
    abbrev gs : List Fragment
    gs = (made fs h).gs

    names_are : map (λ (g : Fragment). g.name) gs ≡ fragment_names
    names_are = (made fs h).names ∙ ap (map name_at) h.nodes

    marked_brought : (k : ℕ) → is_marked marks k ≡ true → IsBrought (o gs) (path_of t k)
    marked_brought k m =
        let l = marked_there t marks b k m in
        let c = listed_node t is_apart k l.0 l.1 in
        by (path_of t k) refl (sym (marked_is t marks b k l.0 l.1) ∙ m) c.node c.at
      where
        by : (p : Path) → path_of t k ≡ p → is_below_content (path_of t k) ≡ true → (c : NamedNode NodeReference) → node_at t (path_of t k) ≡ Some c → IsBrought (o gs) (path_of t k)
        by [] e m c at = let no : false ≡ true = ap is_below_content (sym e) ∙ m in cc
        by (f ∷ []) e m c at = let no : false ≡ true = ap is_below_content (sym e) ∙ m in cc
        by (f ∷ x ∷ rest) e m c at =
            let same : x ≡ codes "__overlay__" = bytes_eq_true x (codes "__overlay__") (ap is_below_content (sym e) ∙ m) in
            let path : path_of t k ≡ content f ++ rest = e ∙ ap (λ y. f ∷ y ∷ rest) same in
            let a = above (named.root_of t) c (content f) rest (ap (node_at t) (sym path) ∙ at) in
            let i = stands_named f (node_stands es (values es) t n (content f) a.0 a.1) in
            let g = of_name f gs (subst (IsIn f) (sym names_are) i) in
            (record { name = f; target = g.0 }, rest, g.1, path)

    brought_marked : (k : ℕ) → IsBrought (o gs) (path_of t k) → is_marked marks k ≡ true
    brought_marked k w =
        let l = path_is_listed t k w.0.name (codes "__overlay__" ∷ w.1) w.3 in
        marked_is t marks b k l.0 l.1 ∙ ap is_below_content w.3 ∙ bytes_eq_refl (codes "__overlay__")

    within_contained : (r : NodeReference) → is_within marks r ≡ true → IsContained (o gs) (reference_renamed (path_of t) r)
    within_contained (inside k) m = marked_brought k m
    within_contained (outside l) m = tt

    contained_within : (r : NodeReference) → IsContained (o gs) (reference_renamed (path_of t) r) → is_within marks r ≡ true
    contained_within (inside k) w = brought_marked k w
    contained_within (outside l) w = refl

    refers_contained : (v : List (Item NodeReference)) → refers_within marks v ≡ true → EachReference (IsContained (o gs)) (meant t v)
    refers_contained [] m = tt
    refers_contained (byte x ∷ v) m = refers_contained v m
    refers_contained (reference r ∷ v) m =
        (within_contained r (and_left (is_within marks r) (refers_within marks v) m), refers_contained v (and_right (is_within marks r) (refers_within marks v) m))

    contained_refers : (v : List (Item NodeReference)) → EachReference (IsContained (o gs)) (meant t v) → refers_within marks v ≡ true
    contained_refers [] w = refl
    contained_refers (byte x ∷ v) w = contained_refers v w
    contained_refers (reference r ∷ v) w = and_both (is_within marks r) (refers_within marks v) (contained_within r w.0) (contained_refers v w.1)

    -- ---- all is contained

    contained : AreContained ns marks → (p : Path) (x : Name) (items : List (Item OverlayReference)) → IsBrought (o gs) p → (o gs).value p x ≡ Some items
        → EachReference (IsContained (o gs)) items
    contained all p x items w e =
        let v = value_there p x items e in
        let l = node_listed t p v.node v.at in
        let m : is_marked marks l.number ≡ true = brought_marked l.number (subst (IsBrought (o gs)) (sym l.path) w) in
        let within = all l.number l.node l.there m in
        let i = value_listed v.node.content.properties x v.value v.is in
        let here : IsIn (record { name = x; value = v.value }) l.node.content.properties = subst (λ (c : Content NodeReference). IsIn (record { name = x; value = v.value }) c.properties) l.same i in
        subst (EachReference (IsContained (o gs))) v.meaning
        (refers_contained v.value (all_at (λ (q : NamedProperty NodeReference). refers_within marks q.value) l.node.content.properties (record { name = x; value = v.value }) within here))

    target_of : (fs : List NamedFragment) (gs : List Fragment) (g : Fragment) → AreFragmentsOf (paths_of t) fs gs → IsIn g gs
        → (f : NamedFragment) × IsIn f fs × IsTargetOf (paths_of t) f.target g.target
    target_of [] [] g a i = absurd i
    target_of [] (y ∷ ys) g a i = absurd a
    target_of (f ∷ fs) [] g a i = absurd a
    target_of (f ∷ fs) (y ∷ ys) g a (inl same) = (f, inl refl, subst (λ (z : Fragment). IsTargetOf (paths_of t) f.target z.target) (sym same) a.2)
    target_of (f ∷ fs) (y ∷ ys) g a (inr i) = let w = target_of fs ys g a.3 i in (w.0, inr w.1, w.2)

    of_target : (fs : List NamedFragment) (others : List Fragment) (f : NamedFragment) → AreFragmentsOf (paths_of t) fs others → IsIn f fs
        → (g : Fragment) × IsIn g others × IsTargetOf (paths_of t) f.target g.target
    of_target [] others f a i = absurd i
    of_target (x ∷ fs) [] f a i = absurd a
    of_target (x ∷ fs) (y ∷ ys) f a (inl same) = (y, inl refl, subst (λ (z : NamedFragment). IsTargetOf (paths_of t) z.target y.target) (sym same) a.2)
    of_target (x ∷ fs) (y ∷ ys) f a (inr i) = let w = of_target fs ys f a.3 i in (w.0, inr w.1, w.2)

    targets_contained : AreTargetsContained marks fs → (g : Fragment) (r : OverlayReference) → IsIn g gs → g.target ≡ at_reference r → IsContained (o gs) r
    targets_contained all g r i e =
        let w = target_of fs gs g (made fs h).of i in
        by w.0.target (subst (IsTargetOf (paths_of t) w.0.target) e w.2) (each_in (λ (f : NamedFragment). is_target_within marks f.target ≡ true) fs w.0 all w.1)
      where
        by : (target : NamedTarget) → IsTargetOf (paths_of t) target (at_reference r) → is_target_within marks target ≡ true → IsContained (o gs) r
        by (to_reference q) a m = subst (IsContained (o gs)) a.1 (within_contained q m)
        by (to_text text) a m = absurd a

    -- ---- something isn't

    list_some : (ps : List (NamedProperty NodeReference)) → refer_within marks ps ≡ false → (q : NamedProperty NodeReference) × IsIn q ps × (refers_within marks q.value ≡ false)
    list_some [] e = cc
    list_some (q ∷ ps) e = by (refers_within marks q.value) refl (list_some ps)
      where
        by : (z : Bool) → refers_within marks q.value ≡ z → (refer_within marks ps ≡ false → (r : NamedProperty NodeReference) × IsIn r ps × (refers_within marks r.value ≡ false))
            → (r : NamedProperty NodeReference) × IsIn r (q ∷ ps) × (refers_within marks r.value ≡ false)
        by true z more = let w = more (ap (λ y. y && refer_within marks ps) (sym z) ∙ e) in (w.0, inr w.1, w.2)
        by false z more = (q, inl refl, z)

    uncontained : HasUncontained ns marks fs → HasOutsideContent (o gs)
    uncontained (inl u) =
        let k = u.0 in
        let c = listed_node t is_apart k u.1 u.2 in
        let q = list_some u.1.content.properties u.4 in
        let here : IsIn q.0 c.node.content.properties = subst (λ (z : Content NodeReference). IsIn q.0 z.properties) (sym c.same) q.1 in
        let d : AreDistinct (property_names c.node.content.properties) =
        falls_distinct (property_age es (reverse (path_of t k))) (property_names c.node.content.properties) (n.order.properties (path_of t k) c.node c.at).sorted in
        let value : value_of c.node.content.properties q.0.name ≡ Some q.0.value = listed_value c.node.content.properties q.0 d here in
        inl (
          path_of t k,
          q.0.name,
          meant t q.0.value,
          marked_brought k u.3,
          sym (value_here (path_of t k) c.node q.0.name c.at) ∙ ap (option_map (meant t)) value,
          λ w. true≢false (sym (contained_refers q.0.value w) ∙ q.2),
        )
    uncontained (inr u) =
        let w = of_target fs gs u.0 (made fs h).of u.1 in
        by u.0.target w.0.target refl w.2 u.2
      where
        g : Fragment
        g = (of_target fs gs u.0 (made fs h).of u.1).0

        i : IsIn g gs
        i = (of_target fs gs u.0 (made fs h).of u.1).1

        by : (target : NamedTarget) (found : Target) → g.target ≡ found → IsTargetOf (paths_of t) target found → is_target_within marks target ≡ false → HasOutsideContent (o gs)
        by (to_reference r) (at_reference q) e a m =
            inr (g, q, i, e, λ (c : IsContained (o gs) q). true≢false (sym (contained_within r (subst (IsContained (o gs)) (sym a.1) c)) ∙ m))
        by (to_reference r) (at_path p) e a m = absurd a
        by (to_text text) (at_reference q) e a m = absurd a
        by (to_text text) (at_path p) e a m = cc

-- ---- what it tells of a source

module _ (places : List Place) (t : Named NodeReference) (after : IsTreeAfter places t) where
  abbrev s : OverlaySoFar
  s = after.so_far

  abbrev events : Events
  events = s.source.events

  abbrev by_events : IsNamedBy events (values events) t
  by_events = after.named

  root_in_order : FallBy (λ x. age events (x ∷ [])) (named.names t.children)
  root_in_order = (by_events.order.children [] (named.root_of t) refl).sorted

  in_order : (fs : List NamedFragment) (h : AreFragmentsAmong (list_of t) fs) → AreInOrder (λ f. age events (f ∷ [])) (λ f. stands events (reverse (content f))) (map (λ (g : Fragment). g.name) (made events t by_events fs h).gs)
  in_order fs h =
      subst (AreInOrder (λ f. age events (f ∷ [])) (λ f. stands events (reverse (content f)))) (sym ((made events t by_events fs h).names ∙ ap (map (name_at events t by_events)) h.nodes)) (record {
        sound = each_from (λ f. stands events (reverse (content f)) ≡ true) (fragment_names events t by_events) (name_stands events t by_events);
        complete = stands_named events t by_events;
        sorted = fragments_fall t (λ f. age events (f ∷ [])) root_in_order (is_apart events t by_events);
      })

  meant_if_checked : (fs : List NamedFragment) → s.source.bodies ≡ [] → t.reservations ≡ [] → AreChecked (list_of t) fs → IsNamedOverlayOf places t fs
  meant_if_checked fs closed none c = record {
    overlay = overlay_of events m.gs;
    means = record {
      so_far = s;
      all_read = after.all_read;
      closed = closed;
      means = refl;
      ordered = in_order fs c.fragments;
      targeted = λ f i. each_in (λ (g : Fragment). HoldsTarget (overlay_of events []) g.name g.target) m.gs f m.held i;
      contained = contained events t by_events fs c.fragments c.marks c.brought c.contained;
      targets_contained = targets_contained events t by_events fs c.fragments c.marks c.brought c.targets_contained;
    };
    no_reservations = none;
    tree = by_events;
    fragments_are = m.of;
  }
    where
      m : Made events t by_events fs
      m = made events t by_events fs c.fragments

  refused_untargeted : HasUntargeted (list_of t) → IsLateOverlayRefusal events bad_fragment
  refused_untargeted u =
      let h = fragment_is t u.0 u.1 in
      let c = fragment_node events t by_events u.0 h.0 h.1 in (
        h.0,
        name_stands events t by_events h.0 (subst (λ x. IsIn x (fragment_names events t by_events)) (ap first_name h.1.path) (in_map (name_at events t by_events) (fragments_among (list_of t) (list_of t)) u.0 u.1)),
        λ target k.
            let w = meant_held events t by_events h.0 c.node c.at target k in
            u.2 w.0 (subst (λ ps. HoldTarget ps w.0) (sym c.properties) w.1),
      )

  refused_uncontained : AreUncontained (list_of t) → IsLateOverlayRefusal events outside_content
  refused_uncontained u = (
    m.gs,
    λ f. (
      λ h. of_name f m.gs ((in_order u.fs u.fragments).complete f h),
      λ h. each_in (λ x. stands events (reverse (content x)) ≡ true) (map (λ (g : Fragment). g.name) m.gs) f (in_order u.fs u.fragments).sound (in_names (record { name = f; target = h.0 }) m.gs h.1),
    ),
    λ f i. each_in (λ (g : Fragment). HoldsTarget (overlay_of events []) g.name g.target) m.gs f m.held i,
    uncontained events t by_events u.fs u.fragments u.marks u.brought u.uncontained,
  )
    where
      m : Made events t by_events u.fs
      m = made events t by_events u.fs u.fragments

pub checked_is_meant : CheckedIsMeant
checked_is_meant places t fs nested none after c = meant_if_checked places t after fs (overlay_closed places after.so_far nested after.all_read) none c

pub untargeted_is_refused : UntargetedIsRefused
untargeted_is_refused places t after u = (after.so_far, after.all_read, refused_untargeted places t after u)

pub uncontained_is_refused : UncontainedIsRefused
uncontained_is_refused places t after u = (after.so_far, after.all_read, refused_uncontained places t after u)
