-- The nodes of an object that fragments bring and that have a phandle, and where they land.
use Rattle.std.proofs.Common.{◌≡◌, ◌≢◌, ℕ, Bool, true, false, List, [], ◌∷◌, ◌++◌, map, codes, refl, sym, ap, subst, ◌∙◌, inl, inr, Option, Some, None, true≢false}
use Rattle.std.specs.Prelude.{is_some, option_map, option_and_then, if◌then◌else◌}
use Rattle.std.specs.Option.{option_or}
use Rattle.std.specs.List.{AllByRecursion, filter}
use Rattle.dt_model.specs.Names.{Name}
use Rattle.dt_model.specs.Path.{Path, below}
use Rattle.dt_model.specs.Lists.{IsIn}
use Rattle.dt_model.specs.Overlay.{content}
use Rattle.dt_model.specs.Merged.{Site, moved, landing}
use Rattle.dt_model.specs.Object.{nodes_from, is_fragment, fragment_names}
use Rattle.dt_model.specs.Numbers.{is_brought, needs_number, new_paths}
use Rattle.dt_model.specs.Tree.{Forest, no_nodes, branch, Reading, Node, Placed, value_of, root_of, node_at, nodes_of, value_in}
use Rattle.dt_model.specs.Valid.{AreDistinct, names, IsValid}
use Rattle.dt_model.proofs.Tests.{and_right, and_both, any_here, each_in, in_map, in_map_from, in_filter, filter_in, bytes_eq_other}
use Rattle.dt_model.proofs.Listed.{listed_in, value_is_listed, listed_value, value_listed}
use Rattle.dt_model_laws.proofs.Lands.{moved-append, below-append}
use Rattle.dt_model_laws.proofs.Changing.{below_both}
use Rattle.dt_model_laws.proofs.Brought.{none_below}
use Rattle.dt_model_laws.proofs.KeptNames.{IsGoodNode, good_below}
use Rattle.dt_model_laws.proofs.GoodResult.{good_root}
use Rattle.dt_model_laws.proofs.FragmentOrder.{each_fragment}
use Rattle.dt_model_laws.proofs.Placed.{site_names, landing_from}
use Rattle.dt_overlay_model.specs.Walk.{has_phandle, site, landing_at, landings}

pub fragments_distinct : (f : Forest) → AreDistinct (names f) → AreDistinct (fragment_names f)
fragments_distinct no_nodes d = tt
fragments_distinct (branch x ps c s) d = step (is_fragment x c) (each_fragment (λ y. y ≢ x) s d.0) (fragments_distinct s d.1)
  where
    step : (b : Bool) → AllByRecursion (λ y. y ≢ x) (fragment_names s) → AreDistinct (fragment_names s) → AreDistinct (if b then x ∷ fragment_names s else fragment_names s)
    step true others more = (others, more)
    step false others more = more

-- ---- where fragments land

-- what stands below a fragment's `__overlay__` lands below its site
pub lands_below : (sites : List Site) (x : Site) (rest : Path) → AreDistinct (site_names sites) → IsIn x sites → landing sites (content x.fragment ++ rest) ≡ Some (x.at ++ rest)
lands_below [] x rest d i = absurd i
lands_below (y ∷ sites) x rest d (inl same) =
    ap (λ o. option_or o (landing sites (content x.fragment ++ rest)))
    (ap (λ (z : Site). moved (content z.fragment) z.at (content x.fragment ++ rest)) (sym same) ∙ moved-append (content x.fragment) x.at rest)
lands_below (y ∷ sites) x rest d (inr i) =
    let other : x.fragment ≢ y.fragment = each_in (λ z. z ≢ y.fragment) (site_names sites) x.fragment d.0 (in_map (λ (z : Site). z.fragment) sites x i) in
    ap (λ b. option_or (option_map (λ r. y.at ++ r) (if b then below (codes "__overlay__" ∷ []) (codes "__overlay__" ∷ rest) else None)) (landing sites (content x.fragment ++ rest)))
    (bytes_eq_other y.fragment x.fragment (λ e. other (sym e)))
    ∙ lands_below sites x rest d.1 i

-- where a node has landed it stays
pub landing_more : (sites more : List Site) (p q : Path) → landing sites p ≡ Some q → landing (sites ++ more) p ≡ Some q
landing_more [] more p q h = absurd (let z : None ≡ Some q = h in cc)
landing_more (x ∷ sites) more p q h = step (moved (content x.fragment) x.at p) h (landing_more sites more p q)
  where
    step : (y : Option Path) → option_or y (landing sites p) ≡ Some q → (landing sites p ≡ Some q → landing (sites ++ more) p ≡ Some q) → option_or y (landing (sites ++ more) p) ≡ Some q
    step None e rest = rest e
    step (Some r) e rest = e

module _ (object : Reading) (valid : IsValid object) where
  -- a node as a tree of its own
  abbrev tree_below : Node → Reading
  tree_below c = record { boot_cpu = 0; reservations = []; properties = c.properties; children = c.children }

  content_value : (f : Name) (c : Node) (rest : Path) (name : Name) → node_at object (content f) ≡ Some c → value_in object (content f ++ rest) name ≡ value_in (tree_below c) rest name
  content_value f c rest name e = ap (option_and_then (λ (n : Node). value_of n.properties name)) (below_both (content f) rest (root_of object) c e)

  -- ---- which nodes get a number

  pub new_from : (f : Name) (rest : Path) (v : List ℕ) → IsIn f (fragment_names object.children) → value_in object (content f ++ rest) (codes "phandle") ≡ Some v
      → IsIn (content f ++ rest) (new_paths object)
  new_from f rest v i h =
      let test : Placed → Bool = needs_number (fragment_names object.children) in
      let w = value_listed object (content f ++ rest) (codes "phandle") v h in
      let brought : is_brought (fragment_names object.children) w.0.path ≡ true =
      any_here (λ g. is_some (below (content g) w.0.path)) (fragment_names object.children) f i (ap is_some (ap (below (content f)) w.2 ∙ below-append (content f) rest)) in
      subst (λ p. IsIn p (new_paths object)) w.2
      (in_map (λ (x : Placed). x.path) (filter test (nodes_of object)) w.0
      (filter_in test (nodes_of object) w.0 w.1 (and_both (is_brought (fragment_names object.children) w.0.path) (is_some (value_of w.0.properties (codes "phandle"))) brought (ap is_some w.3))))

  pub new_has : (p : Path) → IsIn p (new_paths object) → is_some (value_in object p (codes "phandle")) ≡ true
  new_has p i =
      let test : Placed → Bool = needs_number (fragment_names object.children) in
      let w = in_map_from (λ (n : Placed). n.path) (filter test (nodes_of object)) p i in
      let k = in_filter test (nodes_of object) w.0 w.1 in
      ap is_some (ap (λ q. value_in object q (codes "phandle")) w.2 ∙ listed_value object w.0 (codes "phandle") valid k.0)
      ∙ and_right (is_brought (fragment_names object.children) w.0.path) (is_some (value_of w.0.properties (codes "phandle"))) k.1

  -- ---- and where they land

  -- a node with a phandle that lands on a fragment's site is one of these
  pub landing_is_new : (f : Name) (q : Path) (n : Placed) → IsIn f (fragment_names object.children) → IsIn n (landings object (site f q)) → has_phandle n ≡ true
      → (rest : Path) × (n.path ≡ q ++ rest) × IsIn (content f ++ rest) (new_paths object)
  landing_is_new f q n i k has = step (node_at object (content f)) refl k
    where
      found : (y : Option (List ℕ)) → is_some y ≡ true → (v : List ℕ) × (y ≡ Some v)
      found None h = absurd (true≢false (sym h))
      found (Some v) h = (v, refl)

      step : (y : Option Node) → node_at object (content f) ≡ y → IsIn n (map (landing_at q) (nodes_from y)) → (rest : Path) × (n.path ≡ q ++ rest) × IsIn (content f ++ rest) (new_paths object)
      step None e k = absurd k
      step (Some c) e k =
          let w = in_map_from (landing_at q) (nodes_of (tree_below c)) n k in
          let good : IsGoodNode c = good_below (content f) (root_of object) c (good_root object valid) e in
          let value : value_in object (content f ++ w.0.path) (codes "phandle") ≡ value_of w.0.properties (codes "phandle") =
          content_value f c w.0.path (codes "phandle") e ∙ value_is_listed (tree_below c) w.0 (codes "phandle") (listed_in (tree_below c) w.0 good.children.nodes good.children.distinct w.1) in
          let some : is_some (value_in object (content f ++ w.0.path) (codes "phandle")) ≡ true = ap is_some value ∙ ap has_phandle (sym w.2) ∙ has in
          let v = found (value_in object (content f ++ w.0.path) (codes "phandle")) some in
          (w.0.path, ap (λ (z : Placed). z.path) w.2, new_from f w.0.path v.0 i v.1)

  -- and each of these that lands is one that lands on a site
  pub new_is_landing : (sites : List Site) (p q : Path) → IsIn p (new_paths object) → landing sites p ≡ Some q
      → (x : Site) × (n : Placed) × IsIn x sites × IsIn n (landings object x) × (has_phandle n ≡ true) × (n.path ≡ q)
  new_is_landing sites p q i l =
      let w = landing_from sites p q l in
      let has : is_some (value_in object (content w.0.fragment ++ w.1) (codes "phandle")) ≡ true = ap (λ r. is_some (value_in object r (codes "phandle"))) (sym w.3) ∙ new_has p i in
      let n = listed w.0 w.1 (node_at object (content w.0.fragment)) refl has in
      (w.0, landing_at w.0.at n.0, w.2, in_map (landing_at w.0.at) (nodes_from (node_at object (content w.0.fragment))) n.0 n.1, n.3, ap (λ r. w.0.at ++ r) n.2 ∙ sym w.4)
    where
      listed : (x : Site) (rest : Path) (y : Option Node) → node_at object (content x.fragment) ≡ y → is_some (value_in object (content x.fragment ++ rest) (codes "phandle")) ≡ true
          → (n : Placed) × IsIn n (nodes_from y) × (n.path ≡ rest) × (has_phandle n ≡ true)
      listed x rest None e h =
          absurd (true≢false (sym h ∙ ap (λ z. is_some (option_and_then (λ (n : Node). value_of n.properties (codes "phandle")) z)) (none_below (content x.fragment) rest (root_of object) e)))
      listed x rest (Some c) e h = inner (value_in (tree_below c) rest (codes "phandle")) refl (ap is_some (sym (content_value x.fragment c rest (codes "phandle") e)) ∙ h)
        where
          inner : (z : Option (List ℕ)) → value_in (tree_below c) rest (codes "phandle") ≡ z → is_some z ≡ true → (n : Placed) × IsIn n (nodes_of (tree_below c)) × (n.path ≡ rest) × (has_phandle n ≡ true)
          inner None k some = absurd (true≢false (sym some))
          inner (Some v) k some = let w = value_listed (tree_below c) rest (codes "phandle") v k in (w.0, w.1, w.2, ap is_some w.3)

  -- a node with a phandle that lands is one of these
  pub source_is_new : (sites : List Site) (p q : Path) (v : List ℕ) → ((f : Name) → IsIn f (site_names sites) → IsIn f (fragment_names object.children)) → value_in object p (codes "phandle") ≡ Some v
      → landing sites p ≡ Some q → IsIn p (new_paths object)
  source_is_new sites p q v of h l =
      let w = landing_from sites p q l in
      let i : IsIn w.0.fragment (fragment_names object.children) = of w.0.fragment (in_map (λ (x : Site). x.fragment) sites w.0 w.2) in
      subst (λ r. IsIn r (new_paths object)) (sym w.3) (new_from w.0.fragment w.1 v i (ap (λ r. value_in object r (codes "phandle")) (sym w.3) ∙ h))
