-- Where an object may be applied and nothing lands too deep, no number is refused while its fragments land.
use Rattle.std.proofs.Common.{◌≡◌, ℕ, ◌≤◌, Bool, true, false, List, [], ◌∷◌, ◌++◌, map, length, length-append, codes, refl, sym, ap, subst, ◌∙◌, inl, inr, Option, Some, None, append_assoc, append-nil, arith}
use Rattle.std.specs.Prelude.{is_some, option_map, unwrap_or, if◌then◌else◌}
use Rattle.std.specs.Str.{bytes_eq}
use Rattle.dt_model.specs.Limits.{most_names}
use Rattle.dt_model.specs.Names.{Name}
use Rattle.dt_model.specs.Path.{Path}
use Rattle.dt_model.specs.Lists.{IsIn}
use Rattle.dt_model.specs.Meaning.{cell}
use Rattle.dt_model.specs.Overlay.{content}
use Rattle.dt_model.specs.Merged.{Site, landing}
use Rattle.dt_model.specs.Object.{Cell, fragment_names}
use Rattle.dt_model.specs.Numbers.{number_in}
use Rattle.dt_model.specs.Tree.{Property, Forest, no_nodes, branch, Reading, Node, Placed, value_of, root_of, node_at, preorder, nodes_of, value_in}
use Rattle.dt_model.specs.Valid.{IsValid, IsWithinLimits, IsPhandle}
use Rattle.dt_model.specs.Applied.{Write, writes, value_after_writes, written_property, written_forest, written_node, brought}
use Rattle.dt_model.proofs.Tests.{bytes_eq_refl, in_left, in_right}
use Rattle.dt_model.proofs.Listed.{listed_found, at_listed, listed_stands, listed_value}
use Rattle.dt_model_laws.proofs.Changing.{below_both}
use Rattle.dt_model_laws.proofs.KeptNames.{good_below}
use Rattle.dt_model_laws.proofs.GoodResult.{good_root}
use Rattle.dt_model_laws.proofs.Landing.{AreThere}
use Rattle.dt_overlay_model.specs.Walk.{Walked, nothing_walked, walk, new_numbers, may_land as is_allowed}
use Rattle.dt_overlay_model.proofs.Brought.{lands_below}
use Rattle.dt_overlay_model.proofs.Lookups.{distinct, are_there}
use Rattle.dt_overlay_model.proofs.ValidResult.{From, kept, landed_from, is_phandle, one_path}
use Rattle.dt_overlay_laws.specs.Laws.{AreShallow, AllowedMayLand}
use Rattle.dt_overlay_laws.specs.Objects.{HasCells}
use Rattle.dt_overlay_laws.specs.Steps.{land_properties, land_node, MayLandNode, MayLandFragments}
use Rattle.dt_overlay_laws.proofs.LandedNodes.{landing_is_merging}
use Rattle.dt_overlay_laws.proofs.LandedNumbers.{IsHeld, AreFrom, may_land_properties, AreNodesFrom, may_land_nodes}

-- a property that is there has a value
has_value : (ps : List Property) (x : Property) (name : Name) → IsIn x ps → x.name ≡ name → is_some (value_of ps name) ≡ true
has_value [] x name i e = absurd i
has_value (y ∷ ps) x name (inl same) e =
    ap (λ b. is_some (if b then Some y.value else value_of ps name)) (ap (λ z. bytes_eq z y.name) (sym e ∙ ap (λ (z : Property). z.name) same) ∙ bytes_eq_refl y.name)
has_value (y ∷ ps) x name (inr i) e = step (has_value ps x name i e) (bytes_eq name y.name)
  where
    step : is_some (value_of ps name) ≡ true → (b : Bool) → is_some (if b then Some y.value else value_of ps name) ≡ true
    step more true = refl
    step more false = more

-- the nodes below a node of a tree are nodes of that tree
nodes_below : (t : Reading) (p : Path) (c : Node) (n : Placed) → IsValid t → node_at t p ≡ Some c → IsIn n (preorder p c.children) → IsIn n (nodes_of t)
nodes_below t p c n valid e i =
    let good = good_below p (root_of t) c (good_root t valid) e in
    let h = listed_found p c.children n good.children.nodes good.children.distinct i in
    let is : node_at t (p ++ h.name ∷ h.rest) ≡ Some h.node = below_both p (h.name ∷ h.rest) (root_of t) c e ∙ h.is in
    let same : ◌≡◌ {A = Placed} (record { path = p ++ h.name ∷ h.rest; properties = h.node.properties }) n =
    ap (λ q. record { path = q; properties = h.node.properties }) (sym h.at) ∙ ap (λ ps. record { path = n.path; properties = ps }) h.same in
    subst (λ z. IsIn z (nodes_of t)) same (at_listed t (p ++ h.name ∷ h.rest) h.node is)

module _ (base object : Reading) (fixups : List (Name × Cell)) (valid_base : IsValid base) (valid : IsValid object) (few_in_base : IsWithinLimits base) (few_in_object : IsWithinLimits object)
    (cells : HasCells base) (w : Walked) (ended : walk base object fixups nothing_walked (fragment_names object.children) ≡ Some w) (may : is_allowed base object fixups w.sites ≡ true)
    (shallow : AreShallow object w.sites) where
  abbrev sites : List Site
  sites = w.sites

  abbrev numbers : List (Path × ℕ)
  numbers = new_numbers base object w

  abbrev ws : List Write
  ws = writes base object fixups (new_numbers base object w)

  abbrev Comes : Path → List ℕ → Type 0
  Comes = From base object fixups valid_base valid few_in_base few_in_object (λ q v plain e. cells q v e) w ended may

  number_is : (q : Path) (v : List ℕ) → Comes q v → IsPhandle v
  number_is = is_phandle base object fixups valid_base valid few_in_base few_in_object (λ q v plain e. cells q v e) w ended may

  path_is_one : (q r : Path) (v : List ℕ) → Comes q v → Comes r v → q ≡ r
  path_is_one = one_path base object fixups valid_base valid few_in_base few_in_object (λ q v plain e. cells q v e) w ended may

  abbrev Holds : Reading → Type 0
  Holds = IsHeld Comes number_is path_is_one

  -- properties of a node of the object, with its cells written
  properties_from : (p q : Path) (ps : List Property) → landing w.sites p ≡ Some q → ((x : Property) → IsIn x ps → x.name ≡ codes "phandle" → (u : List ℕ) × (value_in object p (codes "phandle") ≡ Some u))
      → AreFrom Comes number_is path_is_one q (map (written_property ws numbers p) ps)
  properties_from p q [] l own = tt
  properties_from p q (x ∷ ps) l own = (λ e. head (own x (inl refl) e) e, properties_from p q ps l (λ y i. own y (inr i)))
    where
      head : (u : List ℕ) × (value_in object p (codes "phandle") ≡ Some u) → x.name ≡ codes "phandle"
          → Comes q (if bytes_eq x.name (codes "phandle") then cell (unwrap_or (number_in numbers p) 0) else value_after_writes p x.name ws x.value)
      head u e =
          let is : (if bytes_eq x.name (codes "phandle") then cell (unwrap_or (number_in numbers p) 0) else value_after_writes p x.name ws x.value) ≡ cell (unwrap_or (number_in numbers p) 0) =
          ap (λ b. if b then cell (unwrap_or (number_in numbers p) 0) else value_after_writes p x.name ws x.value) (ap (λ n. bytes_eq n (codes "phandle")) e ∙ bytes_eq_refl (codes "phandle")) in
          subst (Comes q) (sym is)
          (landed_from base object fixups valid_base valid few_in_base few_in_object (λ q v plain e. cells q v e) w ended may p q u.0 (cell (unwrap_or (number_in numbers p) 0)) u.1 l
          (ap (option_map (λ _. cell (unwrap_or (number_in numbers p) 0))) u.1))

  module _ (x : Site) (i : IsIn x w.sites) where
    -- a node of the object has a value, if it has a property `phandle`
    value_of_node : (n : Placed) → IsIn n (nodes_of object) → (y : Property) → IsIn y n.properties → y.name ≡ codes "phandle" → (u : List ℕ) × (value_in object n.path (codes "phandle") ≡ Some u)
    value_of_node n j y k e = found (value_in object n.path (codes "phandle")) (ap is_some (listed_value object n (codes "phandle") valid j) ∙ has_value n.properties y (codes "phandle") k e)
      where
        found : (z : Option (List ℕ)) → is_some z ≡ true → (u : List ℕ) × (z ≡ Some u)
        found None h = absurd (let z : false ≡ true = h in cc)
        found (Some u) h = (u, refl)

    -- nodes that the fragment brings, with their cells written
    forest_from : (rest q : Path) (fs : Forest) → ((n : Placed) → IsIn n (preorder (content x.fragment ++ rest) fs) → IsIn n (nodes_of object)) → q ≡ x.at ++ rest
        → AreNodesFrom Comes number_is path_is_one q (written_forest ws numbers (content x.fragment ++ rest) fs)
    forest_from rest q no_nodes all at = tt
    forest_from rest q (branch name ps children siblings) all at = (
      (let b = length-append q (name ∷ []) in let c = deep in omega (arith, b, c)),
      properties_from n.path (q ++ name ∷ []) ps lands (value_of_node n here),
      forest_from (rest ++ name ∷ []) (q ++ name ∷ []) children (λ z j. all z (inr (in_left z (preorder n.path children) (preorder (content x.fragment ++ rest) siblings) j))) at_child,
      forest_from rest q siblings (λ z j. all z (inr (in_right z (preorder n.path children) (preorder (content x.fragment ++ rest) siblings) j))) at,
    )
      where
        n : Placed
        n = record { path = content x.fragment ++ (rest ++ name ∷ []); properties = ps }

        here : IsIn n (nodes_of object)
        here = all n (inl refl)

        at_child : q ++ name ∷ [] ≡ x.at ++ (rest ++ name ∷ [])
        at_child = ap (λ z. z ++ name ∷ []) at ∙ append_assoc x.at rest (name ∷ [])

        lands : landing sites n.path ≡ Some (q ++ name ∷ [])
        lands = lands_below w.sites x (rest ++ name ∷ []) (distinct base object fixups valid_base valid w ended may) i ∙ ap Some (sym at_child)

        deep : length (q ++ name ∷ []) ≤ most_names
        deep = shallow n.path (q ++ name ∷ []) (listed_stands object n valid here) lands

    -- what the fragment brings may land
    may_land_content : (t : Reading) → Holds t → (y : Option Node) → node_at object (content x.fragment) ≡ y
        → MayLandNode x.at (brought ws numbers x.fragment y) t × Holds (land_node x.at (brought ws numbers x.fragment y) t)
    may_land_content t held None e = ((tt, tt), held)
    may_land_content t held (Some c) e =
        let n : Placed = record { path = content x.fragment; properties = c.properties } in
        let there : IsIn n (nodes_of object) = at_listed object (content x.fragment) c e in
        let m : Node = written_node ws numbers (content x.fragment) c in
        let lands : landing w.sites (content x.fragment) ≡ Some x.at = lands_below w.sites x [] (distinct base object fixups valid_base valid w ended may) i ∙ ap Some (append-nil x.at) in
        let a = may_land_properties Comes number_is path_is_one x.at m.properties t held (properties_from (content x.fragment) x.at c.properties lands (value_of_node n there)) in
        let b = may_land_nodes Comes number_is path_is_one x.at m.children (land_properties x.at m.properties t) a.1
        (forest_from [] x.at c.children (λ z j. nodes_below object (content x.fragment) c z valid e j) (sym (append-nil x.at))) in
        ((a.0, b.0), b.1)

  may_land_from : (later : List Site) (t : Reading) → ((x : Site) → IsIn x later → IsIn x w.sites) → Holds t → AreThere object ws numbers valid t later → MayLandFragments t object ws numbers later
  may_land_from [] t all held there = tt
  may_land_from (x ∷ later) t all held there =
      let n : Node = brought ws numbers x.fragment (node_at object (content x.fragment)) in
      let w = may_land_content x (all x (inl refl)) t held (node_at object (content x.fragment)) refl in
      (there.0, w.0, may_land_from later (land_node x.at n t) (λ y j. all y (inr j)) w.1 (subst (λ z. AreThere object ws numbers valid z later) (sym (landing_is_merging x.at n t)) there.2))

  pub may_land : MayLandFragments base object ws numbers sites
  may_land = may_land_from w.sites base (λ x i. i) (λ q v h. kept h) (are_there base object fixups valid_base valid w ended may)

pub allowed_may_land : AllowedMayLand
allowed_may_land base object fixups w valid_base valid few_in_base few_in_object cells ended may shallow =
    may_land base object fixups valid_base valid few_in_base few_in_object cells w ended may shallow
