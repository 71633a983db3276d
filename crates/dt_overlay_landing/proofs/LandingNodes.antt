-- What is left to land of a node, as its properties and its children land one after another.
use Rattle.std.proofs.Common.{◌≡◌, ℕ, ◌<◌, true, false, List, [], ◌∷◌, ◌++◌, length, map, Option, Some, None, is_some, ◌⊎◌, inl, inr, refl, sym, ap, subst, ◌∙◌, arith, true≢false}
use Rattle.std.specs.Prelude.{option_and_then, unwrap_or}
use Rattle.std.specs.List.{AllByRecursion}
use Rattle.dt_model.specs.Limits.{most_names}
use Rattle.dt_model.specs.Names.{Name, IsPropertyName}
use Rattle.dt_model.specs.Path.{Path}
use Rattle.dt_model.specs.Tree.{Property, Forest, no_nodes, branch, Reading, Node, node_at, root_of, stands_in}
use Rattle.dt_model.specs.Valid.{IsValid}
use Rattle.dt_model.specs.Changes.{with_child_at, with_property_at}
use Rattle.dt_names.specs.declared.fault.Fault.{Fault}
use Rattle.dt_names.specs.declared.fault.FaultKind.{FaultKind}
use Rattle.dt_names.specs.declared.fault.FaultKind.TheVariants.{NoMemory, Limit, Duplicate, BlobPhandle}
use Rattle.dt_model_laws.proofs.KeptNames.{IsGoodNode, good_below}
use Rattle.dt_overlay_laws.specs.Steps.{land_properties, land_nodes, land_node, MayLandProperties, MayLandNodes, MayLandNode, FullAtProperties, FullAtNodes, FullAtNode}
use Rattle.dt_overlay_laws.specs.Writing.{landed_property}
use Rattle.dt_overlay_laws.proofs.SingleChanges.{child_stands, child_kept, property_kept, properties_kept, nodes_kept}
use Rattle.dt_overlay_landing.specs.Landed.{forest_landed, landed_as, landed_properties, node_landed, property_landed}
use Rattle.dt_overlay_landing.specs.Values.{Kept, with_kept}
use Rattle.dt_overlay_landing.specs.declared.landing.LandingNode.{LandingNode}
use Rattle.dt_overlay_base.specs.NodeNumbers.{at_node}
use Rattle.dt_overlay_base.specs.Targets.{IsWant, MaySetAt, WhyNotAddedAt, WhyNotSetAt}
use Rattle.dt_trees.specs.Placed.{PlacedTree, reading_of, path_at, last_name, properties_at, properties_found, below_at, IsNode}
use Rattle.dt_trees.proofs.NodePlaces.{stands_place}
use Rattle.dt_trees.proofs.Walked.{IsVisited, node_before, last_of}

-- ---- no room

-- a want in the middle is one of the whole
pub want_whole : (part whole : Type 0) (e : Fault) → (part → whole) → IsWant part e → IsWant whole e
want_whole part whole e h (at, inl memory) = (at, inl memory)
want_whole part whole e h (at, inr (limit, full)) = (at, inr (limit, h full))

-- ---- properties

-- What is left of the properties does to the tree so far what all of them do to the first one; where there is no room for one of them, there
-- is none for the whole.
pub record PropertiesLeft (full : Reading → Reading → Type 0) (q : Path) (landed : Property → Property) (left : List Property) (t whole : Reading) (crowded : Type 0) : Type 0 where
  pub lands : land_properties q (map landed left) t ≡ whole
  pub may : MayLandProperties q (map landed left) t
  pub stands : stands_in t q ≡ true
  pub named : AllByRecursion (λ p. IsPropertyName p.name) left
  pub stuck : FullAtProperties full q (map landed left) t → crowded

module _ (full : Reading → Reading → Type 0) (q : Path) (landed : Property → Property) (left rest : List Property) (p : Property) (t t' whole : Reading) (crowded : Type 0) (e : left ≡ p ∷ rest)
    (so_far : PropertiesLeft full q landed left t whole crowded) where
  pub properties_first : PropertiesLeft full q landed (p ∷ rest) t whole crowded
  properties_first = subst (λ (ps : List Property). PropertiesLeft full q landed ps t whole crowded) e so_far

  -- there is no room for the next one
  pub properties_stuck : full t (with_property_at q (landed p).name (landed p).value t) → crowded
  properties_stuck h = properties_first.stuck (inl h)

  -- one more is set
  pub properties_step : t' ≡ with_property_at q (landed p).name (landed p).value t → PropertiesLeft full q landed rest t' whole crowded
  properties_step set =
      let more = properties_first in
      subst (λ (r : Reading). PropertiesLeft full q landed rest r whole crowded) (sym set)
      (record {
        lands = more.lands;
        may = more.may.1;
        stands = property_kept q (landed p).name (landed p).value t q more.stands;
        named = more.named.1;
        stuck = λ h. more.stuck (inr h);
      })

-- none is left
pub properties_over : (full : Reading → Reading → Type 0) (q : Path) (landed : Property → Property) (left : List Property) (t whole : Reading) (crowded : Type 0) → left ≡ [] → PropertiesLeft full q landed left t whole crowded → t ≡ whole
properties_over full q landed left t whole crowded none so_far = (subst (λ (ps : List Property). PropertiesLeft full q landed ps t whole crowded) none so_far).lands

-- ---- a node

-- a child isn't added for want of memory or of room
pub add_want : (has_room : Reading → Type 0) (full : Type 0) (t : Reading) (p : Path) (name : Name) (kind : FaultKind) → stands_in t (p ++ name ∷ []) ≡ false → length p < most_names
    → (¬ has_room (with_child_at p name t) → full) → WhyNotAddedAt has_room kind t p name → (kind ≡ NoMemory) ⊎ ((kind ≡ Limit) × full)
add_want has_room full t p name NoMemory fresh shallow is why = inl refl
add_want has_room full t p name Duplicate fresh shallow is why = absurd (true≢false (sym why ∙ fresh))
add_want has_room full t p name Limit fresh shallow is (_, inl none) = inr (refl, is none)
add_want has_room full t p name Limit fresh shallow is (_, inr deep) = absurd (omega (arith, deep, shallow))
add_want has_room full t p name _ fresh shallow is why = absurd why

-- nor is a property set that may be
pub set_want : (has_room : Reading → Type 0) (full : Type 0) (t : Reading) (p : Path) (name : Name) (value : List ℕ) (kind : FaultKind) → MaySetAt t p name value
    → (¬ has_room (with_property_at p name value t) → full) → WhyNotSetAt has_room kind t p name value → (kind ≡ NoMemory) ⊎ ((kind ≡ Limit) × full)
set_want has_room full t p name value NoMemory may is why = inl refl
set_want has_room full t p name value BlobPhandle may is why = absurd (why may)
set_want has_room full t p name value Limit may is why = inr (refl, is why.1)
set_want has_room full t p name value _ may is why = absurd why

-- ---- the nodes below one

-- names are names in each node of a valid tree
pub good_node : (t : PlacedTree) (k : ℕ) → IsValid (reading_of t) → IsNode t k → (n : Node) × (node_at (reading_of t) (path_at t k) ≡ Some n) × IsGoodNode n
good_node t k valid is = by (node_at (reading_of t) (path_at t k)) refl
  where
    by : (o : Option Node) → node_at (reading_of t) (path_at t k) ≡ o → (n : Node) × (node_at (reading_of t) (path_at t k) ≡ Some n) × IsGoodNode n
    by None e = absurd (true≢false (sym (ap is_some is) ∙ stands_place t (path_at t k) ∙ ap is_some e))
    by (Some n) e = (n, e, good_below (path_at t k) (root_of (reading_of t)) n (record { properties = valid.properties; children = record { nodes = valid.nodes; distinct = valid.siblings } }) e)

pub properties_named : (t : PlacedTree) (k : ℕ) → IsValid (reading_of t) → IsNode t k → AllByRecursion (λ p. IsPropertyName p.name) (properties_at t (path_at t k))
properties_named t k valid is =
    let n = good_node t k valid is in
    subst (λ (o : Option Node). AllByRecursion (λ p. IsPropertyName p.name) (properties_found o)) (sym n.1) n.2.properties.named

-- What is left of the children does to the tree so far what all of them do to the first one; where there is no room on the way, there is none
-- for the whole.
pub record NodesLeft (full : Reading → Reading → Type 0) (landed : Forest → Forest) (q : Path) (left : Forest) (t whole : Reading) (crowded : Type 0) : Type 0 where
  pub lands : land_nodes q (landed left) t ≡ whole
  pub may : MayLandNodes q (landed left) t
  pub stands : stands_in t q ≡ true
  pub stuck : FullAtNodes full q (landed left) t → crowded

-- the properties of the node have landed
pub nodes_begin : (full : Reading → Reading → Type 0) (landed : Forest → Forest) (q : Path) (ps : List Property) (left : Forest) (t t1 : Reading) → t1 ≡ land_properties q ps t → stands_in t q ≡ true
    → MayLandNode q (record { properties = ps; children = landed left }) t
    → NodesLeft full landed q left t1 (land_node q (record { properties = ps; children = landed left }) t) (FullAtNode full q (record { properties = ps; children = landed left }) t)
nodes_begin full landed q ps left t t1 set stands may =
    subst (λ (r : Reading). NodesLeft full landed q left r (land_node q (record { properties = ps; children = landed left }) t) (FullAtNode full q (record { properties = ps; children = landed left }) t)) (sym set)
    (record { lands = refl; may = may.1; stands = properties_kept q ps t q stands; stuck = λ h. inr h })

-- what is true of the first of the children that are left, once it is there with its path
pub record IsNextChild (full : Reading → Reading → Type 0) (q : Path) (node : Node) (own : Path) (before t : Reading) (crowded : Type 0) : Type 0 where
  pub shallow : length q < most_names
  pub may : MayLandNode own node t
  pub stands : stands_in t own ≡ true
  pub added : full before t → crowded
  pub landed : FullAtNode full own node t → crowded

module _ (full : Reading → Reading → Type 0) (landed : Forest → Forest) (q : Path) (left rest : Forest) (x : Name) (node : Node) (e : landed left ≡ branch x node.properties node.children (landed rest)) (t whole : Reading) (crowded : Type 0)
    (so_far : NodesLeft full landed q left t whole crowded) where
  pub next_child : (name : Name) (own : Path) (t1 : Reading) → name ≡ x → own ≡ q ++ name ∷ [] → t1 ≡ with_child_at q name t → IsNextChild full q node own t t1 crowded
  next_child name own t1 named way added =
      let path : own ≡ q ++ x ∷ [] = way ∙ ap (λ (y : Name). q ++ y ∷ []) named in
      let is : t1 ≡ with_child_at q x t = added ∙ ap (λ (y : Name). with_child_at q y t) named in
      let may = subst (λ (f : Forest). MayLandNodes q f t) e so_far.may in
      let stuck = subst (λ (f : Forest). FullAtNodes full q f t → crowded) e so_far.stuck in
      subst (λ (p : Path). IsNextChild full q node p t t1 crowded) (sym path)
      (subst (λ (r : Reading). IsNextChild full q node (q ++ x ∷ []) t r crowded) (sym is)
      (record {
        shallow = may.0;
        may = (may.1, may.2);
        stands = child_stands q x t so_far.stands;
        added = λ h. stuck (inl h);
        landed = λ h. elim h [ inl own_full ↦ stuck (inr (inl own_full)) | inr below ↦ stuck (inr (inr (inl below))) ];
      }))

  -- a child has landed
  pub nodes_step : (name : Name) (own : Path) (t1 t2 : Reading) → name ≡ x → own ≡ q ++ name ∷ [] → t1 ≡ with_child_at q name t → t2 ≡ land_node own node t1 → NodesLeft full landed q rest t2 whole crowded
  nodes_step name own t1 t2 named way added set =
      let p = q ++ x ∷ [] in
      let path : own ≡ p = way ∙ ap (λ (y : Name). q ++ y ∷ []) named in
      let is : t1 ≡ with_child_at q x t = added ∙ ap (λ (y : Name). with_child_at q y t) named in
      let here : t2 ≡ land_node p node (with_child_at q x t) = set ∙ (λ i. land_node (path i) node (is i)) in
      let may = subst (λ (f : Forest). MayLandNodes q f t) e so_far.may in
      let stuck = subst (λ (f : Forest). FullAtNodes full q f t → crowded) e so_far.stuck in
      subst (λ (r : Reading). NodesLeft full landed q rest r whole crowded) (sym here)
      (record {
        lands = ap (λ (f : Forest). land_nodes q f t) (sym e) ∙ so_far.lands;
        may = may.3;
        stands = nodes_kept p node.children (land_properties p node.properties (with_child_at q x t)) q (properties_kept p node.properties (with_child_at q x t) q (child_kept q x t q so_far.stands));
        stuck = λ h. stuck (inr (inr (inr h)));
      })

-- none is left
pub nodes_over : (full : Reading → Reading → Type 0) (landed : Forest → Forest) (q : Path) (left : Forest) (t whole : Reading) (crowded : Type 0) → landed left ≡ no_nodes → NodesLeft full landed q left t whole crowded → t ≡ whole
nodes_over full landed q left t whole crowded none so_far = ap (λ (f : Forest). land_nodes q f t) (sym none) ∙ so_far.lands

-- ---- a node by its place

module _ (t : PlacedTree) (numbers : List (ℕ × ℕ)) (vs : List Kept) where
  -- its properties are those that the code lands
  pub as_landed : (l : LandingNode) → IsNode t l.node → numbers ≡ l.brought.now.numbers.entries → vs ≡ l.values.now → (p : Property) → property_landed t numbers vs (path_at t l.node) p ≡ landed_as l p
  as_landed l is same kept p =
      ap (λ (o : Option ℕ). landed_property (option_and_then (at_node numbers) o) (with_kept vs (unwrap_or o 0) p)) is ∙ (λ i. landed_property (at_node (same i) l.node) (with_kept (kept i) l.node p))

  pub all_as_landed : (l : LandingNode) → IsNode t l.node → numbers ≡ l.brought.now.numbers.entries → vs ≡ l.values.now → (node_landed t numbers vs (path_at t l.node)).properties ≡ landed_properties t l
  all_as_landed l is same kept = each (properties_at t (path_at t l.node))
    where
      each : (ps : List Property) → map (property_landed t numbers vs (path_at t l.node)) ps ≡ map (landed_as l) ps
      each [] = refl
      each (p ∷ ps) = λ i. as_landed l is same kept p i ∷ each ps i

  -- the first of the nodes below one, by its place
  pub first_landed : (p : Path) (k : ℕ) (x : Name) (rest : Forest) → path_at t k ≡ p ++ x ∷ [] → last_name (path_at t k) ≡ x
      → forest_landed t numbers vs p (node_before t k rest) ≡ branch x (node_landed t numbers vs (path_at t k)).properties (node_landed t numbers vs (path_at t k)).children (forest_landed t numbers vs p rest)
  first_landed p k x rest path named =
      let here : p ++ last_name (path_at t k) ∷ [] ≡ path_at t k = ap (λ (y : Name). p ++ y ∷ []) named ∙ sym path in
      λ i. branch (named i) (map (property_landed t numbers vs (here i)) (properties_at t (path_at t k))) (forest_landed t numbers vs (here i) (below_at t (path_at t k))) (forest_landed t numbers vs p rest)

  -- so is the one to which a walk comes
  pub visited_first : (p : Path) (k : ℕ) (left : Forest) (v : IsVisited t p k left)
      → forest_landed t numbers vs p left ≡ branch v.name (node_landed t numbers vs (path_at t k)).properties (node_landed t numbers vs (path_at t k)).children (forest_landed t numbers vs p v.rest)
  visited_first p k left v = ap (forest_landed t numbers vs p) v.split ∙ first_landed p k v.name v.rest v.path (ap last_name v.path ∙ last_of p v.name)
