-- Landing change by change is merging: each change alters one node, and changes of one node after another are one change.
use Rattle.std.proofs.Common.{◌≡◌, ℕ, Bool, true, false, List, [], ◌∷◌, ◌++◌, codes, refl, sym, ap, ◌∙◌}
use Rattle.std.specs.Str.{bytes_eq}
use Rattle.dt_model.specs.Names.{Name}
use Rattle.dt_model.specs.Path.{Path}
use Rattle.dt_model.specs.Tree.{Property, Forest, no_nodes, branch, Reading, Node, root_of, node_at}
use Rattle.dt_model.specs.Changes.{set_property, set_properties, with_child, merged_forest, merged_node, changed_sibling, changed_below, with_root, changed_at, with_child_at, with_property_at}
use Rattle.dt_model.specs.Overlay.{content}
use Rattle.dt_model.specs.Merged.{Site}
use Rattle.dt_model.specs.Applied.{Write, brought, with_fragments, with_symbols_merged}
use Rattle.dt_overlay_laws.specs.Steps.{land_properties, land_nodes, land_node, land_fragments}
use Rattle.dt_model.proofs.Tests.{bytes_eq_refl}

-- ---- changes of one node after another

module _ (f g : Node → Node) where
  sibling_twice : (fs : Forest) (x : Name) → changed_sibling f (changed_sibling g fs x) x ≡ changed_sibling (λ n. f (g n)) fs x
  sibling_twice no_nodes x = refl
  sibling_twice (branch name properties children siblings) x = step (sibling_twice siblings x) (bytes_eq x name) refl
    where
      step : changed_sibling f (changed_sibling g siblings x) x ≡ changed_sibling (λ n. f (g n)) siblings x → (b : Bool) → bytes_eq x name ≡ b
          → changed_sibling f (changed_sibling g (branch name properties children siblings) x) x ≡ changed_sibling (λ n. f (g n)) (branch name properties children siblings) x
      step more true e = rw (e, e) refl
      step more false e = rw (e, e) (ap (branch name properties children) more)

below_twice : (f g : Node → Node) (p : Path) (n : Node) → changed_below f p (changed_below g p n) ≡ changed_below (λ n. f (g n)) p n
below_twice f g [] n = refl
below_twice f g (x ∷ p) n =
    ap (λ fs. record { properties = n.properties; children = fs })
    (sibling_twice (changed_below f p) (changed_below g p) n.children x
    ∙ ap (λ (c : Node → Node). changed_sibling c n.children x) (λ i c. below_twice f g p c i))

-- two changes of the node of a path are one
pub changed_twice : (f g : Node → Node) (q : Path) (t : Reading) → changed_at f q (changed_at g q t) ≡ changed_at (λ n. f (g n)) q t
changed_twice f g q t = ap (with_root t) (below_twice f g q (root_of t))

-- a change of one child
abbrev pub at_child : (Node → Node) → Name → Node → Node
at_child f name n = record { properties = n.properties; children = changed_sibling f n.children name }

below_child : (f : Node → Node) (q : Path) (name : Name) (n : Node) → changed_below f (q ++ name ∷ []) n ≡ changed_below (at_child f name) q n
below_child f [] name n = refl
below_child f (x ∷ q) name n =
    ap (λ (c : Node → Node). record { properties = n.properties; children = changed_sibling c n.children x }) (λ i c. below_child f q name c i)

-- a change of a child of the node of a path is a change of that node
pub changed_child : (f : Node → Node) (q : Path) (name : Name) (t : Reading) → changed_at f (q ++ name ∷ []) t ≡ changed_at (at_child f name) q t
changed_child f q name t = ap (with_root t) (below_child f q name (root_of t))

-- ---- properties

abbrev pub with_properties : List Property → Node → Node
with_properties ps n = record { properties = set_properties n.properties ps; children = n.children }

below_same : (q : Path) (n : Node) → changed_below (λ n. n) q n ≡ n
below_same [] n = refl
below_same (x ∷ q) n =
    ap (λ (c : Node → Node). record { properties = n.properties; children = changed_sibling c n.children x }) (λ i c. below_same q c i)
    ∙ ap (λ fs. record { properties = n.properties; children = fs }) (same n.children)
  where
    same : (fs : Forest) → changed_sibling (λ n. n) fs x ≡ fs
    same no_nodes = refl
    same (branch name properties children siblings) = step (same siblings) (bytes_eq x name) refl
      where
        step : changed_sibling (λ n. n) siblings x ≡ siblings → (b : Bool) → bytes_eq x name ≡ b → changed_sibling (λ n. n) (branch name properties children siblings) x ≡ branch name properties children siblings
        step more true e = rw e refl
        step more false e = rw e (ap (branch name properties children) more)

-- a change that changes nothing
changed_same : (q : Path) (t : Reading) → changed_at (λ n. n) q t ≡ t
changed_same q t = ap (with_root t) (below_same q (root_of t))

-- properties set one after another
pub landed_properties : (q : Path) (ps : List Property) (t : Reading) → land_properties q ps t ≡ changed_at (with_properties ps) q t
landed_properties q [] t = sym (changed_same q t)
landed_properties q (x ∷ ps) t =
    landed_properties q ps (with_property_at q x.name x.value t)
    ∙ changed_twice (with_properties ps) (λ n. record { properties = set_property n.properties x.name x.value; children = n.children }) q t

-- ---- nodes

-- a child added, and then changed, is a child that is merged
child_changed : (fs : Forest) (name : Name) (ps : List Property) (children : Forest)
    → changed_sibling (λ n. merged_node n (record { properties = ps; children = children })) (with_child fs name [] (λ nodes. nodes)) name ≡ with_child fs name ps (λ old. merged_forest old children)
child_changed no_nodes name ps children = rw (bytes_eq_refl name) refl
child_changed (branch x properties inner siblings) name ps children = step (child_changed siblings name ps children) (bytes_eq name x) refl
  where
    step : changed_sibling (λ n. merged_node n (record { properties = ps; children = children })) (with_child siblings name [] (λ nodes. nodes)) name ≡ with_child siblings name ps (λ old. merged_forest old children)
        → (b : Bool) → bytes_eq name x ≡ b
        → changed_sibling (λ n. merged_node n (record { properties = ps; children = children })) (with_child (branch x properties inner siblings) name [] (λ nodes. nodes)) name
        ≡ with_child (branch x properties inner siblings) name ps (λ old. merged_forest old children)
    step more true e = rw (e, e) refl
    step more false e = rw (e, e) (ap (branch x properties inner) more)

abbrev pub with_children : Forest → Node → Node
with_children fs n = record { properties = n.properties; children = merged_forest n.children fs }

-- a node that is added, or is there, with these properties set, and then with these children merged
one_child : (q : Path) (name : Name) (ps : List Property) (children : Forest) (t : Reading)
    → changed_at (λ n. merged_node n (record { properties = ps; children = children })) (q ++ name ∷ []) (with_child_at q name t)
    ≡ changed_at (λ n. record { properties = n.properties; children = with_child n.children name ps (λ old. merged_forest old children) }) q t
one_child q name ps children t =
    let change : Node → Node = λ n. merged_node n (record { properties = ps; children = children }) in
    changed_child change q name (with_child_at q name t)
    ∙ changed_twice (at_child change name) (λ n. record { properties = n.properties; children = with_child n.children name [] (λ nodes. nodes) }) q t
    ∙ ap (λ (c : Node → Node). changed_at c q t) (λ i n. record { properties = n.properties; children = child_changed n.children name ps children i })

pub landed_nodes : (q : Path) (f : Forest) (t : Reading) → land_nodes q f t ≡ changed_at (with_children f) q t
landed_nodes q no_nodes t = sym (changed_same q t)
landed_nodes q (branch name ps children siblings) t =
    let t1 : Reading = with_child_at q name t in
    let t2 : Reading = land_properties (q ++ name ∷ []) ps t1 in
    landed_nodes q siblings (land_nodes (q ++ name ∷ []) children t2)
    ∙ ap (changed_at (with_children siblings) q)
    (landed_nodes (q ++ name ∷ []) children t2
    ∙ ap (changed_at (with_children children) (q ++ name ∷ [])) (landed_properties (q ++ name ∷ []) ps t1)
    ∙ changed_twice (with_children children) (with_properties ps) (q ++ name ∷ []) t1
    ∙ one_child q name ps children t)
    ∙ changed_twice (with_children siblings) (λ n. record { properties = n.properties; children = with_child n.children name ps (λ old. merged_forest old children) }) q t

-- a node landed is a node merged
pub landing_is_merging : (q : Path) (m : Node) (t : Reading) → land_node q m t ≡ changed_at (λ n. merged_node n m) q t
landing_is_merging q m t =
    landed_nodes q m.children (land_properties q m.properties t)
    ∙ ap (changed_at (with_children m.children) q) (landed_properties q m.properties t)
    ∙ changed_twice (with_children m.children) (with_properties m.properties) q t

-- and so it is with what fragments bring
pub fragments_are_merged : (t object : Reading) (ws : List Write) (numbers : List (Path × ℕ)) (sites : List Site) → land_fragments t object ws numbers sites ≡ with_fragments t object ws numbers sites
fragments_are_merged t object ws numbers [] = refl
fragments_are_merged t object ws numbers (x ∷ sites) =
    let n : Node = brought ws numbers x.fragment (node_at object (content x.fragment)) in
    fragments_are_merged (land_node x.at n t) object ws numbers sites
    ∙ ap (λ z. with_fragments z object ws numbers sites) (landing_is_merging x.at n t)

-- and with symbols
pub symbols_are_merged : (p : Property) (ps : List Property) (t : Reading)
    → land_properties (codes "__symbols__" ∷ []) (p ∷ ps) (with_child_at [] (codes "__symbols__") t) ≡ with_symbols_merged (p ∷ ps) t
symbols_are_merged p ps t =
    landed_properties (codes "__symbols__" ∷ []) (p ∷ ps) (with_child_at [] (codes "__symbols__") t)
    ∙ one_child [] (codes "__symbols__") (p ∷ ps) no_nodes t
