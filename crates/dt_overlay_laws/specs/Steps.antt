-- Landing what an object's fragments bring, change by change.
use Rattle.std.specs.Prelude.{◌≡◌, ◌⊎◌, ℕ, ◌<◌, true, List, [], ◌∷◌, ◌++◌, length, Some, codes}
use Rattle.dt_model.specs.Limits.{most_names}
use Rattle.dt_model.specs.Names.{Name}
use Rattle.dt_model.specs.Object.{Cell}
use Rattle.dt_model.specs.Path.{Path}
use Rattle.dt_model.specs.Tree.{Property, Forest, no_nodes, branch, Reading, Node, node_at, stands_in, value_in}
use Rattle.dt_model.specs.Valid.{IsPhandle}
use Rattle.dt_model.specs.Changes.{with_child_at, with_property_at}
use Rattle.dt_model.specs.Overlay.{content}
use Rattle.dt_model.specs.Merged.{Site}
use Rattle.dt_model.specs.Applied.{Write, brought, writes, landed_symbols}

-- properties set in the node of a path, one after another
abbrev pub land_properties : Path → List Property → Reading → Reading
land_properties q [] t = t
land_properties q (x ∷ xs) t = land_properties q xs (with_property_at q x.name x.value t)

-- Nodes landed below a path, in preorder: a child that isn't there is added, and then gets its properties.
abbrev pub land_nodes : Path → Forest → Reading → Reading
land_nodes q no_nodes t = t
land_nodes q (branch name properties children siblings) t =
    land_nodes q siblings (land_nodes (q ++ name ∷ []) children (land_properties (q ++ name ∷ []) properties (with_child_at q name t)))

-- a node landed on a path that is there
abbrev pub land_node : Path → Node → Reading → Reading
land_node q n t = land_nodes q n.children (land_properties q n.properties t)

-- what the fragments bring, each landed on its site
abbrev pub land_fragments : Reading → Reading → List Write → List (Path × ℕ) → List Site → Reading
land_fragments t object ws numbers [] = t
land_fragments t object ws numbers (x ∷ sites) =
    land_fragments (land_node x.at (brought ws numbers x.fragment (node_at object (content x.fragment))) t) object ws numbers sites

-- ---- nothing but memory and the number of nodes is in the way

-- a phandle is a number in range that no other node has
abbrev pub MaySetValue : Path → Name → List ℕ → Reading → Type 0
MaySetValue q name value t =
    name ≡ codes "phandle" → IsPhandle value × ((p : Path) → value_in t p (codes "phandle") ≡ Some value → p ≡ q)

abbrev pub MayLandProperties : Path → List Property → Reading → Type 0
MayLandProperties q [] t = Unit {0}
MayLandProperties q (x ∷ xs) t = MaySetValue q x.name x.value t × MayLandProperties q xs (with_property_at q x.name x.value t)

abbrev pub MayLandNodes : Path → Forest → Reading → Type 0
MayLandNodes q no_nodes t = Unit {0}
MayLandNodes q (branch name properties children siblings) t =
    (length q < most_names)
    × MayLandProperties (q ++ name ∷ []) properties (with_child_at q name t)
    × MayLandNodes (q ++ name ∷ []) children (land_properties (q ++ name ∷ []) properties (with_child_at q name t))
    × MayLandNodes q siblings (land_nodes (q ++ name ∷ []) children (land_properties (q ++ name ∷ []) properties (with_child_at q name t)))

abbrev pub MayLandNode : Path → Node → Reading → Type 0
MayLandNode q n t = MayLandProperties q n.properties t × MayLandNodes q n.children (land_properties q n.properties t)

abbrev pub MayLandFragments : Reading → Reading → List Write → List (Path × ℕ) → List Site → Type 0
MayLandFragments t object ws numbers [] = Unit {0}
MayLandFragments t object ws numbers (x ∷ sites) =
    (stands_in t x.at ≡ true)
    × MayLandNode x.at (brought ws numbers x.fragment (node_at object (content x.fragment))) t
    × MayLandFragments (land_node x.at (brought ws numbers x.fragment (node_at object (content x.fragment))) t) object ws numbers sites

-- ---- a change on the way for which there is no room: that which makes `next` of t, where `full t next`

abbrev pub FullAtProperties : (Reading → Reading → Type 0) → Path → List Property → Reading → Type 0
FullAtProperties full q [] t = ⊥
FullAtProperties full q (x ∷ xs) t = full t (with_property_at q x.name x.value t) ⊎ FullAtProperties full q xs (with_property_at q x.name x.value t)

abbrev pub FullAtNodes : (Reading → Reading → Type 0) → Path → Forest → Reading → Type 0
FullAtNodes full q no_nodes t = ⊥
FullAtNodes full q (branch name properties children siblings) t =
    full t (with_child_at q name t)
    ⊎ (FullAtProperties full (q ++ name ∷ []) properties (with_child_at q name t)
    ⊎ (FullAtNodes full (q ++ name ∷ []) children (land_properties (q ++ name ∷ []) properties (with_child_at q name t))
    ⊎ FullAtNodes full q siblings (land_nodes (q ++ name ∷ []) children (land_properties (q ++ name ∷ []) properties (with_child_at q name t)))))

abbrev pub FullAtNode : (Reading → Reading → Type 0) → Path → Node → Reading → Type 0
FullAtNode full q n t = FullAtProperties full q n.properties t ⊎ FullAtNodes full q n.children (land_properties q n.properties t)

abbrev pub FullAtFragments : (Reading → Reading → Type 0) → Reading → Reading → List Write → List (Path × ℕ) → List Site → Type 0
FullAtFragments full t object ws numbers [] = ⊥
FullAtFragments full t object ws numbers (x ∷ sites) =
    FullAtNode full x.at (brought ws numbers x.fragment (node_at object (content x.fragment))) t
    ⊎ FullAtFragments full (land_node x.at (brought ws numbers x.fragment (node_at object (content x.fragment))) t) object ws numbers sites

-- labels, in the node that holds them
abbrev pub FullAtSymbols : (Reading → Reading → Type 0) → List Property → Reading → Type 0
FullAtSymbols full [] t = ⊥
FullAtSymbols full (p ∷ ps) t =
    full t (with_child_at [] (codes "__symbols__") t)
    ⊎ FullAtProperties full (codes "__symbols__" ∷ []) (p ∷ ps) (with_child_at [] (codes "__symbols__") t)

-- all that an object brings to its sites, by these numbers: what its fragments bring, and then the labels
abbrev pub FullAtLanding : (Reading → Reading → Type 0) → Reading → Reading → List (Name × Cell) → List (Path × ℕ) → List Site → List Property → Type 0
FullAtLanding full base object fixups numbers sites labels =
    FullAtFragments full base object (writes base object fixups numbers) numbers sites
    ⊎ FullAtSymbols full (landed_symbols object sites labels) (land_fragments base object (writes base object fixups numbers) numbers sites)
