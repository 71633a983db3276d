-- Nodes that land: which do, and on which paths.
use Rattle.std.proofs.Common.{◌≡◌, true, false, List, [], ◌++◌, map, refl, sym, ap, ◌∙◌, Option, Some, None, true≢false, append-nil}
use Rattle.std.specs.Prelude.{is_some}
use Rattle.dt_model.specs.Names.{Name}
use Rattle.dt_model.specs.Path.{Path, is_bookkeeping}
use Rattle.dt_model.specs.Lists.{IsIn}
use Rattle.dt_model.specs.Overlay.{content}
use Rattle.dt_model.specs.Merged.{Site, landing}
use Rattle.dt_model.specs.Object.{nodes_from}
use Rattle.dt_model.specs.Tree.{Reading, Node, Placed, root_of, node_at, nodes_of, stands_in}
use Rattle.dt_model.specs.Valid.{IsValid}
use Rattle.dt_model.proofs.Tests.{in_map, in_map_from}
use Rattle.dt_model.proofs.Listed.{stands_listed, listed_in}
use Rattle.dt_model_laws.proofs.Changing.{below_both}
use Rattle.dt_model_laws.proofs.Brought.{none_below}
use Rattle.dt_model_laws.proofs.KeptNames.{IsGoodNode, good_below}
use Rattle.dt_model_laws.proofs.GoodResult.{good_root}
use Rattle.dt_model_laws.proofs.Placed.{landing_from}
use Rattle.dt_overlay_model.specs.Walk.{site, landing_at, landings}
use Rattle.dt_overlay_laws.specs.Landings.{MayAllLand}

-- a node as a tree of its own
abbrev tree_below : Node → Reading
tree_below c = record { boot_cpu = 0; reservations = []; properties = c.properties; children = c.children }

-- a node that lands is one of those that its fragment brings
pub lands_listed : (object : Reading) (sites : List Site) (p q : Path) → stands_in object p ≡ true → landing sites p ≡ Some q → (x : Site) × (n : Placed) × IsIn x sites × IsIn n (landings object x) × (n.path ≡ q)
lands_listed object sites p q h l =
    let w = landing_from sites p q l in
    let n = listed w.0 w.1 (node_at object (content w.0.fragment)) refl (ap (stands_in object) (sym w.3) ∙ h) in
    (w.0, landing_at w.0.at n.0, w.2, in_map (landing_at w.0.at) (nodes_from (node_at object (content w.0.fragment))) n.0 n.1, ap (λ r. w.0.at ++ r) n.2 ∙ sym w.4)
  where
    listed : (x : Site) (rest : Path) (y : Option Node) → node_at object (content x.fragment) ≡ y → stands_in object (content x.fragment ++ rest) ≡ true → (n : Placed) × IsIn n (nodes_from y) × (n.path ≡ rest)
    listed x rest None e h = absurd (true≢false (sym h ∙ ap is_some (none_below (content x.fragment) rest (root_of object) e)))
    listed x rest (Some c) e h = stands_listed (tree_below c) rest (ap is_some (sym (below_both (content x.fragment) rest (root_of object) c e)) ∙ h)

-- and each of those is a node of the object
pub landing_stands : (object : Reading) → IsValid object → (f : Name) (q : Path) (n : Placed) → IsIn n (landings object (site f q)) → (rest : Path) × (n.path ≡ q ++ rest) × (stands_in object (content f ++ rest) ≡ true)
landing_stands object valid f q n i = step (node_at object (content f)) refl i
  where
    step : (y : Option Node) → node_at object (content f) ≡ y → IsIn n (map (landing_at q) (nodes_from y)) → (rest : Path) × (n.path ≡ q ++ rest) × (stands_in object (content f ++ rest) ≡ true)
    step None e k = absurd k
    step (Some c) e k =
        let w = in_map_from (landing_at q) (nodes_of (tree_below c)) n k in
        let good : IsGoodNode c = good_below (content f) (root_of object) c (good_root object valid) e in
        let at = listed_in (tree_below c) w.0 good.children.nodes good.children.distinct w.1 in
        (w.0.path, ap (λ (z : Placed). z.path) w.2, ap is_some (below_both (content f) w.0.path (root_of object) c e ∙ at.is))

-- the site of a fragment that brings what may land is no bookkeeping node
pub plain_site : (object : Reading) (f : Name) (q : Path) → stands_in object (content f) ≡ true → MayAllLand (landings object (site f q)) → is_bookkeeping q ≡ false
plain_site object f q h all = step (node_at object (content f)) h all
  where
    step : (y : Option Node) → is_some y ≡ true → MayAllLand (map (landing_at q) (nodes_from y)) → is_bookkeeping q ≡ false
    step None e all = absurd (true≢false (sym e))
    step (Some n) e all = ap is_bookkeeping (sym (append-nil q)) ∙ all.0.plain
