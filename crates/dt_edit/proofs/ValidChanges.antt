-- A tree with a property set or a child added is one that a blob may hold.
use Rattle.std.proofs.Common.{◌≡◌, ℕ, ◌+◌, ◌≤◌, ◌<◌, Bool, true, false, List, [], ◌∷◌, ◌++◌, length, codes, Some, refl, sym, ap, subst, ◌∙◌, arith, inl, inr}
use Rattle.std.specs.List.{AllByRecursion, flat_map}
use Rattle.std.specs.Str.{bytes_eq}
use Rattle.dt_model.specs.Changes.{set_property, with_child, changed_sibling, changed_below, with_child_at, with_property_at, merged_node}
use Rattle.dt_model.specs.Limits.{most_names, most_nodes}
use Rattle.dt_model.specs.Lists.{IsIn}
use Rattle.dt_model.specs.Names.{Name, IsNodeName, IsPropertyName}
use Rattle.dt_model.specs.Path.{Path}
use Rattle.dt_model.specs.Tree.{Forest, no_nodes, branch, Node, Reading, Placed, root_of, nodes_of, stands_in, value_in, value_of}
use Rattle.dt_model.specs.Valid.{AreDistinct, AreNodes, IsPhandle, IsReservation, IsValid, IsWithinLimits, IsNoDeeper, names, node_count, phandle_values, phandles}
use Rattle.dt_model.proofs.Listed.{listed_in, value_is_listed}
use Rattle.dt_model.proofs.Preorder.{all_phandles, own_phandle, paths_apart, phandle_list}
use Rattle.dt_model.proofs.Tests.{each_from}
use Rattle.dt_model_laws.proofs.KeptNames.{IsGoodNode, changed_good, merged_node_good}
use Rattle.dt_overlay_base.specs.Targets.{MaySetAt}
use Rattle.dt_overlay_laws.proofs.LandedNumbers.{property_values, child_values}
use Rattle.dt_overlay_laws.proofs.SingleChanges.{property_counted, child_counted}
use Rattle.dt_overlay_model.proofs.Phandles.{flat_from, flat_distinct, phandle_is}

-- ---- phandles

-- where a tree's phandles are valid, and each is one node's
record HasOwnPhandles (t : Reading) : Type 0 where
  valid : (q : Path) (v : List ℕ) → value_in t q (codes "phandle") ≡ Some v → IsPhandle v
  own : (p q : Path) (v : List ℕ) → value_in t p (codes "phandle") ≡ Some v → value_in t q (codes "phandle") ≡ Some v → p ≡ q

from_valid : (t : Reading) → IsValid t → HasOwnPhandles t
from_valid t valid = record { valid = phandle_is t valid; own = λ p q v e f. own_phandle t p q v valid e f }

valid_from : (t : Reading) → AreNodes t.children → AreDistinct (names t.children) → HasOwnPhandles t
    → AllByRecursion IsPhandle (phandle_values t.properties ++ phandles t.children) × AreDistinct (phandle_values t.properties ++ phandles t.children)
valid_from t nodes distinct h = (
  subst (AllByRecursion IsPhandle) (all_phandles t) (each_from IsPhandle (flat_map phandle_list (nodes_of t)) (λ v i. let w = flat_from (nodes_of t) v i in h.valid w.0.path v (value w.0 w.1 ∙ w.2))),
  subst AreDistinct (all_phandles t) (flat_distinct (nodes_of t) (paths_apart t nodes distinct) (λ n m v i j e f. h.own n.path m.path v (value n i ∙ e) (value m j ∙ f))),
)
  where
    value : (n : Placed) → IsIn n (nodes_of t) → value_in t n.path (codes "phandle") ≡ value_of n.properties (codes "phandle")
    value n i = value_is_listed t n (codes "phandle") (listed_in t n nodes distinct i)

-- the tree is one that a blob may hold
abbrev good_root : Reading → Type 0
good_root t = IsGoodNode (root_of t)

root_is_good : (t : Reading) → IsValid t → good_root t
root_is_good t valid = record { properties = valid.properties; children = record { nodes = valid.nodes; distinct = valid.siblings } }

good_valid : (t u : Reading) → IsValid t → u.boot_cpu ≡ t.boot_cpu → u.reservations ≡ t.reservations → good_root u → HasOwnPhandles u → IsValid u
good_valid t u valid cpu reservations good own =
    let p = valid_from u good.children.nodes good.children.distinct own in
    let boot = valid.boot_cpu in record {
      boot_cpu = omega arith;
      reservations = subst (λ rs. AllByRecursion IsReservation rs) (sym reservations) valid.reservations;
      properties = good.properties;
      nodes = good.children.nodes;
      siblings = good.children.distinct;
      phandles_valid = p.0;
      phandles_distinct = p.1;
    }

-- ---- a property

property_own : (t : Reading) (p : Path) (name : Name) (value : List ℕ) → HasOwnPhandles t → MaySetAt t p name value → HasOwnPhandles (with_property_at p name value t)
property_own t p name value h may = record {
  valid = λ q v e. elim (property_values p name value t q (codes "phandle") v e) [
    | inl old ↦ h.valid q v old
    | inr new ↦ subst IsPhandle new.2 (may.valid new.1)
  ];
  own = λ q r v e f. elim (property_values p name value t q (codes "phandle") v e) [
    | inl old ↦ elim (property_values p name value t r (codes "phandle") v f) [
      | inl other ↦ h.own q r v old other
      | inr new ↦ may.own new.1 q (old ∙ ap (λ (w : List ℕ). Some w) (sym new.2)) ∙ sym new.0
    ]
    | inr new ↦ elim (property_values p name value t r (codes "phandle") v f) [
      | inl old ↦ new.0 ∙ sym (may.own new.1 r (old ∙ ap (λ (w : List ℕ). Some w) (sym new.2)))
      | inr other ↦ new.0 ∙ sym other.0
    ]
  ];
}

pub valid_with_property : (t : Reading) (p : Path) (name : Name) (value : List ℕ) → IsValid t → IsPropertyName name → MaySetAt t p name value → IsValid (with_property_at p name value t)
valid_with_property t p name value valid named may =
    let only : Node = record { properties = record { name = name; value = value } ∷ []; children = no_nodes } in
    let own : IsGoodNode only = record { properties = record { named = (named, tt); distinct = (tt, tt) }; children = record { nodes = tt; distinct = tt } } in
    good_valid t (with_property_at p name value t) valid refl refl
    (changed_good (λ n. merged_node n only) (λ n good. merged_node_good n only good own) p (root_of t) (root_is_good t valid))
    (property_own t p name value (from_valid t valid) may)

-- ---- a child

child_own : (t : Reading) (p : Path) (name : Name) → HasOwnPhandles t → HasOwnPhandles (with_child_at p name t)
child_own t p name h = record {
  valid = λ q v e. h.valid q v (sym (child_values p name t q (codes "phandle")) ∙ e);
  own = λ q r v e f. h.own q r v (sym (child_values p name t q (codes "phandle")) ∙ e) (sym (child_values p name t r (codes "phandle")) ∙ f);
}

pub valid_with_child : (t : Reading) (p : Path) (name : Name) → IsValid t → IsNodeName name → IsValid (with_child_at p name t)
valid_with_child t p name valid named =
    let only : Node = record { properties = []; children = branch name [] no_nodes no_nodes } in
    let own : IsGoodNode only = record { properties = record { named = tt; distinct = tt }; children = record { nodes = (named, record { named = tt; distinct = tt }, tt, tt, tt); distinct = (tt, tt) } } in
    good_valid t (with_child_at p name t) valid refl refl
    (changed_good (λ n. merged_node n only) (λ n good. merged_node_good n only good own) p (root_of t) (root_is_good t valid))
    (child_own t p name (from_valid t valid))

-- ---- limits

-- a change of the node of a path deepens nothing, if it doesn't at that node's depth
deep_sibling : (change : Node → Node) (limit depth : ℕ) → ((n : Node) → IsNoDeeper limit (depth + 1) n.children → IsNoDeeper limit (depth + 1) (change n).children)
    → (fs : Forest) (x : Name) → IsNoDeeper limit depth fs → IsNoDeeper limit depth (changed_sibling change fs x)
deep_sibling change limit depth ok no_nodes x h = h
deep_sibling change limit depth ok (branch name properties children siblings) x h = step (deep_sibling change limit depth ok siblings x h.2) (bytes_eq x name) refl
  where
    step : IsNoDeeper limit depth (changed_sibling change siblings x) → (b : Bool) → bytes_eq x name ≡ b → IsNoDeeper limit depth (changed_sibling change (branch name properties children siblings) x)
    step later true e = rw e (h.0, ok (record { properties = properties; children = children }) h.1, h.2)
    step later false e = rw e (h.0, h.1, later)

deep_below : (change : Node → Node) (limit : ℕ) (p : Path) (depth : ℕ) → ((n : Node) → IsNoDeeper limit (depth + length p) n.children → IsNoDeeper limit (depth + length p) (change n).children)
    → (n : Node) → IsNoDeeper limit depth n.children → IsNoDeeper limit depth (changed_below change p n).children
deep_below change limit [] depth ok n h =
    let same : depth + 0 ≡ depth = omega arith in
    subst (λ (d : ℕ). IsNoDeeper limit d (change n).children) same (ok n (subst (λ (d : ℕ). IsNoDeeper limit d n.children) (sym same) h))
deep_below change limit (x ∷ p) depth ok n h =
    let same : depth + length (x ∷ p) ≡ depth + 1 + length p = omega arith in
    deep_sibling (changed_below change p) limit depth
    (deep_below change limit p (depth + 1)
    (λ m k. subst (λ (d : ℕ). IsNoDeeper limit d (change m).children) same (ok m (subst (λ (d : ℕ). IsNoDeeper limit d m.children) (sym same) k))))
    n.children x h

pub within_with_property : (t : Reading) (p : Path) (name : Name) (value : List ℕ) → IsWithinLimits t → IsWithinLimits (with_property_at p name value t)
within_with_property t p name value within =
    let count = within.count in record {
      count = omega (arith, property_counted p name value t);
      depth = deep_below (λ n. record { properties = set_property n.properties name value; children = n.children }) most_names p 1 (λ n h. h) (root_of t) within.depth;
    }

child_deep : (limit depth : ℕ) (fs : Forest) (name : Name) → depth ≤ limit → IsNoDeeper limit depth fs → IsNoDeeper limit depth (with_child fs name [] (λ nodes. nodes))
child_deep limit depth no_nodes name le h = (le, tt, tt)
child_deep limit depth (branch x properties children siblings) name le h = step (child_deep limit depth siblings name le h.2) (bytes_eq name x) refl
  where
    step : IsNoDeeper limit depth (with_child siblings name [] (λ nodes. nodes)) → (b : Bool) → bytes_eq name x ≡ b → IsNoDeeper limit depth (with_child (branch x properties children siblings) name [] (λ nodes. nodes))
    step later true e = rw e h
    step later false e = rw e (h.0, h.1, later)

pub within_with_child : (t : Reading) (p : Path) (name : Name) → IsWithinLimits t → stands_in t p ≡ true → stands_in t (p ++ name ∷ []) ≡ false → 2 + node_count t.children ≤ most_nodes → length p < most_names
    → IsWithinLimits (with_child_at p name t)
within_with_child t p name within there fresh few shallow = record {
  count = omega (arith, child_counted p name t there fresh, few);
  depth = deep_below (λ n. record { properties = n.properties; children = with_child n.children name [] (λ nodes. nodes) }) most_names p 1
      (λ n h. child_deep most_names (1 + length p) n.children name (omega (arith, shallow)) h) (root_of t) within.depth;
}
