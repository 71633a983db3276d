-- The phandles of a tree: those of its nodes, each the cell of a number.
use Rattle.std.proofs.Common.{◌≡◌, ℕ, List, [], ◌∷◌, ◌++◌, codes, option_to_list, refl, sym, ap, subst, inl, inr, Option, Some, None}
use Rattle.std.specs.List.{flat_map}
use Rattle.dt_model.specs.Path.{Path}
use Rattle.dt_model.specs.Lists.{IsIn}
use Rattle.dt_model.specs.Tree.{Reading, Placed, value_of, nodes_of, value_in}
use Rattle.dt_model.specs.Valid.{AreDistinct, IsValid, IsPhandle, phandle_values, phandles}
use Rattle.dt_model.proofs.Tests.{each_in, in_append, in_map}
use Rattle.dt_model.proofs.Distinct.{in_flat, distinct_append, not_twice}
use Rattle.dt_model.proofs.Listed.{value_listed}
use Rattle.dt_model.proofs.Preorder.{paths_of, phandle_list, all_phandles, value_in_list}

-- a thing of which nodes have at most one, each a different one
option_in : (v : List ℕ) (y : Option (List ℕ)) → IsIn v (option_to_list y) → y ≡ Some v
option_in v None i = absurd i
option_in v (Some w) (inl same) = ap Some (sym same)
option_in v (Some w) (inr i) = absurd i

option_distinct : (y : Option (List ℕ)) → AreDistinct (option_to_list y)
option_distinct None = tt
option_distinct (Some v) = (tt, tt)

pub flat_from : (nodes : List Placed) (v : List ℕ) → IsIn v (flat_map phandle_list nodes) → (n : Placed) × IsIn n nodes × (value_of n.properties (codes "phandle") ≡ Some v)
flat_from [] v i = absurd i
flat_from (n ∷ nodes) v i = elim (in_append v (phandle_list n) (flat_map phandle_list nodes) i) [
  | inl k ↦ (n, inl refl, option_in v (value_of n.properties (codes "phandle")) k)
  | inr k ↦ let w = flat_from nodes v k in (w.0, inr w.1, w.2)
]

pub flat_distinct : (nodes : List Placed) → AreDistinct (paths_of nodes)
    → ((n n' : Placed) (v : List ℕ) → IsIn n nodes → IsIn n' nodes → value_of n.properties (codes "phandle") ≡ Some v → value_of n'.properties (codes "phandle") ≡ Some v → n.path ≡ n'.path)
    → AreDistinct (flat_map phandle_list nodes)
flat_distinct [] d one = tt
flat_distinct (n ∷ nodes) d one =
    distinct_append (phandle_list n) (flat_map phandle_list nodes) (option_distinct (value_of n.properties (codes "phandle")))
    (flat_distinct nodes d.1 (λ x y v i j. one x y v (inr i) (inr j)))
    (λ v i j.
    let w = flat_from nodes v j in
    not_twice n.path (paths_of nodes) d
    (subst (λ q. IsIn q (paths_of nodes)) (one w.0 n v (inr w.1) (inl refl) w.2 (option_in v (value_of n.properties (codes "phandle")) i)) (in_map (λ (x : Placed). x.path) nodes w.0 w.1)))

-- a phandle of a tree that a blob may hold is one
pub phandle_is : (t : Reading) → IsValid t → (q : Path) (v : List ℕ) → value_in t q (codes "phandle") ≡ Some v → IsPhandle v
phandle_is t valid q v h =
    let w = value_listed t q (codes "phandle") v h in
    let i = in_flat phandle_list (nodes_of t) w.0 v w.1 (value_in_list w.0.properties v w.3) in
    each_in IsPhandle (phandle_values t.properties ++ phandles t.children) v valid.phandles_valid (subst (IsIn v) (all_phandles t) i)
