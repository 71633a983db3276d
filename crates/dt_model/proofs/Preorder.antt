-- The nodes of a valid tree in preorder: each path once, with names, and each phandle once.
use Rattle.std.proofs.Common.{◌≡◌, ◌≢◌, ℕ, ◌≤◌, List, [], ◌∷◌, ◌++◌, map, length, length-append, codes, refl, sym, ap, subst, ◌∙◌, inl, inr, Option, Some, None, append_assoc, arith, option_to_list}
use Rattle.std.specs.List.{AllByRecursion, flat_map}
use Rattle.dt_model.specs.Names.{Name, IsNodeName}
use Rattle.dt_model.specs.Path.{Path}
use Rattle.dt_model.specs.Lists.{IsIn}
use Rattle.dt_model.specs.Tree.{Property, Forest, no_nodes, branch, Reading, value_of, value_in, Placed, preorder, nodes_of}
use Rattle.dt_model.specs.Valid.{AreDistinct, names, AreNodes, IsValid, phandle_values, phandles, node_count}
use Rattle.dt_model.proofs.Tests.{each_in, each_from, each_append, in_append, in_map_from}
use Rattle.dt_model.proofs.Distinct.{distinct_append, one_has}
use Rattle.dt_model.proofs.Listed.{value_listed}

-- ---- paths

-- the path of a listed node begins with the name of one of the siblings
pub record IsBelow (path : Path) (fs : Forest) (p : Path) : Type 0 where
  pub name : Name
  pub rest : Path
  pub at : p ≡ path ++ name ∷ rest
  pub named : IsIn name (names fs)

pub listed_below : (path : Path) (fs : Forest) (n : Placed) → IsIn n (preorder path fs) → IsBelow path fs n.path
listed_below path no_nodes n i = absurd i
listed_below path (branch name properties children siblings) n (inl same) = record { name = name; rest = []; at = ap (λ x. x.path) same; named = inl refl }
listed_below path (branch name properties children siblings) n (inr i) =
    elim (in_append n (preorder (path ++ name ∷ []) children) (preorder path siblings) i) [
      | inl k ↦ deeper (listed_below (path ++ name ∷ []) children n k)
      | inr k ↦ beside (listed_below path siblings n k)
    ]
  where
    deeper : IsBelow (path ++ name ∷ []) children n.path → IsBelow path (branch name properties children siblings) n.path
    deeper h = record { name = name; rest = h.name ∷ h.rest; at = h.at ∙ append_assoc path (name ∷ []) (h.name ∷ h.rest); named = inl refl }

    beside : IsBelow path siblings n.path → IsBelow path (branch name properties children siblings) n.path
    beside h = record { name = h.name; rest = h.rest; at = h.at; named = inr h.named }

same_rest : (path p q : Path) → path ++ p ≡ path ++ q → p ≡ q
same_rest [] p q e = e
same_rest (x ∷ path) p q e = same_rest path p q cc

abbrev pub paths_of : List Placed → List Path
paths_of nodes = map (λ (n : Placed). n.path) nodes

map_append : (xs ys : List Placed) → paths_of (xs ++ ys) ≡ paths_of xs ++ paths_of ys
map_append [] ys = refl
map_append (x ∷ xs) ys = ap (λ z. x.path ∷ z) (map_append xs ys)

below_of : (path : Path) (fs : Forest) (p : Path) → IsIn p (paths_of (preorder path fs)) → IsBelow path fs p
below_of path fs p i =
    let w = in_map_from (λ (n : Placed). n.path) (preorder path fs) p i in
    let h = listed_below path fs w.0 w.1 in
    record { name = h.name; rest = h.rest; at = w.2 ∙ h.at; named = h.named }

pub preorder_distinct : (path : Path) (fs : Forest) → AreNodes fs → AreDistinct (names fs) → AreDistinct (paths_of (preorder path fs))
preorder_distinct path no_nodes ok d = tt
preorder_distinct path (branch name properties children siblings) ok d =
    subst (λ z. AllByRecursion (λ q. q ≢ path ++ name ∷ []) z × AreDistinct z) (sym (map_append (preorder (path ++ name ∷ []) children) (preorder path siblings))) (
      each_append (λ q. q ≢ path ++ name ∷ []) inner outer (each_from (λ q. q ≢ path ++ name ∷ []) inner not_here) (each_from (λ q. q ≢ path ++ name ∷ []) outer not_first),
      distinct_append inner outer (preorder_distinct (path ++ name ∷ []) children ok.2 ok.3) (preorder_distinct path siblings ok.4 d.1) not_both,
    )
  where
    inner : List Path
    inner = paths_of (preorder (path ++ name ∷ []) children)

    outer : List Path
    outer = paths_of (preorder path siblings)

    not_here : (q : Path) → IsIn q inner → q ≢ path ++ name ∷ []
    not_here q i e =
        let h = below_of (path ++ name ∷ []) children q i in
        let z : name ∷ h.name ∷ h.rest ≡ name ∷ [] = same_rest path (name ∷ h.name ∷ h.rest) (name ∷ []) (sym (append_assoc path (name ∷ []) (h.name ∷ h.rest)) ∙ sym h.at ∙ e) in
        cc

    other_name : (x : Name) → IsIn x (names siblings) → x ≢ name
    other_name x i = each_in (λ z. z ≢ name) (names siblings) x d.0 i

    not_first : (q : Path) → IsIn q outer → q ≢ path ++ name ∷ []
    not_first q i e =
        let h = below_of path siblings q i in
        let z : h.name ∷ h.rest ≡ name ∷ [] = same_rest path (h.name ∷ h.rest) (name ∷ []) (sym h.at ∙ e) in
        let same : h.name ≡ name = cc in
        other_name h.name h.named same

    not_both : (q : Path) → IsIn q inner → IsIn q outer → ⊥
    not_both q i j =
        let h = below_of (path ++ name ∷ []) children q i in
        let k = below_of path siblings q j in
        let z : k.name ∷ k.rest ≡ name ∷ h.name ∷ h.rest = same_rest path (k.name ∷ k.rest) (name ∷ h.name ∷ h.rest) (sym k.at ∙ h.at ∙ append_assoc path (name ∷ []) (h.name ∷ h.rest)) in
        let same : k.name ≡ name = cc in
        other_name k.name k.named same

pub paths_apart : (t : Reading) → AreNodes t.children → AreDistinct (names t.children) → AreDistinct (paths_of (nodes_of t))
paths_apart t nodes distinct = (each_from (λ q. q ≢ []) (paths_of (preorder [] t.children)) not_root, preorder_distinct [] t.children nodes distinct)
  where
    not_root : (q : Path) → IsIn q (paths_of (preorder [] t.children)) → q ≢ []
    not_root q i e = let h = below_of [] t.children q i in let z : h.name ∷ h.rest ≡ [] = sym h.at ∙ e in cc

pub paths_distinct : (t : Reading) → IsValid t → AreDistinct (paths_of (nodes_of t))
paths_distinct t valid = paths_apart t valid.nodes valid.siblings

-- ---- names

preorder_named : (path : Path) (fs : Forest) (n : Placed) → AllByRecursion IsNodeName path → AreNodes fs → IsIn n (preorder path fs) → AllByRecursion IsNodeName n.path
preorder_named path no_nodes n h ok i = absurd i
preorder_named path (branch name properties children siblings) n h ok (inl same) = subst (λ (x : Placed). AllByRecursion IsNodeName x.path) (sym same) (each_append IsNodeName path (name ∷ []) h (ok.0, tt))
preorder_named path (branch name properties children siblings) n h ok (inr i) =
    elim (in_append n (preorder (path ++ name ∷ []) children) (preorder path siblings) i) [
      | inl k ↦ preorder_named (path ++ name ∷ []) children n (each_append IsNodeName path (name ∷ []) h (ok.0, tt)) ok.2 k
      | inr k ↦ preorder_named path siblings n h ok.4 k
    ]

pub listed_named : (t : Reading) (n : Placed) → IsValid t → IsIn n (nodes_of t) → AllByRecursion IsNodeName n.path
listed_named t n valid (inl same) = subst (λ (x : Placed). AllByRecursion IsNodeName x.path) (sym same) tt
listed_named t n valid (inr i) = preorder_named [] t.children n tt valid.nodes i

-- ---- phandles

abbrev pub phandle_list : Placed → List (List ℕ)
phandle_list n = phandle_values n.properties

flat_append : (xs ys : List Placed) → flat_map phandle_list (xs ++ ys) ≡ flat_map phandle_list xs ++ flat_map phandle_list ys
flat_append [] ys = refl
flat_append (x ∷ xs) ys = ap (λ z. phandle_list x ++ z) (flat_append xs ys) ∙ sym (append_assoc (phandle_list x) (flat_map phandle_list xs) (flat_map phandle_list ys))

phandles_listed : (path : Path) (fs : Forest) → flat_map phandle_list (preorder path fs) ≡ phandles fs
phandles_listed path no_nodes = refl
phandles_listed path (branch name properties children siblings) =
    ap (λ z. phandle_values properties ++ z)
    (flat_append (preorder (path ++ name ∷ []) children) (preorder path siblings)
    ∙ ap (λ z. z ++ flat_map phandle_list (preorder path siblings)) (phandles_listed (path ++ name ∷ []) children)
    ∙ ap (λ z. phandles children ++ z) (phandles_listed path siblings))
    ∙ sym (append_assoc (phandle_values properties) (phandles children) (phandles siblings))

pub all_phandles : (t : Reading) → flat_map phandle_list (nodes_of t) ≡ phandle_values t.properties ++ phandles t.children
all_phandles t = ap (λ z. phandle_values t.properties ++ z) (phandles_listed [] t.children)

pub value_in_list : (ps : List Property) (v : List ℕ) → value_of ps (codes "phandle") ≡ Some v → IsIn v (phandle_values ps)
value_in_list ps v e = subst (λ y. IsIn v (option_to_list y)) (sym e) (inl refl)

-- two listed nodes with one phandle are one
pub one_phandle : (t : Reading) (n n' : Placed) (v : List ℕ) → IsValid t → IsIn n (nodes_of t) → IsIn n' (nodes_of t) → value_of n.properties (codes "phandle") ≡ Some v → value_of n'.properties (codes "phandle") ≡ Some v → n ≡ n'
one_phandle t n n' v valid i i' e e' =
    one_has phandle_list (nodes_of t) n n' v (subst AreDistinct (sym (all_phandles t)) valid.phandles_distinct) i i' (value_in_list n.properties v e) (value_in_list n'.properties v e')

-- two paths with one phandle are one
pub own_phandle : (t : Reading) (p q : Path) (v : List ℕ) → IsValid t → value_in t p (codes "phandle") ≡ Some v → value_in t q (codes "phandle") ≡ Some v → p ≡ q
own_phandle t p q v valid e e' =
    let a = value_listed t p (codes "phandle") v e in
    let b = value_listed t q (codes "phandle") v e' in
    sym a.2 ∙ ap (λ n. n.path) (one_phandle t a.0 b.0 v valid a.1 b.1 a.3 b.3) ∙ b.2

-- ---- how many

pub length-preorder : (path : Path) (fs : Forest) → length (preorder path fs) ≡ node_count fs
length-preorder path no_nodes = refl
length-preorder path (branch name properties children siblings) =
    let a = length-preorder (path ++ name ∷ []) children in
    let b = length-preorder path siblings in
    let c = length-append (preorder (path ++ name ∷ []) children) (preorder path siblings) in
    omega (arith, a, b, c)

length-values : (y : Option (List ℕ)) → length (option_to_list y) ≤ 1
length-values None = omega arith
length-values (Some v) = omega arith

pub length-flat : (nodes : List Placed) → length (flat_map phandle_list nodes) ≤ length nodes
length-flat [] = omega arith
length-flat (n ∷ nodes) =
    let a = length-flat nodes in
    let b = length-values (value_of n.properties (codes "phandle")) in
    let c = length-append (phandle_list n) (flat_map phandle_list nodes) in
    omega (arith, a, b, c)
