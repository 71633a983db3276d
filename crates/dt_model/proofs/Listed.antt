-- The nodes of a tree in preorder are the nodes that stand.
use Rattle.std.proofs.Common.{◌≡◌, ◌≢◌, ℕ, Bool, true, false, List, [], ◌∷◌, ◌++◌, refl, sym, ap, subst, ◌∙◌, inl, inr, Option, Some, None, true≢false, append_assoc}
use Rattle.std.specs.Prelude.{is_some, option_and_then}
use Rattle.std.specs.List.{AllByRecursion}
use Rattle.std.specs.Str.{bytes_eq}
use Rattle.dt_model.specs.Names.{Name, IsPropertyName}
use Rattle.dt_model.specs.Path.{Path}
use Rattle.dt_model.specs.Lists.{IsIn}
use Rattle.dt_model.specs.Tree.{Property, Forest, no_nodes, branch, Reading, value_of, Node, sibling, node_below, root_of, node_at, stands_in, value_in, Placed, preorder, nodes_of}
use Rattle.dt_model.specs.Valid.{AreDistinct, AreProperties, names, AreNodes, IsValid}
use Rattle.dt_model.proofs.Tests.{bytes_eq_refl, bytes_eq_true, bytes_eq_other, in_left, in_right, in_append}

-- the node of a path that begins with this name
abbrev pub found : Forest → Name → Path → Option Node
found fs x p = option_and_then (λ c. node_below c p) (sibling fs x)

-- a listed node is one that is found
pub record IsFound (path : Path) (fs : Forest) (n : Placed) : Type 0 where
  pub name : Name
  pub rest : Path
  pub node : Node
  pub at : n.path ≡ path ++ name ∷ rest
  pub is : found fs name rest ≡ Some node
  pub same : node.properties ≡ n.properties

-- a sibling that differs from none of these isn't found
pub other_sibling : (fs : Forest) (x y : Name) (c : Node) → AllByRecursion (λ z. z ≢ y) (names fs) → sibling fs x ≡ Some c → bytes_eq x y ≡ false
other_sibling no_nodes x y c d e = absurd (let z : None ≡ Some c = e in cc)
other_sibling (branch name properties children siblings) x y c d e = step (λ k. other_sibling siblings x y c d.1 k) (bytes_eq x name) refl
  where
    step : (sibling siblings x ≡ Some c → bytes_eq x y ≡ false) → (b : Bool) → bytes_eq x name ≡ b → bytes_eq x y ≡ false
    step more true k = bytes_eq_other x y (λ same. d.0 (sym (bytes_eq_true x name k) ∙ same))
    step more false k = more (rw k at e)

pub found_some : (fs : Forest) (x : Name) (p : Path) (c : Node) → found fs x p ≡ Some c → (s : Node) × (sibling fs x ≡ Some s) × (node_below s p ≡ Some c)
found_some fs x p c e = step (sibling fs x) refl
  where
    step : (y : Option Node) → sibling fs x ≡ y → (s : Node) × (sibling fs x ≡ Some s) × (node_below s p ≡ Some c)
    step None k = absurd (let z : None ≡ Some c = rw k at e in cc)
    step (Some s) k = (s, k, rw k at e)

pub listed_found : (path : Path) (fs : Forest) (n : Placed) → AreNodes fs → AreDistinct (names fs) → IsIn n (preorder path fs) → IsFound path fs n
listed_found path no_nodes n ok d i = absurd i
listed_found path (branch name properties children siblings) n ok d (inl same) = record {
  name = name;
  rest = [];
  node = record { properties = properties; children = children };
  at = ap (λ x. x.path) same;
  is = rw (bytes_eq_refl name) refl;
  same = sym (ap (λ x. x.properties) same);
}
listed_found path (branch name properties children siblings) n ok d (inr i) =
    elim (in_append n (preorder (path ++ name ∷ []) children) (preorder path siblings) i) [
      | inl k ↦ below (listed_found (path ++ name ∷ []) children n ok.2 ok.3 k)
      | inr k ↦ beside (listed_found path siblings n ok.4 d.1 k)
    ]
  where
    below : IsFound (path ++ name ∷ []) children n → IsFound path (branch name properties children siblings) n
    below h = record {
      name = name;
      rest = h.name ∷ h.rest;
      node = h.node;
      at = h.at ∙ append_assoc path (name ∷ []) (h.name ∷ h.rest);
      is = rw (bytes_eq_refl name) h.is;
      same = h.same;
    }

    beside : IsFound path siblings n → IsFound path (branch name properties children siblings) n
    beside h =
        let s = found_some siblings h.name h.rest h.node h.is in
        record {
          name = h.name;
          rest = h.rest;
          node = h.node;
          at = h.at;
          is = rw (other_sibling siblings h.name name s.0 d.0 s.1) h.is;
          same = h.same;
        }

pub found_listed : (path : Path) (fs : Forest) (x : Name) (p : Path) (c : Node) → found fs x p ≡ Some c → IsIn (record { path = path ++ x ∷ p; properties = c.properties }) (preorder path fs)
found_listed path no_nodes x p c e = absurd (let z : None ≡ Some c = e in cc)
found_listed path (branch name properties children siblings) x p c e =
    step (λ y r k. found_listed (path ++ name ∷ []) children y r c k) (λ r k. found_listed path siblings x r c k) p (bytes_eq x name) refl e
  where
    last : (r : Path) → IsIn (record { path = path ++ x ∷ r; properties = c.properties }) (preorder path siblings) → IsIn (record { path = path ++ x ∷ r; properties = c.properties }) (preorder path (branch name properties children siblings))
    last r i = inr (in_right (record { path = path ++ x ∷ r; properties = c.properties }) (preorder (path ++ name ∷ []) children) (preorder path siblings) i)

    step : ((y : Name) (r : Path) → found children y r ≡ Some c → IsIn (record { path = (path ++ name ∷ []) ++ y ∷ r; properties = c.properties }) (preorder (path ++ name ∷ []) children))
        → ((r : Path) → found siblings x r ≡ Some c → IsIn (record { path = path ++ x ∷ r; properties = c.properties }) (preorder path siblings))
        → (r : Path) (b : Bool) → bytes_eq x name ≡ b → found (branch name properties children siblings) x r ≡ Some c
        → IsIn (record { path = path ++ x ∷ r; properties = c.properties }) (preorder path (branch name properties children siblings))
    step inner more [] true k h =
        let z : ◌≡◌ {A = Option Node} (Some (record { properties = properties; children = children })) (Some c) = rw k at h in
        let is : ◌≡◌ {A = Node} (record { properties = properties; children = children }) c = cc in
        inl (ap (λ y. record { path = path ++ y ∷ []; properties = c.properties }) (bytes_eq_true x name k) ∙ ap (λ y. record { path = path ++ name ∷ []; properties = y }) (sym (ap (λ y. y.properties) is)))
    step inner more (y ∷ r) true k h =
        let z : found children y r ≡ Some c = rw k at h in
        let at : (path ++ name ∷ []) ++ y ∷ r ≡ path ++ x ∷ y ∷ r = append_assoc path (name ∷ []) (y ∷ r) ∙ ap (λ w. path ++ w ∷ y ∷ r) (sym (bytes_eq_true x name k)) in
        inr (in_left (record { path = path ++ x ∷ y ∷ r; properties = c.properties }) (preorder (path ++ name ∷ []) children) (preorder path siblings)
        (subst (λ w. IsIn (record { path = w; properties = c.properties }) (preorder (path ++ name ∷ []) children)) at (inner y r z)))
    step inner more [] false k h = last [] (more [] (rw k at h))
    step inner more (y ∷ r) false k h = last (y ∷ r) (more (y ∷ r) (rw k at h))

-- ---- all nodes

-- a listed node is the node of its path
pub record IsAt (t : Reading) (n : Placed) : Type 0 where
  pub node : Node
  pub is : node_at t n.path ≡ Some node
  pub same : node.properties ≡ n.properties

pub listed_in : (t : Reading) (n : Placed) → AreNodes t.children → AreDistinct (names t.children) → IsIn n (nodes_of t) → IsAt t n
listed_in t n nodes distinct (inl e) = record { node = root_of t; is = ap (node_below (root_of t)) (ap (λ x. x.path) e); same = sym (ap (λ x. x.properties) e) }
listed_in t n nodes distinct (inr i) =
    let h = listed_found [] t.children n nodes distinct i in
    record { node = h.node; is = ap (node_below (root_of t)) h.at ∙ h.is; same = h.same }

pub listed_at : (t : Reading) (n : Placed) → IsValid t → IsIn n (nodes_of t) → IsAt t n
listed_at t n valid i = listed_in t n valid.nodes valid.siblings i

pub at_listed : (t : Reading) (p : Path) (c : Node) → node_at t p ≡ Some c → IsIn (record { path = p; properties = c.properties }) (nodes_of t)
at_listed t [] c e = let is : root_of t ≡ c = cc in inl (ap (λ y. record { path = []; properties = y.properties }) (sym is))
at_listed t (x ∷ p) c e = inr (found_listed [] t.children x p c e)

pub stands_listed : (t : Reading) (p : Path) → stands_in t p ≡ true → (n : Placed) × IsIn n (nodes_of t) × (n.path ≡ p)
stands_listed t p h = step (node_at t p) refl
  where
    step : (y : Option Node) → node_at t p ≡ y → (n : Placed) × IsIn n (nodes_of t) × (n.path ≡ p)
    step None e = absurd (true≢false (sym (rw e at h)))
    step (Some c) e = (record { path = p; properties = c.properties }, at_listed t p c e, refl)

pub listed_stands : (t : Reading) (n : Placed) → IsValid t → IsIn n (nodes_of t) → stands_in t n.path ≡ true
listed_stands t n valid i = let h = listed_at t n valid i in ap is_some h.is

pub value_is_listed : (t : Reading) (n : Placed) (name : Name) → IsAt t n → value_in t n.path name ≡ value_of n.properties name
value_is_listed t n name h = ap (option_and_then (λ (c : Node). value_of c.properties name)) h.is ∙ ap (λ ps. value_of ps name) h.same

pub listed_value : (t : Reading) (n : Placed) (name : Name) → IsValid t → IsIn n (nodes_of t) → value_in t n.path name ≡ value_of n.properties name
listed_value t n name valid i = value_is_listed t n name (listed_at t n valid i)

pub value_listed : (t : Reading) (p : Path) (name : Name) (v : List ℕ) → value_in t p name ≡ Some v → (n : Placed) × IsIn n (nodes_of t) × (n.path ≡ p) × (value_of n.properties name ≡ Some v)
value_listed t p name v h = step (node_at t p) refl
  where
    step : (y : Option Node) → node_at t p ≡ y → (n : Placed) × IsIn n (nodes_of t) × (n.path ≡ p) × (value_of n.properties name ≡ Some v)
    step None e = absurd (let z : None ≡ Some v = rw e at h in cc)
    step (Some c) e = (record { path = p; properties = c.properties }, at_listed t p c e, refl, rw e at h)

-- a node that has a property stands
pub value_stands : (t : Reading) (p : Path) (name : Name) (v : List ℕ) → value_in t p name ≡ Some v → stands_in t p ≡ true
value_stands t p name v h = step (node_at t p) refl
  where
    step : (y : Option Node) → node_at t p ≡ y → stands_in t p ≡ true
    step None e = absurd (let z : None ≡ Some v = rw e at h in cc)
    step (Some c) e = rw e refl

-- ---- the properties of a listed node

properties_below : (path : Path) (f : Forest) (n : Placed) → AreNodes f → IsIn n (preorder path f) → AreProperties n.properties
properties_below path no_nodes n ok i = absurd i
properties_below path (branch x properties children siblings) n ok (inl same) = subst (λ (z : Placed). AreProperties z.properties) (sym same) ok.1
properties_below path (branch x properties children siblings) n ok (inr i) =
    elim (in_append n (preorder (path ++ x ∷ []) children) (preorder path siblings) i) [
      | inl k ↦ properties_below (path ++ x ∷ []) children n ok.2 k
      | inr k ↦ properties_below path siblings n ok.4 k
    ]

pub properties_listed : (t : Reading) (n : Placed) → IsValid t → IsIn n (nodes_of t) → AreProperties n.properties
properties_listed t n valid (inl same) = subst (λ (z : Placed). AreProperties z.properties) (sym same) valid.properties
properties_listed t n valid (inr i) = properties_below [] t.children n valid.nodes i

has_name : (ps : List Property) (name : Name) (v : List ℕ) → AllByRecursion (λ p. IsPropertyName p.name) ps → value_of ps name ≡ Some v → IsPropertyName name
has_name [] name v named e = absurd (let z : None ≡ Some v = e in cc)
has_name (p ∷ ps) name v named e = step (has_name ps name v named.1) (bytes_eq name p.name) refl
  where
    step : (value_of ps name ≡ Some v → IsPropertyName name) → (b : Bool) → bytes_eq name p.name ≡ b → IsPropertyName name
    step later true is = subst IsPropertyName (sym (bytes_eq_true name p.name is)) named.0
    step later false is = later (rw is at e)

-- what has a value in a tree is a property's name
pub value_has_name : (t : Reading) (p : Path) (name : Name) (v : List ℕ) → IsValid t → value_in t p name ≡ Some v → IsPropertyName name
value_has_name t p name v valid e = let at = value_listed t p name v e in has_name (at.0).properties name v (properties_listed t at.0 valid at.1).named at.3
