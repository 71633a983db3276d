-- A node that is left out where it is empty: what look-ups find, and that a blob may hold it.
use Rattle.std.proofs.Common.{◌≡◌, ◌≢◌, ℕ, Bool, true, false, List, [], ◌∷◌, ◌++◌, ◌⊎◌, codes, refl, sym, ap, ◌∙◌, inl, inr, Option, Some, None}
use Rattle.std.specs.Prelude.{option_and_then}
use Rattle.std.specs.List.{AllByRecursion, flat_map}
use Rattle.std.specs.Option.{option_to_list}
use Rattle.std.specs.Str.{bytes_eq}
use Rattle.dt_model.specs.Names.{Name, IsNodeName}
use Rattle.dt_model.specs.Path.{Path}
use Rattle.dt_model.specs.Object.{cells_of, properties_of, nodes_from}
use Rattle.dt_model.specs.Fixups.{unless_empty}
use Rattle.dt_model.specs.Tree.{Property, Forest, no_nodes, branch, Node, sibling, node_below, value_of, preorder}
use Rattle.dt_model.specs.Valid.{AreDistinct, AreProperties, AreNodes, names, phandles}
use Rattle.dt_model.proofs.Tests.{bytes_eq_refl}

abbrev pub node_of : List Property → Forest → Node
node_of ps children = record { properties = ps; children = children }

-- what is found is this node, or nothing where the node is empty
abbrev pub IsUnlessEmpty : List Property → Forest → Option Node → Type 0
IsUnlessEmpty ps children o = (o ≡ Some (node_of ps children)) ⊎ ((o ≡ None) × (ps ≡ []) × (children ≡ no_nodes))

-- ---- look-ups

pub found_here : (name : Name) (ps : List Property) (children siblings : Forest) → sibling siblings name ≡ None → IsUnlessEmpty ps children (sibling (unless_empty name ps children siblings) name)
found_here name [] no_nodes siblings none = inr (none, refl, refl)
found_here name [] (branch x properties inner others) siblings none = inl (rw (bytes_eq_refl name) refl)
found_here name (p ∷ ps) children siblings none = inl (rw (bytes_eq_refl name) refl)

pub found_other : (name : Name) (ps : List Property) (children siblings : Forest) (x : Name) → bytes_eq x name ≡ false → sibling (unless_empty name ps children siblings) x ≡ sibling siblings x
found_other name [] no_nodes siblings x e = refl
found_other name [] (branch y properties inner others) siblings x e = rw e refl
found_other name (p ∷ ps) children siblings x e = rw e refl

found_first : (name : Name) (ps : List Property) (children siblings : Forest) (x : Name) (m : Node) → sibling (branch name ps children siblings) x ≡ Some m
    → ((bytes_eq x name ≡ true) × (m ≡ node_of ps children)) ⊎ (sibling siblings x ≡ Some m)
found_first name ps children siblings x m h = step (bytes_eq x name) refl
  where
    step : (b : Bool) → bytes_eq x name ≡ b → ((bytes_eq x name ≡ true) × (m ≡ node_of ps children)) ⊎ (sibling siblings x ≡ Some m)
    step true e = let z : Some (node_of ps children) ≡ Some m = rw e at h in inl (e, cc)
    step false e = inr (rw e at h)

pub found_either : (name : Name) (ps : List Property) (children siblings : Forest) (x : Name) (m : Node) → sibling (unless_empty name ps children siblings) x ≡ Some m
    → ((bytes_eq x name ≡ true) × (m ≡ node_of ps children)) ⊎ (sibling siblings x ≡ Some m)
found_either name [] no_nodes siblings x m h = inr h
found_either name [] (branch y properties inner others) siblings x m h = found_first name [] (branch y properties inner others) siblings x m h
found_either name (p ∷ ps) children siblings x m h = found_first name (p ∷ ps) children siblings x m h

module _ (ps : List Property) (children : Forest) (o : Option Node) where
  pub properties_there : IsUnlessEmpty ps children o → properties_of o ≡ ps
  properties_there (inl h) = ap properties_of h
  properties_there (inr h) = ap properties_of h.0 ∙ sym h.1

  pub value_there : IsUnlessEmpty ps children o → (x : Name) → option_and_then (λ (n : Node). value_of n.properties x) o ≡ value_of ps x
  value_there (inl h) x = ap (option_and_then (λ (n : Node). value_of n.properties x)) h
  value_there (inr h) x = ap (option_and_then (λ (n : Node). value_of n.properties x)) h.0 ∙ sym (ap (λ qs. value_of qs x) h.1)

  pub below_there : IsUnlessEmpty ps children o → (p : Path) (m : Node) → option_and_then (λ n. node_below n p) o ≡ Some m → node_below (node_of ps children) p ≡ Some m
  below_there (inl h) p m e = sym (ap (option_and_then (λ n. node_below n p)) h) ∙ e
  below_there (inr h) p m e = absurd (let z : None ≡ Some m = sym (ap (option_and_then (λ n. node_below n p)) h.0) ∙ e in cc)

  pub cells_there : IsUnlessEmpty ps children o → flat_map cells_of (nodes_from o) ≡ cells_of (record { path = []; properties = ps }) ++ flat_map cells_of (preorder [] children)
  cells_there (inl h) = ap (λ o. flat_map cells_of (nodes_from o)) h
  cells_there (inr h) = ap (λ o. flat_map cells_of (nodes_from o)) h.0 ∙ sym (λ i. cells_of (record { path = []; properties = h.1 i }) ++ flat_map cells_of (preorder [] (h.2 i)))

-- the node itself, by its path
pub node_found : (ps : List Property) (children : Forest) (o : Option Node) → IsUnlessEmpty ps children o → IsUnlessEmpty ps children (option_and_then (λ n. node_below n []) o)
node_found ps children o (inl h) = inl (ap (option_and_then (λ n. node_below n [])) h)
node_found ps children o (inr h) = inr (ap (option_and_then (λ n. node_below n [])) h.0, h.1, h.2)

-- ---- a blob may hold it

pub nodes_unless_empty : (name : Name) (ps : List Property) (children siblings : Forest) → IsNodeName name → AreProperties ps → AreNodes children → AreDistinct (names children) → AreNodes siblings
    → AreNodes (unless_empty name ps children siblings)
nodes_unless_empty name [] no_nodes siblings named are inner distinct more = more
nodes_unless_empty name [] (branch x properties below others) siblings named are inner distinct more = (named, are, inner, distinct, more)
nodes_unless_empty name (p ∷ ps) children siblings named are inner distinct more = (named, are, inner, distinct, more)

pub each_name : (P : Name → Type 0) (name : Name) (ps : List Property) (children siblings : Forest) → P name → AllByRecursion P (names siblings) → AllByRecursion P (names (unless_empty name ps children siblings))
each_name P name [] no_nodes siblings h more = more
each_name P name [] (branch x properties below others) siblings h more = (h, more)
each_name P name (p ∷ ps) children siblings h more = (h, more)

pub distinct_unless_empty : (name : Name) (ps : List Property) (children siblings : Forest) → AllByRecursion (λ y. y ≢ name) (names siblings) → AreDistinct (names siblings)
    → AreDistinct (names (unless_empty name ps children siblings))
distinct_unless_empty name [] no_nodes siblings h more = more
distinct_unless_empty name [] (branch x properties below others) siblings h more = (h, more)
distinct_unless_empty name (p ∷ ps) children siblings h more = (h, more)

-- a node with these has no phandle
phandles_of : List Property → Forest → Forest → List (List ℕ)
phandles_of ps children siblings = option_to_list (value_of ps (codes "phandle")) ++ phandles children ++ phandles siblings

none_here : (ps : List Property) (children siblings : Forest) → value_of ps (codes "phandle") ≡ None → phandles children ≡ [] → phandles siblings ≡ [] → phandles_of ps children siblings ≡ []
unfolding phandles_of
none_here ps children siblings none inner more = λ i. option_to_list (none i) ++ inner i ++ more i

pub phandles_unless_empty : (name : Name) (ps : List Property) (children siblings : Forest) → value_of ps (codes "phandle") ≡ None → phandles children ≡ [] → phandles siblings ≡ []
    → phandles (unless_empty name ps children siblings) ≡ []
unfolding phandles_of
phandles_unless_empty name [] no_nodes siblings none inner more = more
phandles_unless_empty name [] (branch x properties below others) siblings none inner more = none_here [] (branch x properties below others) siblings none inner more
phandles_unless_empty name (p ∷ ps) children siblings none inner more = none_here (p ∷ ps) children siblings none inner more
