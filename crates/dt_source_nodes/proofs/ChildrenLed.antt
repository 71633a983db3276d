-- How names lead to nodes: one list of names for each node, and each node above one is led to.
use Rattle.std.proofs.Common.{◌≡◌, ℕ, zero, suc, ◌<◌, true, false, Bool, cond, List, [], ◌∷◌, ◌++◌, length, Option, None, Some, option_map, slice_get, refl, sym, ap, subst, ◌∙◌, arith}
use Rattle.std.specs.Option.{option_map_or}
use Rattle.std.proofs.lemmas.Option.{slice_get-map, slice_get_within}
use Rattle.dt_model.specs.Names.{Name}
use Rattle.dt_model.specs.Event.{Stack}
use Rattle.dt_model.specs.Lists.{IsIn}
use Rattle.dt_model.proofs.Cases.{map_some}
use Rattle.dt_source_growing.specs.declared.growing.Node.{Node}
use Rattle.dt_source_growing.specs.Grown.{name_said, StandsUnder}
use Rattle.dt_source_nodes.specs.Owned.{AreOwned, AreRising}
use Rattle.dt_source_nodes.specs.Listing.{parent_of, parents_of, name_of}

-- ---- names

same_node : (nodes : List Node) (k : ℕ) (n m : Node) → slice_get nodes k ≡ Some n → slice_get nodes k ≡ Some m → n ≡ m
same_node nodes k n m a b = cc

-- one list of names leads to a node
pub leads_once : (nodes : List Node) (p q : Stack) (k : ℕ) → StandsUnder nodes p k → StandsUnder nodes q k → p ≡ q
leads_once nodes [] [] k a b = refl
leads_once nodes [] (y ∷ q) k a b = let root : k ≡ 0 = a.0 in let above : 0 < k = b.2 in absurd (omega arith)
leads_once nodes (x ∷ p) [] k a b = let root : k ≡ 0 = b.0 in let above : 0 < k = a.2 in absurd (omega arith)
leads_once nodes (x ∷ p) (y ∷ q) k a b =
    let same : b.0 ≡ a.0 = same_node nodes k b.0 a.0 b.1 a.1 in
    let other : StandsUnder nodes q a.0.parent = subst (λ (n : Node). StandsUnder nodes q n.parent) same b.5 in
    let rest : p ≡ q = leads_once nodes p q a.0.parent a.5 other in
    let name : x ≡ y = sym a.3 ∙ (ap (λ (n : Node). name_said n.name) (sym same) ∙ b.3) in
    λ i. name i ∷ rest i

-- names lead to each node above one
pub leads_up : (nodes : List Node) (p q : Stack) (k : ℕ) → StandsUnder nodes (p ++ q) k → (j : ℕ) × StandsUnder nodes q j
leads_up nodes [] q k h = (k, h)
leads_up nodes (x ∷ p) q k h = leads_up nodes p q h.0.parent h.5

-- there is a root
pub leads_root : (nodes : List Node) (p : Stack) (k : ℕ) → StandsUnder nodes p k → 0 < length nodes
leads_root nodes [] k h = h.1
leads_root nodes (x ∷ p) k h = leads_root nodes p h.0.parent h.5

pub leads_within : (nodes : List Node) (p : Stack) (k : ℕ) → StandsUnder nodes p k → k < length nodes
leads_within nodes [] k h = let root : k ≡ 0 = h.0 in let some : 0 < length nodes = h.1 in omega arith
leads_within nodes (x ∷ p) k h = slice_get_within nodes k h.0 h.1

-- ---- children

-- node c is a child of node k that wasn't deleted
pub record IsChild (nodes : List Node) (k c : ℕ) : Type 0 where
  pub node : Node
  pub there : slice_get nodes c ≡ Some node
  pub below : 0 < c
  pub stands : node.stands ≡ true
  pub parent : node.parent ≡ k

-- Each node has exactly its children, in the order of their places.
pub record AreChildren (nodes : List Node) (children : ℕ → List ℕ) : Type 0 where
  pub sound : (k c : ℕ) → IsIn c (children k) → IsChild nodes k c
  pub complete : (k c : ℕ) → k < length nodes → IsChild nodes k c → IsIn c (children k)
  pub rising : (k : ℕ) → AreRising (children k)

parent_some : (n : Node) (k : ℕ) → parent_of n ≡ Some k → (n.stands ≡ true) × (n.parent ≡ k)
parent_some n k h = step n.stands refl h
  where
    step : (b : Bool) → n.stands ≡ b → cond b (Some n.parent) None ≡ Some k → (n.stands ≡ true) × (n.parent ≡ k)
    step true e f = (e, cc)
    step false e f = cc

child_from : (nodes : List Node) (k c : ℕ) → slice_get (parents_of nodes) c ≡ Some (Some k) → IsChild nodes k c
child_from [] k c h = cc
child_from (root ∷ ns) k zero h = cc
child_from (root ∷ ns) k (suc c) h =
    let found = map_some parent_of (slice_get ns c) (Some k) (sym (slice_get-map parent_of ns c) ∙ h) in
    let parent = parent_some found.0 k found.2 in
    record { node = found.0; there = found.1; below = omega arith; stands = parent.0; parent = parent.1 }

from_child : (nodes : List Node) (k c : ℕ) → IsChild nodes k c → slice_get (parents_of nodes) c ≡ Some (Some k)
from_child [] k c h = let t = h.there in cc
from_child (root ∷ ns) k zero h = let b = h.below in absurd (omega arith)
from_child (root ∷ ns) k (suc c) h =
    let parent : parent_of h.node ≡ Some k = ap (λ (b : Bool). cond b (Some h.node.parent) None) h.stands ∙ ap (λ (j : ℕ). Some j) h.parent in
    slice_get-map parent_of ns c ∙ (ap (option_map parent_of) h.there ∙ ap (λ (o : Option ℕ). Some o) parent)

pub are_children : (nodes : List Node) (children : ℕ → List ℕ) → AreOwned (parents_of nodes) (length nodes) children → AreChildren nodes children
are_children nodes children owned = record {
  sound = λ k c h. child_from nodes k c (owned.sound k c h);
  complete = λ k c near h. owned.complete k c near (from_child nodes k c h);
  rising = owned.rising;
}

-- names lead to a child
pub leads_child : (nodes : List Node) (p : Stack) (k c : ℕ) → StandsUnder nodes p k → IsChild nodes k c → StandsUnder nodes (name_of nodes c ∷ p) c
leads_child nodes p k zero h child = let b = child.below in absurd (omega arith)
leads_child nodes p k (suc c) h child =
    let named : name_said child.node.name ≡ name_of nodes (suc c) = sym (ap (λ (o : Option Node). option_map_or (λ (n : Node). name_said n.name) o []) child.there) in
    (child.node, child.there, child.below, named, child.stands, subst (StandsUnder nodes p) (sym child.parent) h)

-- what names lead to is a child of what is above it, and has its name
pub child_led : (nodes : List Node) (x : Name) (p : Stack) (k c : ℕ) → ((j : ℕ) → StandsUnder nodes p j → j ≡ k) → StandsUnder nodes (x ∷ p) c →
    IsChild nodes k c × (name_of nodes c ≡ x)
child_led nodes x p k zero one h = let above : 0 < 0 = h.2 in absurd (omega arith)
child_led nodes x p k (suc c) one h = (
  record { node = h.0; there = h.1; below = h.2; stands = h.4; parent = one h.0.parent h.5 },
  ap (λ (o : Option Node). option_map_or (λ (n : Node). name_said n.name) o []) h.1 ∙ h.3,
)
