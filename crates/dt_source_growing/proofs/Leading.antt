-- Where the names of a node lead, by the nodes themselves and by the tables that find them.
use Rattle.std.proofs.Common.{◌≡◌, ℕ, ◌<◌, true, false, [], ◌∷◌, Option, Some, length, slice_get, refl, sym, ◌∙◌, ap, subst, arith}
use Rattle.std.specs.Option.{option_and_then, option_map_or}
use Rattle.std.proofs.lemmas.Option.{option_and_then_some, slice_get_within}
use Rattle.dt_model.specs.Event.{Stack}
use Rattle.dt_source_growing.specs.Shape.{node_at}
use Rattle.dt_source_growing.specs.Grown.{name_said, StandsUnder}
use Rattle.dt_source_growing.specs.Growing.{found, nodes_listed, shape, IsSoundGrowing}
use Rattle.dt_source_growing.specs.declared.growing.Node.{Node}
use Rattle.dt_source_growing.specs.declared.growing.Growing.{Growing}
use Rattle.dt_source_growing.proofs.Listings.{found_stands}
use Rattle.dt_source_growing.proofs.Soundness.{IsChild, is_child}
use Rattle.dt_source_growing.proofs.Walks.{root_is, root_there}

-- a node that stands is found as the child of its parent
pub found_there : (g : Growing) → IsSoundGrowing g → (k : ℕ) (n : Node) → slice_get g.nodes.items k ≡ Some n → 0 < k → n.stands ≡ true
    → found (nodes_listed g.nodes.items g.children) n.parent (name_said n.name) ≡ Some k
found_there g h k n at from stands =
    let l = nodes_listed g.nodes.items g.children in
    let owner : l.owner k ≡ n.parent = ap (λ (o : Option Node). option_map_or (λ n. n.parent) o 0) at in
    let named : l.name k ≡ name_said n.name = ap (λ (o : Option Node). option_map_or (λ n. name_said n.name) o []) at in
    let stood : l.stands k ≡ true = ap (λ (o : Option Node). option_map_or (λ n. n.stands) o false) at ∙ stands in
    let last : l.last (l.owner k) (l.name k) ≡ Some k = h.has_nodes.indexed.complete k (omega arith) (slice_get_within g.nodes.items k n at) stood in
    let here : l.last n.parent (name_said n.name) ≡ Some k = rw (owner, named) at last in
    found_stands l n.parent (name_said n.name) k here stood

pub leads_to : (g : Growing) → IsSoundGrowing g → (p : Stack) (k : ℕ) → StandsUnder g.nodes.items p k → node_at (shape g) p ≡ Some k
leads_to g h [] k l = root_there (length g.nodes.items) l.1 ∙ ap Some (sym l.0)
leads_to g h (x ∷ p) k l =
    let above : node_at (shape g) p ≡ Some l.0.parent = leads_to g h p l.0.parent l.5 in
    ap (option_and_then (λ i. (shape g).child i x)) above
    ∙ ap (λ y. found (nodes_listed g.nodes.items g.children) l.0.parent y) (sym l.3) ∙ found_there g h k l.0 l.1 l.2 l.4

pub leads_from : (g : Growing) → IsSoundGrowing g → (p : Stack) (k : ℕ) → node_at (shape g) p ≡ Some k → StandsUnder g.nodes.items p k
leads_from g h [] k e = root_is (length g.nodes.items) k e
leads_from g h (x ∷ p) k e =
    option_and_then_some (λ i. (shape g).child i x) (node_at (shape g) p) k e
    (λ j e1 e2.
    let c : IsChild g.nodes.items j x k = is_child g.nodes.items g.children h.has_nodes j x k e2 in
    let up : StandsUnder g.nodes.items p c.node.parent = leads_from g h p c.node.parent (e1 ∙ ap Some (sym c.parent)) in
    (c.node, c.there, omega (arith, c.below), c.name, c.stands, up))

-- one stack of names leads to one node
pub leads_one : (g : Growing) → IsSoundGrowing g → (p : Stack) (j k : ℕ) → StandsUnder g.nodes.items p j → StandsUnder g.nodes.items p k → j ≡ k
leads_one g h p j k l m = let e : Some j ≡ Some k = sym (leads_to g h p j l) ∙ leads_to g h p k m in cc

pub leads_inside : (g : Growing) → (p : Stack) (k : ℕ) → StandsUnder g.nodes.items p k → k < length g.nodes.items
leads_inside g [] k l = rw l.0 l.1
leads_inside g (x ∷ p) k l = slice_get_within g.nodes.items k l.0 l.1

-- the node above a node that names lead to, and the names that lead there
pub leads_above : (g : Growing) (k : ℕ) (n : Node) → slice_get g.nodes.items k ≡ Some n → (k ≡ 0 → ⊥) → (q : Stack) → StandsUnder g.nodes.items q k
    → (n.stands ≡ true) × ((r : Stack) × StandsUnder g.nodes.items r n.parent)
leads_above g k n at other [] l = absurd (other l.0)
leads_above g k n at other (x ∷ r) l =
    let same : Some l.0 ≡ Some n = sym l.1 ∙ at in
    let ln : l.0 ≡ n = cc in
    (ap (λ (n : Node). n.stands) (sym ln) ∙ l.4, (r, subst (λ (m : Node). StandsUnder g.nodes.items r m.parent) ln l.5))

-- and the names that lead on to it
pub leads_below : (g : Growing) (k : ℕ) (n : Node) → slice_get g.nodes.items k ≡ Some n → 0 < k → n.stands ≡ true → (p : Stack) → StandsUnder g.nodes.items p n.parent
    → StandsUnder g.nodes.items (name_said n.name ∷ p) k
leads_below g k n at from stands p l = (n, at, from, refl, stands, l)
