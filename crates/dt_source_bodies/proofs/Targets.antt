-- The nodes to which blocks and deletions refer.
use Rattle.std.proofs.Common.{◌≡◌, ℕ, ◌<◌, true, false, [], ◌∷◌, Option, Some, Err, length, refl, sym, ◌∙◌, ap, arith}
use Rattle.std.specs.Option.{option_map_or}
use Rattle.dt_model.specs.Names.{Name}
use Rattle.dt_model.specs.Event.{Stack}
use Rattle.dt_model.specs.Source.{Mode, SoFar, Reference, read, block, delete_node, misplaced}
use Rattle.dt_source_growing.specs.Shape.{node_at}
use Rattle.dt_source_growing.specs.Grown.{name_said, StandsUnder, IsGrown}
use Rattle.dt_source_growing.specs.Growing.{nodes_listed, shape, IsSoundGrowing}
use Rattle.dt_source_growing.specs.declared.growing.Node.{Node}
use Rattle.dt_source_growing.specs.declared.growing.Growing.{Growing}
use Rattle.dt_source_bodies.specs.Reading.{Holds, IsWhole}
use Rattle.dt_source_bodies.specs.declared.reading.Reading.{Reading}
use Rattle.dt_source_bodies.proofs.Bodies.{some_open, outside-refused}
use Rattle.dt_source_growing.proofs.Grows.{grown}
use Rattle.dt_source_growing.proofs.Leading.{leads_to}

pub grown_so_far : (r : Reading) (n : ℕ) (u : SoFar) → IsWhole r → Holds r n u → IsGrown r.growing.nodes.items r.growing.properties.items r.growing.givings.items u.events
grown_so_far r n u w h = grown r.growing r.growing.sound u.events h.shows h.shallow

-- in a body there is no place for a block
pub misplaced_block : (r : Reading) (n : ℕ) (u : SoFar) → Holds r n u → 0 < length r.bodies.items → (m : Mode) (f : Reference) → read m u (block f) ≡ Err misplaced
misplaced_block r n u h some m f =
    let b = some_open (shape r.growing) (shape r.growing).size n u.node r.bodies.items u.bodies h.open_bodies some in
    outside-refused u.bodies _ b.0 b.1 b.2

pub misplaced_delete : (r : Reading) (n : ℕ) (u : SoFar) → Holds r n u → 0 < length r.bodies.items → (m : Mode) (f : Reference) → read m u (delete_node f) ≡ Err misplaced
misplaced_delete r n u h some m f =
    let b = some_open (shape r.growing) (shape r.growing).size n u.node r.bodies.items u.bodies h.open_bodies some in
    outside-refused u.bodies _ b.0 b.1 b.2

-- the node of no names is the root
pub root_names : (g : Growing) (p : Stack) (k : ℕ) → StandsUnder g.nodes.items p k → k ≡ 0 → p ≡ []
root_names g [] k l e = refl
root_names g (x ∷ p) k l e = absurd (omega (arith, l.2, e))

-- the parent and the name of a node that stands
pub record Standing (g : Growing) (p : Stack) (k : ℕ) : Type 0 where
  pub name : Name
  pub rest : Stack
  pub is : p ≡ name ∷ rest
  pub parent : node_at (shape g) rest ≡ Some ((nodes_listed g.nodes.items g.children).owner k)
  pub named : (nodes_listed g.nodes.items g.children).name k ≡ name
  pub stands : (nodes_listed g.nodes.items g.children).stands k ≡ true

pub standing : (g : Growing) → IsSoundGrowing g → (p : Stack) (k : ℕ) → StandsUnder g.nodes.items p k → (k ≡ 0 → ⊥) → Standing g p k
standing g h [] k l other = absurd (other l.0)
standing g h (x ∷ p) k l other = record {
  name = x;
  rest = p;
  is = refl;
  parent = leads_to g h p l.0.parent l.5 ∙ ap Some (sym (ap (λ (o : Option Node). option_map_or (λ n. n.parent) o 0) l.1));
  named = ap (λ (o : Option Node). option_map_or (λ n. name_said n.name) o []) l.1 ∙ l.3;
  stands = ap (λ (o : Option Node). option_map_or (λ n. n.stands) o false) l.1 ∙ l.4;
}
