-- What a meaning determines of addresses and of routes is so in each blob that represents it.
use Rattle.std.specs.Prelude.{◌≡◌, ℕ, List, Some, map, codes}
use Rattle.dt_model.specs.Names.{Name}
use Rattle.dt_model.specs.Path.{Path}
use Rattle.dt_model.specs.Meaning.{Meaning}
use Rattle.dt_model.specs.Tree.{Reading, nodes_of}
use Rattle.dt_model.specs.Represents.{IsOf}
use Rattle.dt_resolve_model.specs.declared.regions.Region.{Region}
use Rattle.dt_resolve_model.specs.Answers.{Answer, answer, Agrees}
use Rattle.dt_resolve_model.specs.World.{Value, World, tree_world, node_written, meaning_world}
use Rattle.dt_resolve_model.specs.Regions.{region, dma_region}
use Rattle.dt_resolve_model.specs.Interrupts.{Route, IsInterruptParent, IsRoute, specifier_count, interrupt_at, IsBeginning}
use Rattle.dt_resolve_model.specs.Specifiers.{provider_count, specifier_route, specifier_at}

-- Whatever the meaning determines of a region, also of one for DMA, or of a route of an interrupt or of any other specifier, an answer or a
-- fault, the tree's is the same. In the list there may be any of the meaning's nodes: the more there are, the more written numbers find
-- theirs. With those of the tree each written number finds its node.
pub record IsResolvedIn (t : Reading) (m : Meaning) : Type 0 where
  pub regions : (nodes : List Path) (p : Path) (index : ℕ) → Agrees (λ (a b : Region). a ≡ b) (region (meaning_world m nodes) p index)
      (region (tree_world t) p index)
  pub dma_regions : (nodes : List Path) (p : Path) (address size : ℕ) → Agrees
      (λ (a b : Region). a ≡ b) (dma_region (meaning_world m nodes) p address size) (dma_region (tree_world t) p address size)
  pub routes : (nodes : List Path) (p : Path) (index : ℕ) (meant told : Answer Route) → IsRoute (meaning_world m nodes) p index meant
      → IsRoute (tree_world t) p index told
      → Agrees (λ (a b : Route). a ≡ b) meant told
  pub specifiers : (nodes : List Path) (p : Path) (property kind : Name) (index : ℕ)
      → Agrees (λ (a b : Route). a ≡ b) (specifier_route (meaning_world m nodes) p property kind index) (specifier_route (tree_world t) p property kind index)
  pub interrupts_at : (nodes : List Path) (p : Path) (at : ℕ) → Agrees
      (λ (a b : Route). a ≡ b) (interrupt_at (meaning_world m nodes) p at) (interrupt_at (tree_world t) p at)
  pub specifiers_at : (nodes : List Path) (p : Path) (property kind : Name) (at : ℕ)
      → Agrees (λ (a b : Route). a ≡ b) (specifier_at (meaning_world m nodes) p property kind at) (specifier_at (tree_world t) p property kind at)
  pub written : (p : Path) (n : ℕ) → m.number p ≡ Some n → node_written m (map (λ x. x.path) (nodes_of t)) n ≡ Some p

-- a tree of a meaning, by whatever numbers, resolves what the meaning determines
abbrev pub MeaningIsResolved : Type 0
MeaningIsResolved = (t : Reading) (m : Meaning) (number : Path → ℕ) → IsOf t m number → IsResolvedIn t m

-- each number that a meaning writes finds its node among the nodes of a tree of it
abbrev pub WrittenNumbersAreFound : Type 0
WrittenNumbersAreFound = (t : Reading) (m : Meaning) (number : Path → ℕ) (p : Path) (n : ℕ) → IsOf t m number → m.number p ≡ Some n
    → node_written m (map (λ x. x.path) (nodes_of t)) n ≡ Some p

-- a node has one interrupt parent
abbrev pub ParentIsOne : Type 0
ParentIsOne = (w : World) (p : Path) (q r : Answer Path) → IsInterruptParent w p q → IsInterruptParent w p r → q ≡ r

-- an index names one route
abbrev pub RouteIsOne : Type 0
RouteIsOne = (w : World) (p : Path) (index : ℕ) (a b : Answer Route) → IsRoute w p index a → IsRoute w p index b → a ≡ b

-- at the byte where the entry of an index begins, an interrupt and a specifier have the routes of that index
pub record EntriesAreAtTheirBytes (w : World) : Type 0 where
  pub interrupts : (p : Path) (v : Value) (index at : ℕ) → w.value p (codes "interrupts-extended") ≡ answer (Some v)
      → IsBeginning w (specifier_count w) v index at → IsRoute w p index (interrupt_at w p at)
  pub specifiers : (p : Path) (property kind : Name) (v : Value) (index at : ℕ) → w.value p property ≡ answer (Some v)
      → IsBeginning w (provider_count w kind) v index at → specifier_at w p property kind at ≡ specifier_route w p property kind index
