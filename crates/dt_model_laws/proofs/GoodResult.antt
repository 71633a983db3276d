-- The names of a result are names, and differ among siblings and among a node's properties.
use Rattle.std.proofs.Common.{◌≡◌, ℕ, ◌==◌, ◌||◌, List, [], ◌∷◌, codes, IsTrue, refl, Option, Some, None, arith}
use Rattle.std.specs.Prelude.{option_and_then}
use Rattle.std.specs.List.{AllByRecursion}
use Rattle.std.proofs.lemmas.List.Elements.{All-from_recursion}
use Rattle.dt_model.specs.Names.{Name, IsNodeName, IsPropertyName, is_name_byte}
use Rattle.dt_model.specs.Path.{Path}
use Rattle.dt_model.specs.Overlay.{content}
use Rattle.dt_model.specs.Merged.{Site, landing}
use Rattle.dt_model.specs.Object.{Cell, properties_of}
use Rattle.dt_model.specs.Tree.{Property, Reading, Node, root_of, node_at, nodes_of}
use Rattle.dt_model.specs.Valid.{IsValid, AreProperties}
use Rattle.dt_model.specs.Changes.{merged_node, changed_at}
use Rattle.dt_model.specs.Applied.{Write, writes, brought, with_fragments, node_named, landed_symbol, landed_symbols, with_symbols_merged, applied_at}
use Rattle.dt_model_laws.proofs.KeptNames.{IsGoodNode, merged_node_good, changed_good, written_good, good_below}
use Rattle.dt_model_laws.proofs.Symbols.{symbols_node, landed_distinct}

pub good_root : (t : Reading) → IsValid t → IsGoodNode (root_of t)
good_root t valid = record { properties = valid.properties; children = record { nodes = valid.nodes; distinct = valid.siblings } }

module _ (object : Reading) (valid : IsValid object) (ws : List Write) (numbers : List (Path × ℕ)) where
  brought_good : (f : Name) → IsGoodNode (brought ws numbers f (node_at object (content f)))
  brought_good f = step (node_at object (content f)) refl
    where
      step : (y : Option Node) → node_at object (content f) ≡ y → IsGoodNode (brought ws numbers f y)
      step None e = record { properties = record { named = tt; distinct = tt }; children = record { nodes = tt; distinct = tt } }
      step (Some n) e = written_good ws numbers (content f) n (good_below (content f) (root_of object) n (good_root object valid) e)

  fragments_good : (sites : List Site) (t : Reading) → IsGoodNode (root_of t) → IsGoodNode (root_of (with_fragments t object ws numbers sites))
  fragments_good [] t h = h
  fragments_good (x ∷ sites) t h =
      fragments_good sites (changed_at (λ n. merged_node n (brought ws numbers x.fragment (node_at object (content x.fragment)))) x.at t)
      (changed_good (λ n. merged_node n (brought ws numbers x.fragment (node_at object (content x.fragment)))) (λ n k. merged_node_good n (brought ws numbers x.fragment (node_at object (content x.fragment))) k (brought_good x.fragment)) x.at (root_of t) h)

landed_named : (object : Reading) (sites : List Site) (ps : List Property) → AllByRecursion (λ p. IsPropertyName p.name) ps → AllByRecursion (λ p. IsPropertyName p.name) (landed_symbols object sites ps)
landed_named object sites [] h = tt
landed_named object sites (p ∷ ps) h = step (landed_named object sites ps h.1) (option_and_then (landing sites) (node_named (nodes_of object) p.value))
  where
    step : AllByRecursion (λ p. IsPropertyName p.name) (landed_symbols object sites ps) → (y : Option Path) → AllByRecursion (λ p. IsPropertyName p.name) (landed_symbol p.name y (landed_symbols object sites ps))
    step more None = more
    step more (Some q) = (h.0, more)

symbols_named : IsNodeName (codes "__symbols__")
symbols_named = record {
  not_empty = omega arith;
  short = omega arith;
  allowed = All-from_recursion (λ b. IsTrue (is_name_byte b || (b == 64))) (codes "__symbols__") (refl, (refl, (refl, (refl, (refl, (refl, (refl, (refl, (refl, (refl, (refl, tt)))))))))));
  one_at = omega arith;
  not_first = λ e. (let z : 95 ≡ 64 = e in omega arith);
}

symbols_good : (ps : List Property) → AreProperties ps → IsGoodNode (symbols_node ps)
symbols_good ps h = record {
  properties = record { named = tt; distinct = tt };
  children = record { nodes = (symbols_named, h, tt, tt, tt); distinct = (tt, tt) };
}

with_symbols_merged_good : (ps : List Property) (t : Reading) → AreProperties ps → IsGoodNode (root_of t) → IsGoodNode (root_of (with_symbols_merged ps t))
with_symbols_merged_good [] t h k = k
with_symbols_merged_good (p ∷ ps) t h k = merged_node_good (root_of t) (symbols_node (p ∷ ps)) k (symbols_good (p ∷ ps) h)

pub result_good : (base object : Reading) (fixups : List (Name × Cell)) (numbers : List (Path × ℕ)) (sites : List Site) → IsValid base → IsValid object → IsGoodNode (root_of (applied_at base object fixups numbers sites))
result_good base object fixups numbers sites valid_base valid =
    with_symbols_merged_good (landed_symbols object sites listed) (with_fragments base object (writes base object fixups numbers) numbers sites)
    (record { named = landed_named object sites listed are.named; distinct = landed_distinct object sites listed are.distinct })
    (fragments_good object valid (writes base object fixups numbers) numbers sites base (good_root base valid_base))
  where
    listed : List Property
    listed = properties_of (node_at object (codes "__symbols__" ∷ []))

    are : AreProperties listed
    are = step (node_at object (codes "__symbols__" ∷ [])) refl
      where
        step : (y : Option Node) → node_at object (codes "__symbols__" ∷ []) ≡ y → AreProperties (properties_of y)
        step None e = record { named = tt; distinct = tt }
        step (Some n) e = (good_below (codes "__symbols__" ∷ []) (root_of object) n (good_root object valid) e).properties
