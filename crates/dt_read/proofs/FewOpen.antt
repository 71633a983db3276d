-- A walk through a tree within the limits has no more than 65 nodes open at once.
use Rattle.std.proofs.Common.{◌≡◌, ℕ, suc, ◌-◌, List, [], ◌∷◌, ◌++◌, map, sym, subst, append_assoc, arith}
use Rattle.dt_model.specs.Tree.{Property}
use Rattle.dt_model.specs.Valid.{IsNoDeeper, IsWithinLimits}
use Rattle.dt_trees.specs.Placed.{Nodes, no_nodes, node, forest_of, PlacedTree, reading_of}
use Rattle.dt_read.specs.Walked.{Step, holds, closes, steps_of_nodes, steps_of}
use Rattle.dt_read.proofs.Opened.{AreFew}

few_properties : (count : ℕ) (ps : List Property) (rest : List Step) → AreFew count rest → AreFew count (map holds ps ++ rest)
few_properties count [] rest s = s
few_properties count (p ∷ ps) rest s = few_properties count ps rest s

few_behind : (count : ℕ) (rest : List Step) → AreFew count rest → AreFew (suc count) (closes ∷ rest)
few_behind count rest s = let same : count ≡ suc count - 1 = omega arith in subst (λ (n : ℕ). AreFew n rest) same s

few_nodes : (nodes : Nodes) (count : ℕ) (rest : List Step) → IsNoDeeper 64 count (forest_of nodes) → AreFew count rest → AreFew count (steps_of_nodes nodes ++ rest)
few_nodes no_nodes count rest d s = s
few_nodes (node place name ps children siblings) count rest d s =
    let after = few_behind count (steps_of_nodes siblings ++ rest) (few_nodes siblings count rest d.2 s) in
    let more : IsNoDeeper 64 (suc count) (forest_of children) = subst (λ (n : ℕ). IsNoDeeper 64 n (forest_of children)) (omega arith) d.1 in
    let inside = few_nodes children (suc count) (closes ∷ (steps_of_nodes siblings ++ rest)) more after in
    let regroup : (map holds ps ++ (steps_of_nodes children ++ closes ∷ steps_of_nodes siblings)) ++ rest
    ≡ map holds ps ++ (steps_of_nodes children ++ closes ∷ (steps_of_nodes siblings ++ rest)) = simp append_assoc in
    let room = d.0 in
    (omega arith, subst (AreFew (suc count)) (sym regroup) (few_properties (suc count) ps _ inside))

pub few_open : (t : PlacedTree) → IsWithinLimits (reading_of t) → AreFew 0 (steps_of t)
few_open t within = (omega arith, few_properties 1 t.properties _ (few_nodes t.children 1 (closes ∷ []) within.depth tt))
