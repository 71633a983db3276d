-- No more than 65 nodes of a checked tree are open at once.
use Rattle.std.proofs.lemmas.Bool.{false≢true}
use Rattle.std.proofs.Common.{◌≡◌, ℕ, suc, ◌-◌, List, [], ◌∷◌, ◌++◌, map, sym, subst, append_assoc, arith}
use Rattle.dt_model.specs.Tree.{Property}
use Rattle.dt_model.specs.Valid.{IsNoDeeper}
use Rattle.dt_trees.specs.Placed.{Nodes, no_nodes, node, forest_of}
use Rattle.dt_read.specs.Marks.{Mark, begin_mark, end_mark, prop_mark, nop_mark, last_mark, Root, marks_of_nodes, marks_of}
use Rattle.dt_read.specs.Keys.{AreShallow, AreShallowFor}
use Rattle.dt_read.specs.declared.keys.Wanted.{Wanted}
use Rattle.dt_read.specs.declared.keys.Wanted.TheVariants.{Own}

shallow_properties : (count : ℕ) (properties : List Property) (rest : List Mark) → AreShallow count rest → AreShallow count (map prop_mark properties ++ rest)
shallow_properties count [] rest s = s
shallow_properties count (p ∷ properties) rest s = shallow_properties count properties rest s

-- a node's end closes what its beginning opened
shallow_behind : (count : ℕ) (rest : List Mark) → AreShallow count rest → AreShallow (suc count) (end_mark ∷ rest)
shallow_behind count rest s = let same : count ≡ suc count - 1 = omega arith in subst (λ (n : ℕ). AreShallow n rest) same s

shallow_nodes : (nodes : Nodes) (count : ℕ) (rest : List Mark) → IsNoDeeper 64 count (forest_of nodes) → AreShallow count rest → AreShallow count (marks_of_nodes nodes ++ rest)
shallow_nodes no_nodes count rest d s = s
shallow_nodes (node place name properties children siblings) count rest d s =
    let after = shallow_behind count (marks_of_nodes siblings ++ rest) (shallow_nodes siblings count rest d.2 s) in
    let more : IsNoDeeper 64 (suc count) (forest_of children) = subst (λ (n : ℕ). IsNoDeeper 64 n (forest_of children)) (omega arith) d.1 in
    let inside = shallow_nodes children (suc count) (end_mark ∷ (marks_of_nodes siblings ++ rest)) more after in
    let regroup : (map prop_mark properties ++ (marks_of_nodes children ++ end_mark ∷ marks_of_nodes siblings)) ++ rest
    ≡ map prop_mark properties ++ (marks_of_nodes children ++ end_mark ∷ (marks_of_nodes siblings ++ rest)) = simp append_assoc in
    let room = d.0 in
    (omega arith, subst (AreShallow (suc count)) (sym regroup) (shallow_properties (suc count) properties _ inside))

pub shallow_tree : (tree : Root) → IsNoDeeper 64 1 (forest_of tree.children) → AreShallow 0 (marks_of tree ++ last_mark ∷ [])
shallow_tree tree d =
    let inside = shallow_nodes tree.children 1 (end_mark ∷ (last_mark ∷ [])) d tt in
    let regroup : (map prop_mark tree.properties ++ (marks_of_nodes tree.children ++ end_mark ∷ [])) ++ last_mark ∷ []
    ≡ map prop_mark tree.properties ++ (marks_of_nodes tree.children ++ end_mark ∷ (last_mark ∷ [])) = simp append_assoc in
    (omega arith, subst (AreShallow 1) (sym regroup) (shallow_properties 1 tree.properties _ inside))

-- the same of the tokens from which keys come
pub shallow_for : (wanted : Wanted) (count : ℕ) (marks : List Mark) → AreShallow count marks → AreShallowFor wanted count marks
shallow_for wanted count [] s = tt
shallow_for wanted count (begin_mark place name ∷ marks) s = λ e. (s.0, shallow_for wanted (suc count) marks s.1)
shallow_for wanted count (end_mark ∷ marks) s = λ e. shallow_for wanted (count - 1) marks s
shallow_for wanted count (prop_mark p ∷ marks) s = shallow_for wanted count marks s
shallow_for wanted count (nop_mark ∷ marks) s = shallow_for wanted count marks s
shallow_for wanted count (last_mark ∷ marks) s = λ e. shallow_for wanted count marks s

-- a node's own keys end before another node is opened
pub shallow_own : (count : ℕ) (marks : List Mark) → AreShallowFor Own count marks
shallow_own count [] = tt
shallow_own count (begin_mark place name ∷ marks) = λ e. absurd (false≢true (sym e))
shallow_own count (end_mark ∷ marks) = λ e. absurd (false≢true (sym e))
shallow_own count (prop_mark p ∷ marks) = shallow_own count marks
shallow_own count (nop_mark ∷ marks) = shallow_own count marks
shallow_own count (last_mark ∷ marks) = λ e. absurd (false≢true (sym e))
