-- A walk through a mirror may go on to its end, and the words of a list are taken one by one.
use Rattle.std.proofs.Common.{◌≡◌, ℕ, suc, ◌+◌, ◌≤◌, nat_le, Bool, true, false, List, [], ◌∷◌, ◌++◌, length, drop, map, Some, None, refl, sym, ap, subst, arith, append_assoc}
use Rattle.std.specs.Int.{w32, from_be_bytes}
use Rattle.std.specs.Str.{bytes_eq}
use Rattle.std.proofs.lemmas.Bool.{le-leb}
use Rattle.std.proofs.lemmas.Option.{same_Some}
use Rattle.dt_model.specs.Format.{word_at}
use Rattle.dt_model.specs.Limits.{most_names}
use Rattle.dt_model.specs.Names.{Name}
use Rattle.dt_model.specs.Object.{words_of}
use Rattle.dt_model.specs.Tree.{Property, Forest, no_nodes, branch, Node, sibling, node_below}
use Rattle.dt_model.specs.Valid.{IsNoDeeper, IsWithinLimits}
use Rattle.dt_model.proofs.Cases.{then_some}
use Rattle.dt_trees.specs.Placed.{Nodes, node, forest_of, PlacedTree, reading_of, IsAt}
use Rattle.dt_trees.specs.Placed as placed
use Rattle.dt_read.specs.Walked.{Step, holds, closes, steps_of_nodes, WalkIn}
use Rattle.dt_marks_read.specs.LocalFixupsLeft.{IsShallow, MayWalk}

-- ---- depths

-- the children of a sibling are one deeper
one_deeper : (fs : Forest) (depth : ℕ) (x : Name) (n : Node) → IsNoDeeper most_names depth fs → sibling fs x ≡ Some n → IsNoDeeper most_names (depth + 1) n.children
one_deeper no_nodes depth x n d e = absurd cc
one_deeper (branch name properties children siblings) depth x n d e = step (one_deeper siblings depth x n d.2) (bytes_eq x name) refl
  where
    own : Node
    own = record { properties = properties; children = children }

    step : (sibling siblings x ≡ Some n → IsNoDeeper most_names (depth + 1) n.children) → (b : Bool) → bytes_eq x name ≡ b → IsNoDeeper most_names (depth + 1) n.children
    step more true is =
        let z : Some own ≡ Some n = rw is at e in
        subst (λ (m : Node). IsNoDeeper most_names (depth + 1) m.children) (same_Some own n z) d.1
    step more false is = more (let z : sibling siblings x ≡ Some n = rw is at e in z)

shallow_properties : (xs : List Property) (count : ℕ) (rest : List Step) → IsShallow (suc count) rest → IsShallow (suc count) (map holds xs ++ rest)
shallow_properties [] count rest s = s
shallow_properties (x ∷ xs) count rest s = shallow_properties xs count rest s

shallow_nodes : (nodes : Nodes) (count depth : ℕ) → suc count ≤ depth → IsNoDeeper most_names depth (forest_of nodes) → (rest : List Step) → IsShallow (suc count) rest → IsShallow (suc count) (steps_of_nodes nodes ++ rest)
shallow_nodes placed.no_nodes count depth less d rest s = s
shallow_nodes (node place name properties children siblings) count depth less d rest s =
    let after = shallow_nodes siblings count depth less d.2 rest s in
    let inside = shallow_nodes children (suc count) (depth + 1) (omega (arith, less)) d.1 (closes ∷ (steps_of_nodes siblings ++ rest)) after in
    let regroup : (map holds properties ++ (steps_of_nodes children ++ closes ∷ steps_of_nodes siblings)) ++ rest
    ≡ map holds properties ++ (steps_of_nodes children ++ closes ∷ (steps_of_nodes siblings ++ rest)) = simp append_assoc in
    let room = d.0 in
    (omega (arith, less, room), subst (IsShallow (suc (suc count))) (sym regroup) (shallow_properties properties (suc count) (steps_of_nodes children ++ closes ∷ (steps_of_nodes siblings ++ rest)) inside))

-- a walk through a child of the root
pub walk_shallow : (t : PlacedTree) (x : Name) (steps : List Step) → IsWithinLimits (reading_of t) → WalkIn t (x ∷ []) steps → IsShallow 1 steps
walk_shallow t x steps within w =
    let there : Node = record { properties = w.properties; children = forest_of w.children } in
    let c = then_some (λ (m : Node). node_below m []) (sibling (reading_of t).children x) there w.there in
    let deep = one_deeper (reading_of t).children 1 x c.0 within.depth c.1 in
    let is : c.0 ≡ there = same_Some c.0 there c.2 in
    let children : IsNoDeeper most_names 2 (forest_of w.children) = subst (λ (m : Node). IsNoDeeper most_names 2 m.children) is deep in
    subst (IsShallow 1) (sym w.whole) (shallow_properties w.properties 0 (steps_of_nodes w.children ++ closes ∷ w.behind) (shallow_nodes w.children 0 2 (omega arith) children (closes ∷ w.behind) tt))

-- it may go on from the root as the counterpart
pub may_walk : (t : PlacedTree) (root : ℕ) (open_nodes : List ℕ) (x : Name) (steps : List Step) → open_nodes ≡ root ∷ [] → IsAt t [] root → IsWithinLimits (reading_of t) → WalkIn t (x ∷ []) steps → MayWalk t open_nodes steps
may_walk t root open_nodes x steps is at within w =
    subst (λ (ks : List ℕ). MayWalk t ks steps) (sym is) (record { nodes = (([], at), tt); shallow = walk_shallow t x steps within w })

-- ---- words

-- the first word of a list
pub first_word : (bytes : List ℕ) (n : ℕ) → word_at bytes 0 ≡ Some n → words_of bytes ≡ n ∷ words_of (drop 4 bytes)
first_word [] n e = absurd cc
first_word (a ∷ []) n e = absurd cc
first_word (a ∷ b ∷ []) n e = absurd cc
first_word (a ∷ b ∷ c ∷ []) n e = absurd cc
first_word (a ∷ b ∷ c ∷ d ∷ rest) n e =
    let less : nat_le 4 (length (a ∷ b ∷ c ∷ d ∷ rest)) ≡ true = le-leb 4 (length (a ∷ b ∷ c ∷ d ∷ rest)) (omega arith) in
    let z : Some (from_be_bytes w32 (a ∷ b ∷ c ∷ d ∷ [])) ≡ Some n = rw less at e in
    ap (λ (m : ℕ). m ∷ words_of rest) (same_Some (from_be_bytes w32 (a ∷ b ∷ c ∷ d ∷ [])) n z)

-- without one there are none
pub no_word : (bytes : List ℕ) → word_at bytes 0 ≡ None → words_of bytes ≡ []
no_word [] e = refl
no_word (a ∷ []) e = refl
no_word (a ∷ b ∷ []) e = refl
no_word (a ∷ b ∷ c ∷ []) e = refl
no_word (a ∷ b ∷ c ∷ d ∷ rest) e =
    let less : nat_le 4 (length (a ∷ b ∷ c ∷ d ∷ rest)) ≡ true = le-leb 4 (length (a ∷ b ∷ c ∷ d ∷ rest)) (omega arith) in
    let z : Some (from_be_bytes w32 (a ∷ b ∷ c ∷ d ∷ [])) ≡ None = rw less at e in
    absurd cc
