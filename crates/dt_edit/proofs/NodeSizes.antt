-- A node takes 12 bytes at least, so a short structure block has few nodes.
use Rattle.std.proofs.Common.{◌≡◌, ◌↔◌, ℕ, ◌+◌, ◌*◌, ◌<◌, ◌≤◌, List, [], ◌∷◌, ◌++◌, length, map, refl, sym, ap, ◌∙◌, append_assoc, arith}
use Rattle.std.specs.Prelude.{IsTrue, nat_lt}
use Rattle.std.proofs.lemmas.Bool.{ltb-true, lt-ltb}
use Rattle.std.proofs.lemmas.List.{length-append}
use Rattle.dt_model.specs.Checks.{number, strings_of, structure_of}
use Rattle.dt_model.specs.Format.{word}
use Rattle.dt_model.specs.Limits.{most_nodes}
use Rattle.dt_model.specs.Tree.{Property}
use Rattle.dt_model.specs.Valid.{node_count}
use Rattle.dt_read.specs.Checked.{IsBlob, placed_of, root_of}
use Rattle.dt_read.specs.Marks.{Mark, begin_mark, end_mark, prop_mark, nop_mark, last_mark, SpellsMark, SpellsMarks, marks_of_nodes, marks_of, without_nop_marks}
use Rattle.dt_trees.specs.Placed.{Nodes, no_nodes, node, forest_of}
use Rattle.dt_read.proofs.CheckedBytes.{root_is_read}
use Rattle.dt_edit.specs.Editable.{reading_in}

-- how many bytes the beginnings and the ends of nodes take at least
abbrev least_bytes : List Mark → ℕ
least_bytes [] = 0
least_bytes (begin_mark place name ∷ marks) = 8 + least_bytes marks
least_bytes (end_mark ∷ marks) = 4 + least_bytes marks
least_bytes (prop_mark p ∷ marks) = least_bytes marks
least_bytes (nop_mark ∷ marks) = least_bytes marks
least_bytes (last_mark ∷ marks) = least_bytes marks

least_spelled : (strings : List ℕ) (at : ℕ) (marks : List Mark) (bytes : List ℕ) → SpellsMarks strings at marks bytes → least_bytes marks ≤ length bytes
least_spelled strings at [] bytes s = omega arith
least_spelled strings at (mark ∷ marks) bytes s =
    one mark s.3 (least_spelled strings (at + length s.0) marks s.1 s.4) (ap (λ (x : List ℕ). length x) s.2 ∙ length-append s.0 s.1)
  where
    one : (mark : Mark) → SpellsMark strings at mark s.0 → least_bytes marks ≤ length s.1 → length bytes ≡ length s.0 + length s.1 → least_bytes (mark ∷ marks) ≤ length bytes
    one (begin_mark place name) t le e =
        let aligned = t.token.bytes.aligned in
        let content : List ℕ = name ++ 0 ∷ [] in
        let long : length content ≡ length name + 1 = length-append name (0 ∷ []) in
        let whole = ap (λ (x : List ℕ). length x) t.token.bytes.whole in
        omega (arith, aligned, long, whole, length-append (word 1 ++ content) t.token.bytes.padding, length-append (word 1) content, le, e)
    one end_mark t le e = omega (arith, ap (λ (x : List ℕ). length x) t.token, le, e)
    one (prop_mark p) t le e = omega (arith, le, e)
    one nop_mark t le e = omega (arith, le, e)
    one last_mark t le e = omega (arith, le, e)

least_without : (marks rest : List Mark) → least_bytes (without_nop_marks marks ++ rest) ≡ least_bytes (marks ++ rest)
least_without [] rest = refl
least_without (begin_mark place name ∷ marks) rest = ap (λ (n : ℕ). 8 + n) (least_without marks rest)
least_without (end_mark ∷ marks) rest = ap (λ (n : ℕ). 4 + n) (least_without marks rest)
least_without (prop_mark p ∷ marks) rest = least_without marks rest
least_without (nop_mark ∷ marks) rest = least_without marks rest
least_without (last_mark ∷ marks) rest = least_without marks rest

least_properties : (ps : List Property) (rest : List Mark) → least_bytes (map prop_mark ps ++ rest) ≡ least_bytes rest
least_properties [] rest = refl
least_properties (p ∷ ps) rest = least_properties ps rest

least_nodes : (nodes : Nodes) (rest : List Mark) → least_bytes (marks_of_nodes nodes ++ rest) ≡ 12 * node_count (forest_of nodes) + least_bytes rest
least_nodes no_nodes rest = omega arith
least_nodes (node place name properties children siblings) rest =
    let regroup : (map prop_mark properties ++ (marks_of_nodes children ++ end_mark ∷ marks_of_nodes siblings)) ++ rest ≡ map prop_mark properties ++ (marks_of_nodes children ++ end_mark ∷ (marks_of_nodes siblings ++ rest)) = simp append_assoc in
    let inside = ap least_bytes regroup ∙ least_properties properties (marks_of_nodes children ++ end_mark ∷ (marks_of_nodes siblings ++ rest)) in
    let below = least_nodes children (end_mark ∷ (marks_of_nodes siblings ++ rest)) in
    let beside = least_nodes siblings rest in
    omega (arith, inside, below, beside)

-- so a blob has few nodes
pub nodes_within : (bytes : List ℕ) → IsBlob bytes → 12 + 12 * node_count (reading_in bytes).children ≤ length (structure_of bytes)
unfolding placed_of
nodes_within bytes is =
    let h = (root_is_read bytes is.0 is.1 is.2).tree in
    let root = root_of bytes in
    let all = least_spelled (strings_of bytes) (number bytes 8) (h.marks ++ last_mark ∷ []) (structure_of bytes) h.spelled in
    let same : least_bytes (h.marks ++ last_mark ∷ []) ≡ least_bytes (marks_of root ++ last_mark ∷ []) = sym (least_without h.marks (last_mark ∷ [])) ∙ ap (λ (x : List Mark). least_bytes (x ++ last_mark ∷ [])) h.whole in
    let regroup : (map prop_mark root.properties ++ (marks_of_nodes root.children ++ end_mark ∷ [])) ++ last_mark ∷ [] ≡ map prop_mark root.properties ++ (marks_of_nodes root.children ++ end_mark ∷ (last_mark ∷ [])) = simp append_assoc in
    let inside = ap least_bytes regroup ∙ least_properties root.properties (marks_of_nodes root.children ++ end_mark ∷ (last_mark ∷ [])) in
    let below = least_nodes root.children (end_mark ∷ (last_mark ∷ [])) in
    omega (arith, all, same, inside, below)

pub few_enough : (bytes : List ℕ) → IsBlob bytes → length (structure_of bytes) < 786432 → 1 + node_count (reading_in bytes).children < most_nodes
few_enough bytes is lt = omega (arith, nodes_within bytes is, lt)

pub may_grow_if : (bytes : List ℕ) (nodes : ℕ) → nodes ≡ 1 + node_count (reading_in bytes).children → IsTrue (nat_lt nodes 65536) ↔ (1 + node_count (reading_in bytes).children < most_nodes)
may_grow_if bytes nodes n = (λ h. let few = ltb-true nodes 65536 h in omega arith, λ few. lt-ltb nodes 65536 (omega (arith, few)))
