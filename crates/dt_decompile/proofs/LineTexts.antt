-- Tabs, and the lines of a walk as those of the tree.
use Rattle.std.proofs.Common.{◌≡◌, ℕ, zero, suc, ◌+◌, ◌-◌, ◌<◌, ◌≤◌, List, [], ◌∷◌, ◌++◌, map, take, refl, sym, ap, subst, ◌∙◌, append_assoc, arith}
use Rattle.std.specs.Prelude.{codes}
use Rattle.std.proofs.lemmas.List.{replicate-append-replicate, take-replicate}
use Rattle.dt_model.specs.Tree.{Property}
use Rattle.dt_model.specs.Valid.{node_count}
use Rattle.dt_model.specs.Printed.{tabs, property_line, property_lines, node_lines, reservation_lines, printed}
use Rattle.dt_trees.specs.Placed.{Nodes, no_nodes, node, forest_of, PlacedTree, reading_of}
use Rattle.dt_read.specs.Walked.{Step, opens, holds, closes, steps_of_nodes, steps_of}
use Rattle.dt_decompile.specs.Lines.{open_line, close_line, depth_after, lines_of, opened}

pub tabs_more : (n : ℕ) → 8 < n → tabs n ≡ codes "\t\t\t\t\t\t\t\t" ++ tabs (n - 8)
tabs_more n many =
    let e : n ≡ 8 + (n - 8) = omega arith in
    ap tabs e ∙ sym (replicate-append-replicate 8 (n - 8) 9)

pub tabs_last : (n : ℕ) → n ≤ 8 → tabs n ≡ take n (codes "\t\t\t\t\t\t\t\t")
tabs_last n few = sym (take-replicate n 8 9 few)

-- ---- a walk

holds_lines : (depth : ℕ) (ps : List Property) (steps : List Step) → lines_of depth (map holds ps ++ steps) ≡ property_lines depth ps ++ lines_of depth steps
holds_lines depth [] steps = refl
holds_lines depth (p ∷ ps) steps =
    ap (λ (l : List ℕ). property_line depth p ++ l) (holds_lines depth ps steps)
    ∙ sym (append_assoc (property_line depth p) (property_lines depth ps) (lines_of depth steps))

-- (xs ++ (ys ++ s ∷ zs)) ++ more
regrouped : (xs ys zs more : List Step) (s : Step) → (xs ++ (ys ++ s ∷ zs)) ++ more ≡ xs ++ (ys ++ (s ∷ (zs ++ more)))
regrouped xs ys zs more s = append_assoc xs (ys ++ s ∷ zs) more ∙ ap (λ (l : List Step). xs ++ l) (append_assoc ys (s ∷ zs) more)

joined : (a b c d e : List ℕ) → a ++ (b ++ (c ++ (d ++ e))) ≡ (a ++ (b ++ (c ++ d))) ++ e
joined a b c d e =
    ap (λ (l : List ℕ). a ++ (b ++ l)) (sym (append_assoc c d e)) ∙ ap (λ (l : List ℕ). a ++ l) (sym (append_assoc b (c ++ d) e))
    ∙ sym (append_assoc a (b ++ (c ++ d)) e)

-- siblings that aren't the root
walk_lines : (d : ℕ) (nodes : Nodes) (more : List Step) → lines_of (suc d) (steps_of_nodes nodes ++ more) ≡ node_lines (suc d) (forest_of nodes) ++ lines_of (suc d) more
walk_lines d no_nodes more = refl
walk_lines d (node place name ps children siblings) more =
    let first : List ℕ = open_line (suc d) name in
    let last : List ℕ = close_line (suc d) in
    let inner : List ℕ = property_lines (suc (suc d)) ps in
    let below : List ℕ = node_lines (suc (suc d)) (forest_of children) in
    let after : List ℕ = node_lines (suc d) (forest_of siblings) in
    ap (λ (steps : List Step). first ++ lines_of (suc (suc d)) steps) (regrouped (map holds ps) (steps_of_nodes children) (steps_of_nodes siblings) more closes)
    ∙ ap (λ (l : List ℕ). first ++ l) (holds_lines (suc (suc d)) ps (steps_of_nodes children ++ (closes ∷ (steps_of_nodes siblings ++ more)))
    ∙ ap (λ (l : List ℕ). inner ++ l) (walk_lines (suc d) children (closes ∷ (steps_of_nodes siblings ++ more))
    ∙ ap (λ (l : List ℕ). below ++ (last ++ l)) (walk_lines d siblings more)))
    ∙ ap (λ (l : List ℕ). first ++ (inner ++ (below ++ l))) (sym (append_assoc last after (lines_of (suc d) more)))
    ∙ joined first inner below (last ++ after) (lines_of (suc d) more)

-- the whole walk
printed_walk : (t : PlacedTree) → printed (reading_of t) ≡ codes "/dts-v1/;\n" ++ (reservation_lines t.reservations ++ lines_of 0 (steps_of t))
printed_walk t =
    ap (λ (l : List ℕ). codes "/dts-v1/;\n" ++ (reservation_lines t.reservations ++ (codes "/ {\n" ++ l)))
    (sym (holds_lines 1 t.properties (steps_of_nodes t.children ++ closes ∷ []) ∙ ap (λ (l : List ℕ). property_lines 1 t.properties ++ l) (walk_lines 0 t.children (closes ∷ []))))

-- ---- how many nodes begin

opened_append : (xs ys : List Step) → opened (xs ++ ys) ≡ opened xs + opened ys
opened_append [] ys = omega arith
opened_append (opens place name ∷ xs) ys = omega (arith, opened_append xs ys)
opened_append (holds p ∷ xs) ys = opened_append xs ys
opened_append (closes ∷ xs) ys = opened_append xs ys

opened_holds : (ps : List Property) → opened (map holds ps) ≡ 0
opened_holds [] = refl
opened_holds (p ∷ ps) = opened_holds ps

opened_nodes : (nodes : Nodes) → opened (steps_of_nodes nodes) ≡ node_count (forest_of nodes)
opened_nodes no_nodes = refl
opened_nodes (node place name ps children siblings) =
    omega (arith, opened_append (map holds ps) (steps_of_nodes children ++ closes ∷ steps_of_nodes siblings), opened_holds ps, opened_append (steps_of_nodes children) (closes ∷ steps_of_nodes siblings), opened_nodes children, opened_nodes siblings)

opened_all : (t : PlacedTree) → opened (steps_of t) ≡ 1 + node_count (forest_of t.children)
opened_all t =
    omega (arith, opened_append (map holds t.properties) (steps_of_nodes t.children ++ closes ∷ []), opened_holds t.properties, opened_append (steps_of_nodes t.children) (closes ∷ []), opened_nodes t.children)

-- the nodes that are open are no more than began
depth_step : (most d : ℕ) (step : Step) (rest : List Step) → d + opened (step ∷ rest) ≤ most → depth_after d step + opened rest ≤ most
depth_step most d (opens place name) rest few = omega (arith, few)
depth_step most d (holds p) rest few = few
depth_step most zero closes rest few = few
depth_step most (suc d) closes rest few = omega (arith, few)

pub depth_fits : (most d next : ℕ) (step : Step) (steps rest : List Step) → next ≡ depth_after d step → steps ≡ step ∷ rest → d + opened steps ≤ most
    → next + opened rest ≤ most
depth_fits most d next step steps rest e f few =
    let few_more : d + opened (step ∷ rest) ≤ most = subst (λ (l : List Step). d + opened l ≤ most) f few in
    subst (λ (n : ℕ). n + opened rest ≤ most) (sym e) (depth_step most d step rest few_more)

-- the pieces of the whole text
pub printed_pieces : (t : PlacedTree) (reservations : List (ℕ × ℕ)) (steps : List Step) → reservations ≡ t.reservations → steps ≡ steps_of t
    → printed (reading_of t) ≡ codes "/dts-v1/;\n" ++ (reservation_lines reservations ++ lines_of 0 steps)
printed_pieces t reservations steps e f =
    printed_walk t ∙ sym (ap (λ (l : List (ℕ × ℕ)). codes "/dts-v1/;\n" ++ (reservation_lines l ++ lines_of 0 steps)) e
    ∙ ap (λ (l : List Step). codes "/dts-v1/;\n" ++ (reservation_lines t.reservations ++ lines_of 0 l)) f)

pub few_opened : (t : PlacedTree) (steps : List Step) → steps ≡ steps_of t → 1 + node_count (forest_of t.children) ≤ 65536 → opened steps < 4294967296
few_opened t steps e few = omega (arith, ap opened e, opened_all t, few)
