-- The tokens of a tree give it back, so a tree can be stored as them.
use Rattle.dt_model.specs.Tree.{Property}
use Rattle.dt_trees.specs.Placed.{Nodes, no_nodes, node, PlacedTree}
use Rattle.dt_read.specs.Marks.{Mark, begin_mark, end_mark, prop_mark, nop_mark, last_mark, Root, marks_of_nodes, marks_of}
use Rattle.std.proofs.Common.{◌≡◌, ℕ, zero, suc, List, [], ◌∷◌, ◌++◌, map, refl, sym, ap, ◌∙◌, append_assoc}
use Rattle.std.proofs.lemmas.List.{append-nil}
use Rattle.std.specs.Coded.{Coded, code_by, coded×, coded_ℕ, coded_list}
use Rattle.dt_read.specs.Walked.{Step, opens, holds, closes}
use Rattle.dt_read.specs.Parsing.{Left, begun, left_by, root_left, tree_of_marks}

-- ---- tokens and trees

pub left_by_properties : (properties : List Property) (rest : List Mark) → (left_by rest).properties ≡ []
    → left_by (map prop_mark properties ++ rest) ≡ record { properties = properties; levels = (left_by rest).levels }
left_by_properties [] rest none = ap (λ (p : List Property). record { properties = p; levels = (left_by rest).levels }) none
left_by_properties (p ∷ properties) rest none = ap (λ (l : Left). record { properties = p ∷ l.properties; levels = l.levels })
    (left_by_properties properties rest none)

pub left_by_nodes : (nodes : Nodes) (rest : List Mark)
    → left_by (marks_of_nodes nodes ++ end_mark ∷ rest) ≡ record { properties = []; levels = nodes ∷ (left_by rest).levels }
left_by_nodes no_nodes rest = refl
left_by_nodes (node place name properties children siblings) rest =
    let after = left_by_nodes siblings rest in
    let inside : left_by (marks_of_nodes children ++ end_mark
    ∷ (marks_of_nodes siblings ++ end_mark ∷ rest)) ≡ record { properties = []; levels = children ∷ siblings ∷ (left_by rest).levels } =
    left_by_nodes children (marks_of_nodes siblings ++ end_mark ∷ rest) ∙ ap (λ (l : Left). record { properties = []; levels = children ∷ l.levels }) after in
    let whole : left_by (map prop_mark properties ++ (marks_of_nodes children ++ end_mark
    ∷ (marks_of_nodes siblings ++ end_mark ∷ rest))) ≡ record { properties = properties; levels = children ∷ siblings ∷ (left_by rest).levels } =
    left_by_properties properties (marks_of_nodes children ++ end_mark ∷ (marks_of_nodes siblings ++ end_mark ∷ rest)) (ap (λ (l : Left). l.properties) inside)
    ∙ ap (λ (l : Left). record { properties = properties; levels = l.levels }) inside in
    let regroup : (map prop_mark properties ++ (marks_of_nodes children ++ end_mark ∷ marks_of_nodes siblings)) ++ end_mark
    ∷ rest ≡ map prop_mark properties ++ (marks_of_nodes children ++ end_mark ∷ (marks_of_nodes siblings ++ end_mark ∷ rest)) = simp append_assoc in
    ap (λ (l : Left). record { properties = []; levels = begun place name l.properties l.levels }) (ap left_by regroup ∙ whole)

-- the tokens of a tree, whatever follows them, give it back
pub tree_again : (tree : Root) (rest : List Mark) → tree_of_marks (marks_of tree ++ rest) ≡ tree
tree_again tree rest =
    let inside = left_by_nodes tree.children rest in
    let whole : left_by (map prop_mark tree.properties ++ (marks_of_nodes tree.children ++ end_mark
    ∷ rest)) ≡ record { properties = tree.properties; levels = tree.children ∷ (left_by rest).levels } =
    left_by_properties tree.properties (marks_of_nodes tree.children ++ end_mark ∷ rest) (ap (λ (l : Left). l.properties) inside)
    ∙ ap (λ (l : Left). record { properties = tree.properties; levels = l.levels }) inside in
    let regroup : (map prop_mark tree.properties ++ (marks_of_nodes tree.children ++ end_mark ∷ [])) ++ rest ≡ map prop_mark tree.properties
    ++ (marks_of_nodes tree.children ++ end_mark ∷ rest) = simp append_assoc in
    ap (λ (l : Left). root_left (begun tree.place [] l.properties l.levels)) (ap left_by regroup ∙ whole)
    ∙ at_root tree.place tree.properties tree.children (left_by rest).levels
  where
    at_root : (place : ℕ) (properties : List Property) (children : Nodes) (levels : List Nodes)
        → root_left (begun place [] properties (children ∷ levels)) ≡ record { place = place; properties = properties; children = children }
    at_root place properties children [] = refl
    at_root place properties children (siblings ∷ levels) = refl

-- a token as numbers: which one, its place, its name and its value
abbrev pub Stored : Type 0
Stored = ℕ × (ℕ × (List ℕ × List ℕ))

abbrev pub stored : Mark → Stored
stored (begin_mark place name) = (0, (place, (name, [])))
stored end_mark = (1, (0, ([], [])))
stored (prop_mark p) = (2, (0, (p.name, p.value)))
stored nop_mark = (3, (0, ([], [])))
stored last_mark = (4, (0, ([], [])))

abbrev pub mark_of_tag : ℕ → ℕ → List ℕ → List ℕ → Mark
mark_of_tag zero place name value = begin_mark place name
mark_of_tag (suc zero) place name value = end_mark
mark_of_tag (suc (suc zero)) place name value = prop_mark (record { name = name; value = value })
mark_of_tag (suc (suc (suc zero))) place name value = nop_mark
mark_of_tag (suc (suc (suc (suc tag)))) place name value = last_mark

abbrev pub mark_of : Stored → Mark
mark_of p = mark_of_tag p.0 p.1.0 p.1.1.0 p.1.1.1

pub mark_again : (mark : Mark) → mark_of (stored mark) ≡ mark
mark_again (begin_mark place name) = refl
mark_again end_mark = refl
mark_again (prop_mark p) = refl
mark_again nop_mark = refl
mark_again last_mark = refl

abbrev pub coded_mark : Coded Mark
coded_mark = code_by Stored (coded× coded_ℕ (coded× coded_ℕ (coded× (coded_list coded_ℕ) (coded_list coded_ℕ)))) stored mark_of mark_again

abbrev pub coded_marks : Coded (List Mark)
coded_marks = coded_list coded_mark

pub tree_once : (tree : Root) → tree_of_marks (marks_of tree) ≡ tree
tree_once tree = ap tree_of_marks (sym (append-nil (marks_of tree))) ∙ tree_again tree []

abbrev pub coded_root : Coded Root
coded_root = code_by (List Mark) coded_marks marks_of tree_of_marks tree_once

abbrev pub Numbers : Type 0
Numbers = ℕ × List (ℕ × ℕ)

-- a tree as its numbers, and the tokens of its root
abbrev pub coded_placed : Coded PlacedTree
coded_placed =
    code_by (Numbers × Root) (coded× (coded× coded_ℕ (coded_list (coded× coded_ℕ coded_ℕ))) coded_root)
    (λ t. ((t.boot_cpu, t.reservations), record { place = t.place; properties = t.properties; children = t.children }))
    (λ p. record { boot_cpu = (p.0).0; reservations = (p.0).1; place = p.1.place; properties = p.1.properties; children = p.1.children })
    (λ _. refl)

abbrev pub coded_property : Coded Property
coded_property = code_by (List ℕ × List ℕ) (coded× (coded_list coded_ℕ) (coded_list coded_ℕ)) (λ p. (p.name, p.value))
    (λ p. record { name = p.0; value = p.1 }) (λ _. refl)

-- a step as the token that it is
abbrev pub mark_of_step : Step → Mark
mark_of_step (opens place name) = begin_mark place name
mark_of_step (holds p) = prop_mark p
mark_of_step closes = end_mark

abbrev pub step_of_mark : Mark → Step
step_of_mark (begin_mark place name) = opens place name
step_of_mark (prop_mark p) = holds p
step_of_mark end_mark = closes
step_of_mark nop_mark = closes
step_of_mark last_mark = closes

pub step_again : (step : Step) → step_of_mark (mark_of_step step) ≡ step
step_again (opens place name) = refl
step_again (holds p) = refl
step_again closes = refl

abbrev pub coded_step : Coded Step
coded_step = code_by Mark coded_mark mark_of_step step_of_mark step_again
