-- Places rise, so a child's place finds that child.
use Rattle.std.proofs.Common.{◌⊎◌, ◌≡◌, ℕ, ◌+◌, ◌<◌, ◌≤◌, Bool, true, false, cond, List, [], ◌∷◌, ◌++◌, length, map, Option, Some, None, refl, ap, subst, ◌∙◌, append_assoc, arith, inl, inr}
use Rattle.std.proofs.Math.Dec.{eqb}
use Rattle.std.proofs.lemmas.Bool.{eqb-true, eq-eqb}
use Rattle.std.proofs.lemmas.List.{length-append}
use Rattle.std.proofs.lemmas.Option.{same_Some}
use Rattle.dt_model.specs.Tree.{Property}
use Rattle.dt_trees.specs.Placed.{Nodes, no_nodes, node}
use Rattle.dt_read.specs.Marks.{Mark, begin_mark, end_mark, prop_mark, nop_mark, last_mark, SpellsMark, SpellsMarks, Root, marks_of_nodes, marks_of, without_nop_marks}
use Rattle.dt_read.specs.TreeTokens.{Parts, or_else, find_in, HasTree}
use Rattle.dt_read.specs.Order.{Rise, HasRisingPlaces}
use Rattle.dt_read.proofs.Tokens.{chosen}
use Rattle.dt_read.proofs.Trees.{spelled_len, place_is}
use Rattle.dt_read.proofs.Nodes.{or_else_some}

-- ---- from tokens to trees

abbrev Rising : ℕ → List Mark → ℕ → Type 0
Rising low [] high = low ≤ high
Rising low (begin_mark place name ∷ marks) high = (low ≤ place) × Rising (place + 1) marks high
Rising low (end_mark ∷ marks) high = Rising low marks high
Rising low (prop_mark p ∷ marks) high = Rising low marks high
Rising low (nop_mark ∷ marks) high = Rising low marks high
Rising low (last_mark ∷ marks) high = Rising low marks high

rising_from : (low less : ℕ) (marks : List Mark) (high : ℕ) → less ≤ low → Rising low marks high → Rising less marks high
rising_from low less [] high le r = omega arith
rising_from low less (begin_mark place name ∷ marks) high le r = let first = r.0 in (omega arith, r.1)
rising_from low less (end_mark ∷ marks) high le r = rising_from low less marks high le r
rising_from low less (prop_mark p ∷ marks) high le r = rising_from low less marks high le r
rising_from low less (nop_mark ∷ marks) high le r = rising_from low less marks high le r
rising_from low less (last_mark ∷ marks) high le r = rising_from low less marks high le r

rising_spelled : (strings : List ℕ) (at : ℕ) (marks : List Mark) (bytes : List ℕ) → SpellsMarks strings at marks bytes → Rising at marks (at + length bytes)
rising_spelled strings at [] bytes s = omega arith
rising_spelled strings at (mark ∷ marks) bytes s =
    let long = spelled_len strings at mark s.0 s.3 in
    let later = rising_spelled strings (at + length s.0) marks s.1 s.4 in
    let e = ap length s.2 in
    let l = length-append s.0 s.1 in
    let total : at + length s.0 + length s.1 ≡ at + length bytes = omega arith in
    by_mark mark s.3 (subst (Rising (at + length s.0) marks) total later) long
  where
    by_mark : (mark : Mark) → SpellsMark strings at mark s.0 → Rising (at + length s.0) marks (at + length bytes) → 4 ≤ length s.0 → Rising at (mark ∷ marks) (at + length bytes)
    by_mark (begin_mark place name) t r long = let is = place_is strings at place name s.0 t in (omega arith, rising_from (at + length s.0) (place + 1) marks (at + length bytes) (omega arith) r)
    by_mark end_mark t r long = rising_from (at + length s.0) at marks (at + length bytes) (omega arith) r
    by_mark (prop_mark p) t r long = rising_from (at + length s.0) at marks (at + length bytes) (omega arith) r
    by_mark nop_mark t r long = rising_from (at + length s.0) at marks (at + length bytes) (omega arith) r
    by_mark last_mark t r long = rising_from (at + length s.0) at marks (at + length bytes) (omega arith) r

rising_without_nop_marks : (marks rest : List Mark) (low high : ℕ) → Rising low (marks ++ rest) high → Rising low (without_nop_marks marks ++ rest) high
rising_without_nop_marks [] rest low high r = r
rising_without_nop_marks (begin_mark place name ∷ marks) rest low high r = (r.0, rising_without_nop_marks marks rest (place + 1) high r.1)
rising_without_nop_marks (end_mark ∷ marks) rest low high r = rising_without_nop_marks marks rest low high r
rising_without_nop_marks (prop_mark p ∷ marks) rest low high r = rising_without_nop_marks marks rest low high r
rising_without_nop_marks (nop_mark ∷ marks) rest low high r = rising_without_nop_marks marks rest low high r
rising_without_nop_marks (last_mark ∷ marks) rest low high r = rising_without_nop_marks marks rest low high r

rising_properties : (properties : List Property) (rest : List Mark) (low high : ℕ) → Rising low (map prop_mark properties ++ rest) high → Rising low rest high
rising_properties [] rest low high r = r
rising_properties (p ∷ properties) rest low high r = rising_properties properties rest low high r

rise_nodes : (nodes : Nodes) (rest : List Mark) (low high : ℕ) → Rising low (marks_of_nodes nodes ++ rest) high → (middle : ℕ) × Rise low nodes middle × Rising middle rest high
rise_nodes no_nodes rest low high r = (low, omega arith, r)
rise_nodes (node place name properties children siblings) rest low high r =
    let regroup : (map prop_mark properties ++ (marks_of_nodes children ++ end_mark ∷ marks_of_nodes siblings)) ++ rest ≡ map prop_mark properties ++ (marks_of_nodes children ++ end_mark ∷ (marks_of_nodes siblings ++ rest)) = simp append_assoc in
    let inside = rising_properties properties (marks_of_nodes children ++ end_mark ∷ (marks_of_nodes siblings ++ rest)) (place + 1) high (subst (λ (x : List Mark). Rising (place + 1) x high) regroup r.1) in
    let c = rise_nodes children (end_mark ∷ (marks_of_nodes siblings ++ rest)) (place + 1) high inside in
    let s = rise_nodes siblings rest c.0 high c.2 in
    (s.0, (r.0, c.0, c.1, s.1), s.2)

pub rising_places : (strings : List ℕ) (at : ℕ) (block : List ℕ) (tree : Root) → HasTree strings at block tree → HasRisingPlaces tree
rising_places strings at block tree s =
    let r = rising_without_nop_marks s.marks (last_mark ∷ []) at (at + length block) (rising_spelled strings at (s.marks ++ last_mark ∷ []) block s.spelled) in
    let t : Rising at (marks_of tree ++ last_mark ∷ []) (at + length block) = subst (λ (x : List Mark). Rising at (x ++ last_mark ∷ []) (at + length block)) s.whole r in
    let regroup : (map prop_mark tree.properties ++ (marks_of_nodes tree.children ++ end_mark ∷ [])) ++ last_mark ∷ [] ≡ map prop_mark tree.properties ++ (marks_of_nodes tree.children ++ end_mark ∷ (last_mark ∷ [])) = simp append_assoc in
    let inside = rising_properties tree.properties (marks_of_nodes tree.children ++ end_mark ∷ (last_mark ∷ [])) (tree.place + 1) (at + length block) (subst (λ (x : List Mark). Rising (tree.place + 1) x (at + length block)) regroup t.1) in
    let c = rise_nodes tree.children (end_mark ∷ (last_mark ∷ [])) (tree.place + 1) (at + length block) inside in
    record { high = c.0; rise = c.1 }

-- ---- where places rise, each is one node's

abbrev pub HasBelow : Nodes → ℕ → Parts → Type 0
HasBelow no_nodes place parts = ⊥
HasBelow (node other name properties children siblings) place parts =
    ((other ≡ place) × (record { name = name; properties = properties; children = children; siblings = siblings } ≡ parts)) ⊎ (HasBelow children place parts ⊎ HasBelow siblings place parts)

pub found_below : (place : ℕ) (nodes : Nodes) (parts : Parts) → find_in place nodes ≡ Some parts → HasBelow nodes place parts
found_below place no_nodes parts e = absurd cc
found_below place (node other name properties children siblings) parts e =
    elim (chosen (eqb other place) _ _ _ e) [
      | inl here ↦ inl (eqb-true other place here.0, same_Some _ parts here.1)
      | inr further ↦ elim (or_else_some (find_in place children) (find_in place siblings) parts further.1) [
        | inl inside ↦ inr (inl (found_below place children parts inside))
        | inr after ↦ inr (inr (found_below place siblings parts after))
      ]
    ]

pub rise_bounds : (nodes : Nodes) (low high : ℕ) → Rise low nodes high → low ≤ high
rise_bounds no_nodes low high r = r
rise_bounds (node place name properties children siblings) low high r =
    let c = rise_bounds children (place + 1) r.1 r.2 in
    let s = rise_bounds siblings r.1 high r.3 in
    let first = r.0 in
    omega arith

pub below_bounds : (nodes : Nodes) (low high place : ℕ) (parts : Parts) → Rise low nodes high → HasBelow nodes place parts → (low ≤ place) × (place < high)
below_bounds no_nodes low high place parts r h = absurd h
below_bounds (node other name properties children siblings) low high place parts r h =
    let c = rise_bounds children (other + 1) r.1 r.2 in
    let s = rise_bounds siblings r.1 high r.3 in
    let first = r.0 in
    elim h [
      | inl here ↦ let is = here.0 in (omega arith, omega arith)
      | inr further ↦ elim further [
        | inl inside ↦ let b = below_bounds children (other + 1) r.1 place parts r.2 inside in (omega arith, omega arith)
        | inr after ↦ let b = below_bounds siblings r.1 high place parts r.3 after in (omega arith, omega arith)
      ]
    ]

pub find_here : (other place : ℕ) (a b : Option Parts) → other ≡ place → cond (eqb other place) a b ≡ a
find_here other place a b e = rw (eq-eqb other place e) refl

pub find_further : (other place : ℕ) (a b : Option Parts) → other < place → cond (eqb other place) a b ≡ b
find_further other place a b lt = by_test (eqb other place) refl
  where
    by_test : (t : Bool) → eqb other place ≡ t → cond t a b ≡ b
    by_test true is = let same = eqb-true other place is in absurd (omega arith)
    by_test false is = refl

pub below_found : (nodes : Nodes) (low high place : ℕ) (parts : Parts) → Rise low nodes high → HasBelow nodes place parts → find_in place nodes ≡ Some parts
below_found no_nodes low high place parts r h = absurd h
below_found (node other name properties children siblings) low high place parts r h =
    elim h [
      | inl here ↦ find_here other place _ _ here.0 ∙ ap (λ (p : Parts). Some p) here.1
      | inr further ↦ elim further [
        | inl inside ↦
            let b = below_bounds children (other + 1) r.1 place parts r.2 inside in
            let lt : other < place = omega arith in
            find_further other place _ _ lt ∙ ap (λ (o : Option Parts). or_else o (find_in place siblings)) (below_found children (other + 1) r.1 place parts r.2 inside)
        | inr after ↦
            let b = below_bounds siblings r.1 high place parts r.3 after in
            let c = rise_bounds children (other + 1) r.1 r.2 in
            let lt : other < place = omega arith in
            find_further other place _ _ lt ∙ not_inside place children (find_in place siblings) (λ p e. (let d = below_bounds children (other + 1) r.1 place p r.2 (found_below place children p e) in omega arith)) (find_in place children) refl ∙ below_found siblings r.1 high place parts r.3 after
      ]
    ]
  where
    not_inside : (place : ℕ) (children : Nodes) (rest : Option Parts) → ((p : Parts) → find_in place children ≡ Some p → ⊥) → (o : Option Parts) → find_in place children ≡ o → or_else (find_in place children) rest ≡ rest
    not_inside place children rest h None e = ap (λ (o : Option Parts). or_else o rest) e
    not_inside place children rest h (Some p) e = absurd (h p e)
