-- Tables that are filled on the way through a tree.
use Rattle.std.proofs.Common.{◌≡◌, ◌⊎◌, ℕ, suc, ◌+◌, ◌<◌, ◌^◌, nat_eq, Bool, true, false, cond, List, [], ◌∷◌, ◌++◌, length, Some, None, codes, refl, sym, ap, subst, ◌∙◌, inl, inr, true≢false, arith}
use Rattle.std.specs.Prelude.{is_some}
use Rattle.std.specs.Int.{w32, from_be_bytes}
use Rattle.std.proofs.lemmas.Bool.{eqb-true, eq-eqb}
use Rattle.std.proofs.lemmas.List.{append-nil, length-append}
use Rattle.std.proofs.lemmas.Nat.{from_be_bytes-to_be_bytes_4}
use Rattle.dt_model.specs.Limits.{most_nodes}
use Rattle.dt_model.specs.Lists.{IsIn}
use Rattle.dt_model.specs.Meaning.{cell}
use Rattle.dt_model.specs.Names.{Name}
use Rattle.dt_model.specs.Path.{Path}
use Rattle.dt_model.specs.Tree.{Placed, Reading, nodes_of, value_in}
use Rattle.dt_model.specs.Valid.{IsValid, IsWithinLimits, IsPhandle, node_count, phandle_values, phandles}
use Rattle.dt_model.proofs.Distinct.{in_flat}
use Rattle.dt_model.proofs.Listed.{value_listed}
use Rattle.dt_model.proofs.Preorder.{length-preorder, phandle_list, all_phandles, value_in_list}
use Rattle.dt_model.proofs.Tests.{each_in, in_append}
use Rattle.dt_trees.specs.Placed.{PlacedTree, reading_of, path_at, place_of, IsAt, IsNode, HasPlacesApart}
use Rattle.dt_read.specs.Walked.{Step, opens, steps_of, without_properties}
use Rattle.dt_view.specs.Tables.{at_number, AreParents, ArePhandles, IsNoted}
use Rattle.dt_trees.specs.Views.{HasNumber, IsAbove}
use Rattle.dt_view.specs.declared.tables.Row.{Row}
use Rattle.dt_read.proofs.Opened.{innermost, AreOpened}
use Rattle.dt_read.proofs.Openings.{OpensNext, none_opened}
use Rattle.dt_read.proofs.Walking.{IsWalked, not_walked, next_walked, walked_node, above_walked, one_walked, nodes_walked}

pub is_phandle : (t : Reading) (p : Path) (v : List ℕ) → IsValid t → value_in t p (codes "phandle") ≡ Some v → IsPhandle v
is_phandle t p v valid e =
    let w = value_listed t p (codes "phandle") v e in
    each_in IsPhandle (phandle_values t.properties ++ phandles t.children) v valid.phandles_valid
    (subst (IsIn v) (all_phandles t) (in_flat phandle_list (nodes_of t) w.0 v w.1 (value_in_list w.0.properties v w.3)))

-- what is put is noted
pub noted : (t : PlacedTree) (node number : ℕ) (v : List ℕ) (old new : List (ℕ × ℕ)) → value_in (reading_of t) (path_at t node) (codes "phandle") ≡ Some v → v ≡ cell number → number < 2 ^ 32
    → ((n : ℕ) → at_number new n ≡ cond (nat_eq number n) (Some node) (at_number old n)) → IsNoted t node old new
noted t node number v old new value is small put = record {
  from = λ n k e. from n k (nat_eq number n) refl (sym (put n) ∙ e);
  kept = λ n some. ap is_some (put n) ∙ kept n some (nat_eq number n);
  own = λ n low has. ap is_some (put n) ∙ ap (λ b. is_some (cond b (Some node) (at_number old n))) (eq_of n low has);
}
  where
    from : (n k : ℕ) (b : Bool) → nat_eq number n ≡ b → cond (nat_eq number n) (Some node) (at_number old n) ≡ Some k → (at_number old n ≡ Some k) ⊎ ((k ≡ node) × HasNumber t node n)
    from n k true is' e =
        let same : Some node ≡ Some k = sym (ap (λ b. cond b (Some node) (at_number old n)) is') ∙ e in
        inr (let z : node ≡ k = cc in sym z, value ∙ ap (λ x. Some x) is ∙ ap (λ m. Some (cell m)) (eqb-true number n is'))
    from n k false is' e = inl (sym (ap (λ b. cond b (Some node) (at_number old n)) is') ∙ e)

    kept : (n : ℕ) → is_some (at_number old n) ≡ true → (b : Bool) → is_some (cond b (Some node) (at_number old n)) ≡ true
    kept n some true = refl
    kept n some false = some

    eq_of : (n : ℕ) → n < 2 ^ 32 → HasNumber t node n → nat_eq number n ≡ true
    eq_of n low has =
        let both : Some (cell number) ≡ Some (cell n) = ap (λ x. Some x) (sym is) ∙ sym value ∙ has in
        let cells : cell number ≡ cell n = cc in
        eq-eqb number n (sym (from_be_bytes-to_be_bytes_4 number small) ∙ ap (from_be_bytes w32) cells ∙ from_be_bytes-to_be_bytes_4 n low)

-- a node without a number
pub not_noted : (t : PlacedTree) (node : ℕ) (old : List (ℕ × ℕ)) → ((n : ℕ) → HasNumber t node n → ⊥) → IsNoted t node old old
not_noted t node old none = record { from = λ n k e. inl e; kept = λ n some. some; own = λ n low has. absurd (none n has) }

-- ---- step by step

-- the tables have the nodes that were opened
pub record IsFilled (t : PlacedTree) (parents : List (ℕ × Row)) (phandles : List (ℕ × ℕ)) (open_nodes : List ℕ) (count : ℕ) (steps : List Step) : Type 0 where
  pub walked : IsWalked t open_nodes steps
  pub above : AreParents t walked.before parents
  pub numbered : ArePhandles t walked.before phandles
  pub counted : count ≡ length walked.before

-- nothing was opened
pub unfilled : (t : PlacedTree) → IsValid (reading_of t) → IsWithinLimits (reading_of t) → HasPlacesApart t → IsFilled t [] [] [] 0 (steps_of t)
unfilled t valid within places = record {
  walked = not_walked t valid within places;
  above = λ n k i at. absurd i;
  numbered = record { has = λ n k e. absurd (let z : None ≡ Some k = e in cc); found = λ x k n i at low has. absurd i };
  counted = refl;
}

pub room_for_one : (t : PlacedTree) (parents : List (ℕ × Row)) (phandles : List (ℕ × ℕ)) (open_nodes : List ℕ) (count k : ℕ) (name : Name) (steps rest : List Step) → IsWithinLimits (reading_of t) → IsFilled t parents phandles open_nodes count steps → steps ≡ opens k name ∷ rest
    → count < most_nodes
room_for_one t parents phandles open_nodes count k name steps rest within f e =
    let next = next_walked t open_nodes k name steps rest f.walked e in
    let some : length f.walked.nodes ≡ suc (length next.later) = ap length next.are in
    let all : length (nodes_of (reading_of t)) ≡ length f.walked.before + length f.walked.nodes = ap length f.walked.are.whole ∙ length-append f.walked.before f.walked.nodes in
    let size : length (nodes_of (reading_of t)) ≡ suc (node_count (reading_of t).children) = ap suc (length-preorder [] (reading_of t).children) in
    let limit = within.count in
    let is = f.counted in
    omega arith

pub past_one : (t : PlacedTree) (row : Row) (parents parents' : List (ℕ × Row)) (phandles phandles' : List (ℕ × ℕ)) (open_nodes : List ℕ) (count k : ℕ) (name : Name) (steps rest : List Step) → IsValid (reading_of t) → HasPlacesApart t → IsFilled t parents phandles open_nodes count steps → steps ≡ opens k name ∷ rest
    → row.above ≡ innermost open_nodes → ((j : ℕ) → at_number parents' j ≡ cond (nat_eq k j) (Some row) (at_number parents j)) → IsNoted t k phandles phandles' → IsFilled t parents' phandles' (k ∷ open_nodes) (count + 1) rest
past_one t row parents parents' phandles phandles' open_nodes count k name steps rest valid places f e inner put note = record {
  walked = one_walked t open_nodes k name steps rest f.walked e;
  above = above;
  numbered = record { has = has; found = found };
  counted = let is = f.counted in let more = length-append f.walked.before (next.first ∷ []) in omega (arith, is, more);
}
  where
    next : OpensNext t f.walked.before f.walked.nodes k rest
    next = next_walked t open_nodes k name steps rest f.walked e

    there : IsNode t k
    there = walked_node t open_nodes k name steps rest f.walked e places

    own : IsAbove t k row.above
    own = subst (IsAbove t k) (sym inner) (above_walked t open_nodes k name steps rest f.walked e valid places)

    above : AreParents t (f.walked.before ++ next.first ∷ []) parents'
    above n j i at = by (nat_eq k j) refl
      where
        by : (b : Bool) → nat_eq k j ≡ b → (r : Row) × (at_number parents' j ≡ Some r) × IsAbove t j r.above
        by true is = (row, put j ∙ ap (λ b. cond b (Some row) (at_number parents j)) is, subst (λ x. IsAbove t x row.above) (eqb-true k j is) own)
        by false is = elim (in_append n f.walked.before (next.first ∷ []) i) [
          | inl old ↦ let a = f.above n j old at in (a.0, put j ∙ ap (λ b. cond b (Some row) (at_number parents j)) is ∙ a.1, a.2)
          | inr new ↦ absurd (true≢false (sym (eq-eqb k j (same new)) ∙ is))
        ]
          where
            same : IsIn n (next.first ∷ []) → k ≡ j
            same (inl one) = let z : Some k ≡ Some j = sym next.at ∙ ap (λ (x : Placed). place_of t x.path) (sym one) ∙ at in cc
            same (inr none) = absurd none

    has : (n j : ℕ) → at_number phandles' n ≡ Some j → IsNode t j × HasNumber t j n
    has n j e' = elim (note.from n j e') [
      | inl old ↦ f.numbered.has n j old
      | inr new ↦ (subst (IsNode t) (sym new.0) there, subst (λ x. HasNumber t x n) (sym new.0) new.1)
    ]

    found : (x : Placed) (j n : ℕ) → IsIn x (f.walked.before ++ next.first ∷ []) → IsAt t x.path j → n < 2 ^ 32 → HasNumber t j n → is_some (at_number phandles' n) ≡ true
    found x j n i at low h = elim (in_append x f.walked.before (next.first ∷ []) i) [
      | inl old ↦ note.kept n (f.numbered.found x j n old at low h)
      | inr new ↦ note.own n low (subst (λ y. HasNumber t y n) (sym (same new)) h)
    ]
      where
        same : IsIn x (next.first ∷ []) → k ≡ j
        same (inl one) = let z : Some k ≡ Some j = sym next.at ∙ ap (λ (y : Placed). place_of t y.path) (sym one) ∙ at in cc
        same (inr none) = absurd none

-- a property, or a node's end
pub past_another : (t : PlacedTree) (parents : List (ℕ × Row)) (phandles : List (ℕ × ℕ)) (open_nodes new : List ℕ) (count : ℕ) (steps rest : List Step) → (f : IsFilled t parents phandles open_nodes count steps) → (w : IsWalked t new rest) → w.before ≡ f.walked.before
    → IsFilled t parents phandles new count rest
past_another t parents phandles open_nodes new count steps rest f w same = record {
  walked = w;
  above = subst (λ ns. AreParents t ns parents) (sym same) f.above;
  numbered = subst (λ ns. ArePhandles t ns phandles) (sym same) f.numbered;
  counted = f.counted ∙ ap length (sym same);
}

-- a walk through the nodes alone fills them as well
pub nodes_filled : (t : PlacedTree) (parents : List (ℕ × Row)) (phandles : List (ℕ × ℕ)) (open_nodes : List ℕ) (count : ℕ) (steps : List Step) → IsFilled t parents phandles open_nodes count steps
    → IsFilled t parents phandles open_nodes count (without_properties steps)
nodes_filled t parents phandles open_nodes count steps f =
    past_another t parents phandles open_nodes open_nodes count steps (without_properties steps) f (nodes_walked t open_nodes steps f.walked) refl

-- at the end the tables have all nodes
pub record AreAllFilled (t : PlacedTree) (parents : List (ℕ × Row)) (phandles : List (ℕ × ℕ)) (count : ℕ) : Type 0 where
  pub above : AreParents t (nodes_of (reading_of t)) parents
  pub numbered : ArePhandles t (nodes_of (reading_of t)) phandles
  pub counted : count ≡ length (nodes_of (reading_of t))

pub all_filled : (t : PlacedTree) (parents : List (ℕ × Row)) (phandles : List (ℕ × ℕ)) (open_nodes : List ℕ) (count : ℕ) (steps : List Step) → IsFilled t parents phandles open_nodes count steps → steps ≡ [] → AreAllFilled t parents phandles count
all_filled t parents phandles open_nodes count steps f e =
    let none : f.walked.nodes ≡ [] = none_opened t f.walked.before f.walked.nodes (subst (AreOpened t f.walked.before f.walked.nodes) e f.walked.are) in
    let all : nodes_of (reading_of t) ≡ f.walked.before = f.walked.are.whole ∙ ap (λ ns. f.walked.before ++ ns) none ∙ append-nil f.walked.before in
    record {
      above = subst (λ ns. AreParents t ns parents) (sym all) f.above;
      numbered = subst (λ ns. ArePhandles t ns phandles) (sym all) f.numbered;
      counted = f.counted ∙ ap length (sym all);
    }
