-- A walk through a tree, step by step, with the nodes that are open.
use Rattle.std.proofs.Common.{◌≡◌, ◌≢◌, ℕ, suc, ◌+◌, ◌-◌, ◌<◌, ◌≤◌, ◌==◌, Bool, true, false, cond, List, [], ◌∷◌, ◌++◌, drop, length, map, Option, Some, None, refl, sym, ap, subst, ◌∙◌, inl, inr, arith}
use Rattle.std.specs.Option.{MatchOption}
use Rattle.std.proofs.lemmas.Bool.{eqb-true, eq-eqb}
use Rattle.std.proofs.lemmas.List.{length-drop}
use Rattle.dt_model.specs.Limits.{most_bodies}
use Rattle.dt_model.specs.Lists.{IsIn}
use Rattle.dt_model.specs.Names.{Name}
use Rattle.dt_model.specs.Tree.{Placed, Property, nodes_of}
use Rattle.dt_model.specs.Valid.{IsValid, IsWithinLimits, AreDistinct}
use Rattle.dt_model.proofs.Tests.{each_in}
use Rattle.dt_model.specs.Path.{Path}
use Rattle.dt_trees.specs.Placed.{PlacedTree, path_at, reading_of, IsNode, HasPlacesApart}
use Rattle.dt_read.specs.Walked.{Step, opens, holds, closes, steps_of, without_properties}
use Rattle.dt_trees.proofs.NodePlaces.{at_node}
use Rattle.dt_resolve_model.specs.Above.{front}
use Rattle.dt_trees.specs.Views.{IsAbove, AreAbove}
use Rattle.dt_read.proofs.Opened.{innermost, parent_told, AreFew, opened, AreOpened}
use Rattle.dt_read.proofs.Openings.{OpensNext, all_opened, all_apart, next_opened}
use Rattle.dt_read.proofs.Parents.{parent_is_above}
use Rattle.dt_read.proofs.Places.{node_is_opened, opened_later}
use Rattle.dt_read.proofs.FewOpen.{few_open}

-- some nodes were opened, the steps open the others, and tell of each of them what the whole walk tells
pub record IsWalked (t : PlacedTree) (open_nodes : List ℕ) (steps : List Step) : Type 0 where
  pub before : List Placed
  pub nodes : List Placed
  pub are : AreOpened t before nodes steps
  pub apart : AreDistinct (opened steps)
  pub told : (k : ℕ) → IsIn k (opened steps) → parent_told k open_nodes steps ≡ parent_told k [] (steps_of t)
  pub few : AreFew (length open_nodes) steps

-- nothing was opened
abbrev pub not_walked : (t : PlacedTree) → IsValid (reading_of t) → IsWithinLimits (reading_of t) → HasPlacesApart t → IsWalked t [] (steps_of t)
not_walked t valid within places = record {
  before = [];
  nodes = nodes_of (reading_of t);
  are = all_opened t valid;
  apart = all_apart t valid places;
  told = λ k i. refl;
  few = few_open t within;
}

-- ---- a node begins

module _ (t : PlacedTree) (open_nodes : List ℕ) (k : ℕ) (name : Name) (steps rest : List Step) (walked : IsWalked t open_nodes steps) (e : steps ≡ opens k name ∷ rest) where
  abbrev pub next_walked : OpensNext t walked.before walked.nodes k rest
  next_walked = next_opened t walked.before walked.nodes k name rest (subst (AreOpened t walked.before walked.nodes) e walked.are)

  pub walked_node : HasPlacesApart t → IsNode t k
  walked_node places = at_node t places next_walked.first.path k next_walked.at

  pub room_walked : length open_nodes < most_bodies
  room_walked = (subst (AreFew (length open_nodes)) e walked.few).0

  pub told' : (j : ℕ) → IsIn j (opened (opens k name ∷ rest)) → parent_told j open_nodes (opens k name ∷ rest) ≡ parent_told j [] (steps_of t)
  told' j i = ap (parent_told j open_nodes) (sym e) ∙ walked.told j (subst (λ s. IsIn j (opened s)) (sym e) i)

  -- the innermost open node is the one above it
  pub above_walked : IsValid (reading_of t) → HasPlacesApart t → IsAbove t k (innermost open_nodes)
  above_walked valid places =
      let is : innermost open_nodes ≡ parent_told k [] (steps_of t) = sym (ap (λ b. cond b (innermost open_nodes) (parent_told k (k ∷ open_nodes) rest)) (eq-eqb k k refl)) ∙ told' k (inl refl) in
      subst (IsAbove t k) (sym is) (parent_is_above t k valid places (walked_node places))

  abbrev pub one_walked : IsWalked t (k ∷ open_nodes) rest
  one_walked = record {
    before = walked.before ++ next_walked.first ∷ [];
    nodes = next_walked.later;
    are = next_walked.left;
    apart = (subst (λ s. AreDistinct (opened s)) e walked.apart).1;
    told = told;
    few = (subst (AreFew (length open_nodes)) e walked.few).1;
  }
    where
      other : (j : ℕ) → IsIn j (opened rest) → j ≢ k
      other j i = each_in (λ z. z ≢ k) (opened rest) j (subst (λ s. AreDistinct (opened s)) e walked.apart).0 i

      unequal : (a b : ℕ) → a ≢ b → (b == a) ≡ false
      unequal a b ne = by (b == a) refl
        where
          by : (u : Bool) → (b == a) ≡ u → u ≡ false
          by true is = absurd (ne (sym (eqb-true b a is)))
          by false is = refl

      told : (j : ℕ) → IsIn j (opened rest) → parent_told j (k ∷ open_nodes) rest ≡ parent_told j [] (steps_of t)
      told j i = sym (ap (λ b. cond b (innermost open_nodes) (parent_told j (k ∷ open_nodes) rest)) (unequal j k (other j i))) ∙ told' j (inr i)

-- ---- a property, or a node's end

abbrev pub another_walked : (t : PlacedTree) (open_nodes new : List ℕ) (steps rest : List Step) → IsWalked t open_nodes steps → opened steps ≡ opened rest → ((k : ℕ) → parent_told k open_nodes steps ≡ parent_told k new rest)
    → (AreFew (length open_nodes) steps → AreFew (length new) rest) → IsWalked t new rest
another_walked t open_nodes new steps rest walked same told few = record {
  before = walked.before;
  nodes = walked.nodes;
  are = record { whole = walked.are.whole; places = walked.are.places ∙ ap (map (λ k. Some k)) same };
  apart = subst AreDistinct same walked.apart;
  told = λ k i. sym (told k) ∙ walked.told k (subst (IsIn k) (sym same) i);
  few = few walked.few;
}

abbrev pub property_walked : (t : PlacedTree) (open_nodes : List ℕ) (p : Property) (steps rest : List Step) → IsWalked t open_nodes steps → steps ≡ holds p ∷ rest → IsWalked t open_nodes rest
property_walked t open_nodes p steps rest walked e =
    another_walked t open_nodes open_nodes steps rest walked (ap opened e) (λ k. ap (parent_told k open_nodes) e) (λ few. subst (AreFew (length open_nodes)) e few)

-- ---- a walk through the nodes alone

pub opened_without : (steps : List Step) → opened steps ≡ opened (without_properties steps)
opened_without [] = refl
opened_without (opens place name ∷ steps) = ap (λ (ks : List ℕ). place ∷ ks) (opened_without steps)
opened_without (holds p ∷ steps) = opened_without steps
opened_without (closes ∷ steps) = opened_without steps

pub told_without : (k : ℕ) (open_nodes : List ℕ) (steps : List Step) → parent_told k open_nodes steps ≡ parent_told k open_nodes (without_properties steps)
told_without k open_nodes [] = refl
told_without k open_nodes (opens place name ∷ steps) = ap (λ (told : Option ℕ). cond (place == k) (innermost open_nodes) told) (told_without k (place ∷ open_nodes) steps)
told_without k open_nodes (holds p ∷ steps) = told_without k open_nodes steps
told_without k open_nodes (closes ∷ steps) = told_without k (drop 1 open_nodes) steps

pub few_without : (count : ℕ) (steps : List Step) → AreFew count steps → AreFew count (without_properties steps)
few_without count [] few = tt
few_without count (opens place name ∷ steps) few = (few.0, few_without (suc count) steps few.1)
few_without count (holds p ∷ steps) few = few_without count steps few
few_without count (closes ∷ steps) few = few_without (count - 1) steps few

pub nodes_opened : (t : PlacedTree) (before nodes : List Placed) (steps : List Step) → AreOpened t before nodes steps → AreOpened t before nodes (without_properties steps)
nodes_opened t before nodes steps are = record { whole = are.whole; places = are.places ∙ ap (map (λ k. Some k)) (opened_without steps) }

abbrev pub nodes_walked : (t : PlacedTree) (open_nodes : List ℕ) (steps : List Step) → IsWalked t open_nodes steps → IsWalked t open_nodes (without_properties steps)
nodes_walked t open_nodes steps walked =
    another_walked t open_nodes open_nodes steps (without_properties steps) walked (opened_without steps) (λ k. told_without k open_nodes steps) (few_without (length open_nodes) steps)

abbrev pub end_walked : (t : PlacedTree) (open_nodes new : List ℕ) (steps rest : List Step) → IsWalked t open_nodes steps → steps ≡ closes ∷ rest → new ≡ drop 1 open_nodes → IsWalked t new rest
end_walked t open_nodes new steps rest walked e is =
    another_walked t open_nodes new steps rest walked (ap opened e) (λ k. ap (parent_told k open_nodes) e ∙ ap (λ ks. parent_told k ks rest) (sym is))
    (λ few. subst (λ ks. AreFew (length ks) rest) (sym is) (subst (λ n. AreFew n rest) (sym (length-drop 1 open_nodes)) (subst (AreFew (length open_nodes)) e few)))

-- ---- up to a node

pub is_innermost : (r : Option ℕ) (open_nodes : List ℕ) → MatchOption r (open_nodes ≡ []) (λ k. open_nodes ≡ k ∷ drop 1 open_nodes) → r ≡ innermost open_nodes
is_innermost None open_nodes h = sym (ap innermost h)
is_innermost (Some k) open_nodes h = sym (ap innermost h)

-- each of some nodes is above the one in front of it
abbrev AreOneAboveTheOther : PlacedTree → List ℕ → Type 0
AreOneAboveTheOther t [] = Unit {0}
AreOneAboveTheOther t (k ∷ ks) = AreAbove t k ks

pub first_above : (t : PlacedTree) (node : ℕ) (above : List ℕ) → AreAbove t node above → IsAbove t node (innermost above)
first_above t node [] h = h
first_above t node (a ∷ above) h = h.0

all_above : (t : PlacedTree) (node : ℕ) (above : List ℕ) → IsAbove t node (innermost above) → AreOneAboveTheOther t above → AreAbove t node above
all_above t node [] first more = first
all_above t node (a ∷ above) first more = (first, more)

fewer_above : (t : PlacedTree) (ks : List ℕ) → AreOneAboveTheOther t ks → AreOneAboveTheOther t (drop 1 ks)
fewer_above t [] h = tt
fewer_above t (k ∷ []) h = tt
fewer_above t (k ∷ a ∷ ks) h = h.1

-- the node is still to come
pub record IsAhead (t : PlacedTree) (node : ℕ) (open_nodes : List ℕ) (steps : List Step) : Type 0 where
  pub walked : IsWalked t open_nodes steps
  pub above : AreOneAboveTheOther t open_nodes
  pub ahead : IsIn node (opened steps)

pub is_ahead : (t : PlacedTree) (node : ℕ) → IsValid (reading_of t) → IsWithinLimits (reading_of t) → HasPlacesApart t → IsNode t node → IsAhead t node [] (without_properties (steps_of t))
is_ahead t node valid within places is = record {
  walked = nodes_walked t [] (steps_of t) (not_walked t valid within places);
  above = tt;
  ahead = subst (IsIn node) (opened_without (steps_of t)) (node_is_opened t node valid is);
}

module _ (t : PlacedTree) (node : ℕ) (valid : IsValid (reading_of t)) (places : HasPlacesApart t) (open_nodes : List ℕ) (steps rest : List Step) (h : IsAhead t node open_nodes steps) where
  pub at_beginning : (here : ℕ) (name : Name) → steps ≡ opens here name ∷ rest → AreAbove t here open_nodes
  at_beginning here name e = all_above t here open_nodes (above_walked t open_nodes here name steps rest h.walked e valid places) h.above

  pub past_beginning : (here : ℕ) (name : Name) (new : List ℕ) → steps ≡ opens here name ∷ rest → here ≢ node → new ≡ here ∷ open_nodes → IsAhead t node new rest
  past_beginning here name new e other is = subst (λ ks. IsAhead t node ks rest) (sym is) (record {
    walked = one_walked t open_nodes here name steps rest h.walked e;
    above = at_beginning here name e;
    ahead = opened_later node here (opened rest) other (subst (λ s. IsIn node (opened s)) e h.ahead);
  })

  pub past_end : (new : List ℕ) → steps ≡ closes ∷ rest → new ≡ drop 1 open_nodes → IsAhead t node new rest
  past_end new e is = record {
    walked = end_walked t open_nodes new steps rest h.walked e is;
    above = subst (AreOneAboveTheOther t) (sym is) (fewer_above t open_nodes h.above);
    ahead = subst (λ s. IsIn node (opened s)) e h.ahead;
  }

-- ---- the node one level up

-- there are as many above a node as its path has names
pub as_many_above : (t : PlacedTree) (node : ℕ) (above : List ℕ) → AreAbove t node above → length above ≡ length (path_at t node)
as_many_above t node [] h = sym (ap length h)
as_many_above t node (a ∷ above) h = ap suc (as_many_above t a above h.1 ∙ ap length h.0.1) ∙ longer (path_at t node) h.0.2
  where
    longer : (p : Path) → p ≢ [] → suc (length (front p)) ≡ length p
    longer [] some = absurd (some refl)
    longer (x ∷ []) some = refl
    longer (x ∷ y ∷ p) some = ap suc (longer (y ∷ p) (λ e. absurd cc))

-- what is kept is the open node of a level, where so many are open
abbrev pub IsAtLevel : ℕ → Option ℕ → List ℕ → Type 0
IsAtLevel level kept open_nodes = level ≤ length open_nodes → kept ≡ innermost (drop (length open_nodes - level) open_nodes)

pub none_at_level : (level : ℕ) → IsAtLevel level None []
none_at_level level le = let e : 0 - level ≡ 0 = omega arith in rw e refl

pub here_at_level : (level here : ℕ) (open_nodes : List ℕ) → suc (length open_nodes) ≡ level → IsAtLevel level (Some here) (here ∷ open_nodes)
here_at_level level here open_nodes is le = let e : suc (length open_nodes) - level ≡ 0 = omega arith in rw e refl

pub still_at_level : (level here : ℕ) (kept : Option ℕ) (open_nodes : List ℕ) → suc (length open_nodes) ≢ level → IsAtLevel level kept open_nodes → IsAtLevel level kept (here ∷ open_nodes)
still_at_level level here kept open_nodes other at le = let e : suc (length open_nodes) - level ≡ suc (length open_nodes - level) = omega arith in rw e (at (omega arith))

pub left_at_level : (level : ℕ) (kept : Option ℕ) (open_nodes : List ℕ) → IsAtLevel level kept open_nodes → IsAtLevel level kept (drop 1 open_nodes)
left_at_level level kept [] at le = at le
left_at_level level kept (here ∷ open_nodes) at le = let e : suc (length open_nodes) - level ≡ suc (length open_nodes - level) = omega arith in subst (λ n. kept ≡ innermost (drop n (here ∷ open_nodes))) e (at (omega arith))

pub innermost_at_level : (level : ℕ) (kept : Option ℕ) (open_nodes : List ℕ) → length open_nodes ≡ level → IsAtLevel level kept open_nodes → kept ≡ innermost open_nodes
innermost_at_level level kept open_nodes is at = let e : length open_nodes - level ≡ 0 = omega arith in subst (λ n. kept ≡ innermost (drop n open_nodes)) e (at (omega arith))

-- a walk up to a node that counts the open ones
pub record IsCounted (t : PlacedTree) (node depth : ℕ) (steps : List Step) : Type 0 where
  pub open_nodes : List ℕ
  pub ahead : IsAhead t node open_nodes steps
  pub count : depth ≡ length open_nodes

-- and keeps the one of a level
pub record IsKept (t : PlacedTree) (node level depth : ℕ) (kept : Option ℕ) (steps : List Step) : Type 0 where
  pub counted : IsCounted t node depth steps
  pub at : IsAtLevel level kept counted.open_nodes

-- nothing was opened
pub is_counted : (t : PlacedTree) (node : ℕ) → IsValid (reading_of t) → IsWithinLimits (reading_of t) → HasPlacesApart t → IsNode t node → IsCounted t node 0 (without_properties (steps_of t))
is_counted t node valid within places is = record { open_nodes = []; ahead = is_ahead t node valid within places is; count = refl }

pub is_kept : (t : PlacedTree) (node level : ℕ) → IsValid (reading_of t) → IsWithinLimits (reading_of t) → HasPlacesApart t → IsNode t node → IsKept t node level 0 None (without_properties (steps_of t))
is_kept t node level valid within places is = record { counted = record { open_nodes = []; ahead = is_ahead t node valid within places is; count = refl }; at = none_at_level level }

module _ (t : PlacedTree) (node : ℕ) (valid : IsValid (reading_of t)) (places : HasPlacesApart t) (depth : ℕ) (steps rest : List Step) where
  pub room_counted : (here : ℕ) (name : Name) → IsCounted t node depth steps → steps ≡ opens here name ∷ rest → depth < most_bodies
  room_counted here name h e = subst (λ n. n < most_bodies) (sym h.count) (room_walked t h.open_nodes here name steps rest h.ahead.walked e)

  pub at_node_counted : (name : Name) → IsCounted t node depth steps → steps ≡ opens node name ∷ rest → depth ≡ length (path_at t node)
  at_node_counted name h e = h.count ∙ as_many_above t node h.open_nodes (at_beginning t node valid places h.open_nodes steps rest h.ahead node name e)

  abbrev pub begun_counted : (here : ℕ) (name : Name) → IsCounted t node depth steps → steps ≡ opens here name ∷ rest → here ≢ node → IsCounted t node (depth + 1) rest
  begun_counted here name h e other = record {
    open_nodes = here ∷ h.open_nodes;
    ahead = past_beginning t node valid places h.open_nodes steps rest h.ahead here name (here ∷ h.open_nodes) e other refl;
    count = let c = h.count in omega arith;
  }

  abbrev pub ended_counted : IsCounted t node depth steps → steps ≡ closes ∷ rest → IsCounted t node (depth - 1) rest
  ended_counted h e = record {
    open_nodes = drop 1 h.open_nodes;
    ahead = past_end t node valid places h.open_nodes steps rest h.ahead (drop 1 h.open_nodes) e refl;
    count = ap (λ n. n - 1) h.count ∙ sym (length-drop 1 h.open_nodes);
  }

  pub at_node_kept : (level : ℕ) (kept : Option ℕ) (name : Name) → IsKept t node level depth kept steps → level ≡ length (path_at t node) → steps ≡ opens node name ∷ rest → IsAbove t node kept
  at_node_kept level kept name h is e =
      let above = at_beginning t node valid places h.counted.open_nodes steps rest h.counted.ahead node name e in
      subst (IsAbove t node) (sym (innermost_at_level level kept h.counted.open_nodes (as_many_above t node h.counted.open_nodes above ∙ sym is) h.at)) (first_above t node h.counted.open_nodes above)

  pub begun_kept : (level : ℕ) (kept : Option ℕ) (here : ℕ) (name : Name) → IsKept t node level depth kept steps → steps ≡ opens here name ∷ rest → here ≢ node → depth + 1 ≢ level → IsKept t node level (depth + 1) kept rest
  begun_kept level kept here name h e other differs = record {
    counted = begun_counted here name h.counted e other;
    at = still_at_level level here kept h.counted.open_nodes (λ same. differs (let c = h.counted.count in omega arith)) h.at;
  }

  pub begun_here_kept : (level : ℕ) (kept : Option ℕ) (here : ℕ) (name : Name) → IsKept t node level depth kept steps → steps ≡ opens here name ∷ rest → here ≢ node → depth + 1 ≡ level → IsKept t node level (depth + 1) (Some here) rest
  begun_here_kept level kept here name h e other same = record {
    counted = begun_counted here name h.counted e other;
    at = here_at_level level here h.counted.open_nodes (let c = h.counted.count in omega arith);
  }

  pub ended_kept : (level : ℕ) (kept : Option ℕ) → IsKept t node level depth kept steps → steps ≡ closes ∷ rest → IsKept t node level (depth - 1) kept rest
  ended_kept level kept h e = record {
    counted = ended_counted h.counted e;
    at = left_at_level level kept h.counted.open_nodes h.at;
  }
