-- The place of a row, as the rows of its node have it, and as the index has it.
use Rattle.std.proofs.Common.{◌≡◌, ℕ, zero, suc, ◌-◌, Bool, true, false, ◌&&◌, cond, eqb, List, [], ◌∷◌, ◌++◌, length, drop, get_or, Option, Some, None, option_map, refl, sym, ap, ◌∙◌, true≢false, arith}
use Rattle.std.specs.Prelude.{nat_eq}
use Rattle.std.proofs.lemmas.Bool.{eqb-true, eq-eqb}
use Rattle.dt_flat.specs.Chain.{ranks}
use Rattle.dt_flat.specs.Rows.{Row, nodes_of, is_row, place_of, place_among, entry, IsIndexOf, PutsRow}

eqb-flip : (a b : ℕ) → eqb a b ≡ eqb b a
eqb-flip a b = by (eqb a b) (eqb b a) refl refl
  where
    by : (t u : Bool) → eqb a b ≡ t → eqb b a ≡ u → t ≡ u
    by true true s r = refl
    by false false s r = refl
    by true false s r = let e : eqb b a ≡ true = eq-eqb b a (sym (eqb-true a b s)) in cc
    by false true s r = let e : eqb a b ≡ true = eq-eqb a b (sym (eqb-true b a r)) in cc

-- ---- places from one on

-- the place of the row of the node p and the name k, where the first of these rows has place i
abbrev pub place_from : ℕ → ℕ → ℕ → List Row → Option ℕ
place_from i p k [] = None
place_from i p k (r ∷ rs) = cond (is_row p k r) (Some i) (place_from (suc i) p k rs)

from-suc : (i p k : ℕ) (rs : List Row) → place_from (suc i) p k rs ≡ option_map suc (place_from i p k rs)
from-suc i p k [] = refl
from-suc i p k (r ∷ rs) = by (is_row p k r) (from-suc (suc i) p k rs)
  where
    by : (b : Bool) → place_from (suc (suc i)) p k rs ≡ option_map suc (place_from (suc i) p k rs)
        → cond b (Some (suc i)) (place_from (suc (suc i)) p k rs) ≡ option_map suc (cond b (Some i) (place_from (suc i) p k rs))
    by true h = refl
    by false h = h

pub from-first : (p k : ℕ) (rs : List Row) → place_from 0 p k rs ≡ place_of p k rs
from-first p k [] = refl
from-first p k (r ∷ rs) = ap (λ (o : Option ℕ). cond (is_row p k r) (Some 0) o) (from-suc 0 p k rs ∙ ap (λ (o : Option ℕ). option_map suc o) (from-first p k rs))

-- ---- by the rows of the node

drop-row : (i : ℕ) (whole : List Row) (r : Row) (rs : List Row) → drop i whole ≡ r ∷ rs → drop (suc i) whole ≡ rs
drop-row zero [] r rs e = cc
drop-row zero (x ∷ xs) r rs e = cc
drop-row (suc i) [] r rs e = cc
drop-row (suc i) (x ∷ xs) r rs e = drop-row i xs r rs e

row-first : (i : ℕ) (whole : List Row) (r d : Row) (rs : List Row) → drop i whole ≡ r ∷ rs → get_or whole i d ≡ r
row-first zero [] r d rs e = cc
row-first zero (x ∷ xs) r d rs e = cc
row-first (suc i) [] r d rs e = cc
row-first (suc i) (x ∷ xs) r d rs e = row-first i xs r d rs e

among-from : (whole : List Row) (i : ℕ) (rs : List Row) (p k : ℕ) → drop i whole ≡ rs → place_among k whole (ranks (suc i) (nodes_of rs) p) ≡ place_from i p k rs
among-from whole i [] p k is = refl
among-from whole i (r ∷ rs) p k is = by (eqb r.0 p) (eqb-flip p r.0) (among-from whole (suc i) rs p k (drop-row i whole r rs is))
  where
    at : suc i - 1 ≡ i
    at = omega arith

    first : get_or whole (suc i - 1) (0, 0) ≡ r
    first = ap (λ (n : ℕ). get_or whole n (0, 0)) at ∙ row-first i whole r (0, 0) rs is

    by : (b : Bool) → eqb p r.0 ≡ b → place_among k whole (ranks (suc (suc i)) (nodes_of rs) p) ≡ place_from (suc i) p k rs
        → place_among k whole (cond b (suc i ∷ ranks (suc (suc i)) (nodes_of rs) p) (ranks (suc (suc i)) (nodes_of rs) p)) ≡ cond (nat_eq p r.0 && nat_eq k r.1) (Some i) (place_from (suc i) p k rs)
    by true e rest =
        (λ j. cond (nat_eq k (first j).1) (Some (at j)) (rest j)) ∙ ap (λ (b : Bool). cond (b && nat_eq k r.1) (Some i) (place_from (suc i) p k rs)) (sym e)
    by false e rest = rest ∙ ap (λ (b : Bool). cond (b && nat_eq k r.1) (Some i) (place_from (suc i) p k rs)) (sym e)

-- a walk over the node's rows finds the row
pub among-place : (rs : List Row) (p k : ℕ) → place_among k rs (ranks 1 (nodes_of rs) p) ≡ place_of p k rs
among-place rs p k = among-from rs 0 rs p k refl ∙ from-first p k rs

-- ---- by the index

-- whether a row is meant, asked the other way round
pub row-flip : (p k : ℕ) (r : Row) → (nat_eq r.0 p && nat_eq r.1 k) ≡ is_row p k r
row-flip p k r = λ i. eqb-flip r.0 p i && eqb-flip r.1 k i

-- one row more is hashed, the last first
pub hashed-row : (rs : List Row) (i : ℕ) (r : Row) (old new : List (Row × ℕ)) → drop i rs ≡ r ∷ drop (suc i) rs → ((p k : ℕ) → entry old p k ≡ place_from (suc i) p k (drop (suc i) rs)) → PutsRow old new r i
    → (p k : ℕ) → entry new p k ≡ place_from i p k (drop i rs)
hashed-row rs i r old new is had put p k = put p k ∙ ap (λ (o : Option ℕ). cond (is_row p k r) (Some i) o) (had p k) ∙ ap (place_from i p k) (sym is)

row-is : (p k q j : ℕ) → is_row q j (p, k) ≡ true → (q ≡ p) × (j ≡ k)
row-is p k q j e = by (nat_eq q p) (nat_eq j k) refl refl e
  where
    by : (t u : Bool) → nat_eq q p ≡ t → nat_eq j k ≡ u → (t && u) ≡ true → (q ≡ p) × (j ≡ k)
    by true true s r h = (eqb-true q p s, eqb-true j k r)
    by true false s r h = cc
    by false u s r h = cc

pub place-push : (q j : ℕ) (rs : List Row) (r : Row) → (is_row q j r ≡ true → place_of q j rs ≡ None) → place_of q j (rs ++ r ∷ []) ≡ cond (is_row q j r) (Some (length rs)) (place_of q j rs)
place-push q j [] r none = refl
place-push q j (x ∷ xs) r none = by (is_row q j x) (is_row q j r) none (place-push q j xs r)
  where
    inner : (o : Option ℕ) → option_map suc o ≡ None → o ≡ None
    inner None e = refl
    inner (Some n) e = cc

    by : (a c : Bool) → (c ≡ true → cond a (Some 0) (option_map suc (place_of q j xs)) ≡ None)
        → ((c ≡ true → place_of q j xs ≡ None) → place_of q j (xs ++ r ∷ []) ≡ cond c (Some (length xs)) (place_of q j xs))
        → cond a (Some 0) (option_map suc (place_of q j (xs ++ r ∷ []))) ≡ cond c (Some (suc (length xs))) (cond a (Some 0) (option_map suc (place_of q j xs)))
    by true true n rec = let e : cond true (Some 0) (option_map suc (place_of q j xs)) ≡ None = n refl in cc
    by true false n rec = refl
    by false true n rec = ap (λ (o : Option ℕ). option_map suc o) (rec (λ e. inner (place_of q j xs) (n e)))
    by false false n rec = ap (λ (o : Option ℕ). option_map suc o) (rec (λ e. absurd (true≢false (sym e))))

-- the index with a row that wasn't there
pub index-push : (rs : List Row) (p k : ℕ) (old new : List (Row × ℕ)) → place_of p k rs ≡ None → IsIndexOf rs old → PutsRow old new (p, k) (length rs) → IsIndexOf (rs ++ (p, k) ∷ []) new
index-push rs p k old new none had put q j =
    put q j ∙ ap (λ (o : Option ℕ). cond (is_row q j (p, k)) (Some (length rs)) o) (had q j)
    ∙ sym (place-push q j rs (p, k) (λ e. let same = row-is p k q j e in (λ i. place_of (same.0 i) (same.1 i) rs) ∙ none))

-- the index from which that row was taken again
pub index-undone : (rs : List Row) (p k : ℕ) (old mid new : List (Row × ℕ)) (place : ℕ) → place_of p k rs ≡ None → IsIndexOf rs old → PutsRow old mid (p, k) place
    → ((q j : ℕ) → entry new q j ≡ cond (is_row q j (p, k)) None (entry mid q j)) → IsIndexOf rs new
index-undone rs p k old mid new place none had put taken q j = by (is_row q j (p, k)) refl (taken q j) (put q j)
  where
    by : (b : Bool) → is_row q j (p, k) ≡ b → entry new q j ≡ cond b None (entry mid q j) → entry mid q j ≡ cond b (Some place) (entry old q j) → entry new q j ≡ place_of q j rs
    by true e t m = let same = row-is p k q j e in t ∙ sym none ∙ (λ i. place_of (sym same.0 i) (sym same.1 i) rs)
    by false e t m = t ∙ m ∙ had q j
