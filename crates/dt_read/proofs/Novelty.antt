-- Lists in which no two are the same, one element after another.
use Rattle.std.proofs.Common.{◌↔◌, ◌≡◌, ◌≢◌, ℕ, true, false, zero, suc, ◌+◌, ◌<◌, ◌≤◌, arith, inl, inr}
use Rattle.std.proofs.Common.{List, [], ◌∷◌, take, drop, Some, refl, sym, ap, subst, ◌∙◌}
use Rattle.std.specs.Prelude.{IsTrue}
use Rattle.std.proofs.lemmas.Bool.{false≢true, cases_lt}
use Rattle.std.proofs.lemmas.List.{drop-drop}
use Rattle.std.proofs.lemmas.Option.{same_Some}
use Rattle.std.specs.List.{AllByRecursion, slice_get}
use Rattle.dt_model.specs.Lists.{IsIn}
use Rattle.dt_model.specs.Valid.{AreDistinct}

-- ---- elements

-- what is no element differs from each
pub not_in : {X : Type 0} (x : X) (ys : List X) → ¬ IsIn x ys → AllByRecursion (λ y. y ≢ x) ys
not_in x [] h = tt
not_in x (y ∷ ys) h = (λ e. h (inl (sym e)), not_in x ys (λ i. h (inr i)))

-- ---- a walk over the first elements: what is left decides as the whole does

pub among_here : {X : Type 0} (x y : X) (all rest : List X) (j : ℕ) (whole : Type 0) → all ≡ y ∷ rest → x ≡ y
    → (IsIn x (take (suc j) all) ↔ whole) → (IsTrue true ↔ whole)
among_here x y all rest j whole e same so_far = (λ t. so_far.0 (subst (λ (l : List _). IsIn x (take (suc j) l)) (sym e) (inl same)), λ w. refl)

pub among_further : {X : Type 0} (x y : X) (all rest : List X) (j : ℕ) (whole : Type 0) → all ≡ y ∷ rest → ¬ (x ≡ y)
    → (IsIn x (take (suc j) all) ↔ whole) → (IsIn x (take j rest) ↔ whole)
among_further x y all rest j whole e other so_far = (
  λ i. so_far.0 (subst (λ (l : List _). IsIn x (take (suc j) l)) (sym e) (inr i)),
  λ w. elim (subst (λ (l : List _). IsIn x (take (suc j) l)) e (so_far.1 w)) [ inl same ↦ absurd (other same) | inr i ↦ i ],
)

pub among_none : {X : Type 0} (x : X) (all : List X) (j : ℕ) (whole : Type 0) → all ≡ [] → (IsIn x (take j all) ↔ whole) → (IsTrue false ↔ whole)
among_none x all zero whole e so_far = (λ t. absurd (false≢true t), λ w. absurd (so_far.1 w))
among_none x all (suc j) whole e so_far = (λ t. absurd (false≢true t), λ w. absurd (subst (λ (l : List _). IsIn x (take (suc j) l)) e (so_far.1 w)))

pub among_end : {X : Type 0} (x : X) (all : List X) (whole : Type 0) → (IsIn x (take 0 all) ↔ whole) → (IsTrue false ↔ whole)
among_end x all whole so_far = (λ t. absurd (false≢true t), λ w. absurd (so_far.1 w))

-- ---- places

-- what holds at each of the first places
pub all_taken : {X : Type 0} (P : X → Type 0) (xs : List X) (n : ℕ)
    → ((i : ℕ) (x : X) → i < n → slice_get xs i ≡ Some x → P x) → AllByRecursion P (take n xs)
all_taken P xs zero h = tt
all_taken P [] (suc n) h = tt
all_taken P (x ∷ xs) (suc n) h = (h 0 x (omega arith) refl, all_taken P xs n (λ i y lt is. h (suc i) y (omega arith) is))

pub all_at : {X : Type 0} (P : X → Type 0) (xs : List X) (i : ℕ) (x : X) → AllByRecursion P xs → slice_get xs i ≡ Some x → P x
all_at P [] i x a is = absurd cc
all_at P (y ∷ xs) zero x a is = let same : y ≡ x = same_Some y x is in subst P same a.0
all_at P (y ∷ xs) (suc i) x a is = all_at P xs i x a.1 is

pub all_by_place : {X : Type 0} (P : X → Type 0) (xs : List X) → ((i : ℕ) (x : X) → slice_get xs i ≡ Some x → P x) → AllByRecursion P xs
all_by_place P [] h = tt
all_by_place P (x ∷ xs) h = (h 0 x refl, all_by_place P xs (λ i y is. h (suc i) y is))

-- the element at a place is the first behind it
pub at_drop : {X : Type 0} (xs : List X) (n : ℕ) (x : X) (rest : List X) → drop n xs ≡ x ∷ rest → slice_get xs n ≡ Some x
at_drop [] zero x rest e = absurd cc
at_drop [] (suc n) x rest e = absurd cc
at_drop (y ∷ xs) zero x rest e = let same : y ≡ x = cc in ap Some same
at_drop (y ∷ xs) (suc n) x rest e = at_drop xs n x rest e

pub drop_next : {X : Type 0} (xs : List X) (n : ℕ) (x : X) (rest : List X) → drop n xs ≡ x ∷ rest → drop (n + 1) xs ≡ rest
drop_next xs n x rest e = sym (drop-drop 1 n xs) ∙ ap (drop 1) e

-- ---- lists whose elements differ

-- an element that is equal to an earlier one
pub equal_earlier : {X : Type 0} (xs : List X) (n : ℕ) (x : X) → slice_get xs n ≡ Some x → IsIn x (take n xs) → ¬ AreDistinct xs
equal_earlier [] zero x is i d = i
equal_earlier [] (suc n) x is i d = i
equal_earlier (y ∷ xs) zero x is i d = i
equal_earlier (y ∷ xs) (suc n) x is i d =
    elim i [
      | inl e ↦ all_at (λ z. z ≢ y) xs n x d.0 is e
      | inr i ↦ equal_earlier xs n x is i d.1
    ]

-- each element is new at its place
pub distinct_by_place : {X : Type 0} (xs : List X)
    → ((i : ℕ) (x : X) → slice_get xs i ≡ Some x → AllByRecursion (λ other. other ≢ x) (take i xs)) → AreDistinct xs
distinct_by_place [] h = tt
distinct_by_place (x ∷ xs) h =
    (all_by_place (λ y. y ≢ x) xs (λ i y is e. (h (suc i) y is).0 (sym e)), distinct_by_place xs (λ i y is. (h (suc i) y is).1))

-- ---- elements of a kind that are new at the first places, and held

pub record AreNew {X : Type 0} (Is Held : X → Type 0) (xs : List X) (n : ℕ) : Type 0 where
  pub held : (i : ℕ) (x : X) → i < n → slice_get xs i ≡ Some x → Is x → Held x
  pub new : (i : ℕ) (x : X) → i < n → slice_get xs i ≡ Some x → Is x → AllByRecursion (λ other. other ≢ x) (take i xs)

-- one of another kind
pub new_skip : {X : Type 0} (Is Held : X → Type 0) (xs : List X) (n : ℕ) (x : X) → slice_get xs n ≡ Some x → ¬ Is x
    → AreNew Is Held xs n → AreNew Is Held xs (n + 1)
new_skip Is Held xs n x is other so_far =
    record {
      held = λ i y lt at kind. elim (cases_lt i n) [ inl lower ↦ so_far.held i y lower at kind | inr here ↦ absurd (here_is i y lt at here kind) ];
      new = λ i y lt at kind. elim (cases_lt i n) [ inl lower ↦ so_far.new i y lower at kind | inr here ↦ absurd (here_is i y lt at here kind) ];
    }
  where
    here_is : (i : ℕ) (y : _) → i < n + 1 → slice_get xs i ≡ Some y → n ≤ i → ¬ Is y
    here_is i y lt at here kind =
        let place : i ≡ n = omega arith in
        other (subst Is (same_Some y x (sym at ∙ ap (slice_get xs) place ∙ is)) kind)

-- one more, which is new, is put in
pub new_more : {X : Type 0} (Is Held Kept : X → Type 0) (xs : List X) (n : ℕ) (x : X) → slice_get xs n ≡ Some x
    → AllByRecursion (λ other. other ≢ x) (take n xs) → Kept x → ((y : X) → Held y → Kept y) → AreNew Is Held xs n → AreNew Is Kept xs (n + 1)
new_more Is Held Kept xs n x is new put kept so_far =
    record {
      held = λ i y lt at kind. elim (cases_lt i n) [
        | inl lower ↦ kept y (so_far.held i y lower at kind)
        | inr here ↦ (
            let place : i ≡ n = omega arith in subst Kept (same_Some x y (sym is ∙ ap (slice_get xs) (sym place) ∙ at)) put
            )
      ];
      new = λ i y lt at kind. elim (cases_lt i n) [
        | inl lower ↦ so_far.new i y lower at kind
        | inr here ↦ (
            let place : i ≡ n = omega arith in
            subst (λ k. AllByRecursion (λ other. other ≢ y) (take k xs)) (sym place)
            (subst (λ z. AllByRecursion (λ other. other ≢ z) (take n xs)) (same_Some x y (sym is ∙ ap (slice_get xs) (sym place) ∙ at)) new)
            )
      ];
    }

-- what isn't held is new
pub new_if_not_held : {X : Type 0} (Is Held : X → Type 0) (xs : List X) (n : ℕ) (x : X) → Is x → ¬ Held x → AreNew Is Held xs n
    → AllByRecursion (λ other. other ≢ x) (take n xs)
new_if_not_held Is Held xs n x kind free so_far =
    all_taken (λ other. other ≢ x) xs n (λ i y lt at same. free (subst Held same (so_far.held i y lt at (subst Is (sym same) kind))))
