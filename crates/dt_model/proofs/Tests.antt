-- What tests say, and words for lists.
use Rattle.std.proofs.Common.{◌≡◌, ◌≢◌, Bool, true, false, not, cond, ◌&&◌, ◌||◌, List, [], ◌∷◌, ◌++◌, map, refl, sym, ap, subst, ◌∙◌, ◌⊎◌, inl, inr, true≢false}
use Rattle.std.specs.List.{list_any, list_all, filter, AllByRecursion}
use Rattle.std.proofs.lemmas.Slice.Eq.{bytes_eq-Decides}
use Rattle.std.proofs.lemmas.Bool.Decides.{same_from_decides}
use Rattle.std.specs.Str.{bytes_eq}
use Rattle.dt_model.specs.Names.{Name}
use Rattle.dt_model.specs.Path.{Path, path_eq}
use Rattle.dt_model.specs.Lists.{IsIn}

-- ---- tests

pub and_left : (a b : Bool) → a && b ≡ true → a ≡ true
and_left true b h = refl
and_left false b h = h

pub and_right : (a b : Bool) → a && b ≡ true → b ≡ true
and_right true b h = h
and_right false b h = absurd (true≢false (sym h))

pub and_both : (a b : Bool) → a ≡ true → b ≡ true → a && b ≡ true
and_both true b h k = k
and_both false b h k = absurd (true≢false (sym h))

pub or_cases : (a b : Bool) → a || b ≡ true → (a ≡ true) ⊎ (b ≡ true)
or_cases true b h = inl refl
or_cases false b h = inr h

pub or_right : (a b : Bool) → b ≡ true → a || b ≡ true
or_right true b h = refl
or_right false b h = h

pub or_left : (a b : Bool) → a ≡ true → a || b ≡ true
or_left true b h = refl
or_left false b h = absurd (true≢false (sym h))

pub not_true : (b : Bool) → not b ≡ true → b ≡ false
not_true true h = absurd (true≢false (sym h))
not_true false h = refl

-- ---- names and paths

pub bytes_eq_refl : (x : Name) → bytes_eq x x ≡ true
bytes_eq_refl x = (bytes_eq-Decides x x).1 refl

pub bytes_eq_true : (x y : Name) → bytes_eq x y ≡ true → x ≡ y
bytes_eq_true x y e = (bytes_eq-Decides x y).0 e

pub bytes_eq_other : (x y : Name) → x ≢ y → bytes_eq x y ≡ false
bytes_eq_other x y ne = step (bytes_eq x y) refl
  where
    step : (b : Bool) → bytes_eq x y ≡ b → b ≡ false
    step true e = absurd (ne (bytes_eq_true x y e))
    step false e = refl

pub bytes_eq_differ : (x y : Name) → bytes_eq x y ≡ false → x ≢ y
bytes_eq_differ x y e same = true≢false (sym (bytes_eq_refl x) ∙ ap (bytes_eq x) same ∙ e)

pub bytes_eq_sym : (x y : Name) → bytes_eq x y ≡ bytes_eq y x
bytes_eq_sym x y = same_from_decides (bytes_eq x y) (bytes_eq y x) (bytes_eq-Decides x y) (λ e. sym (bytes_eq_true y x e), λ e. ap (λ z. bytes_eq z x) (sym e) ∙ bytes_eq_refl x)

pub path_eq_refl : (p : Path) → path_eq p p ≡ true
path_eq_refl [] = refl
path_eq_refl (x ∷ p) = rw (bytes_eq_refl x) (path_eq_refl p)

pub path_eq_true : (p q : Path) → path_eq p q ≡ true → p ≡ q
path_eq_true [] [] e = refl
path_eq_true [] (y ∷ q) e = absurd (true≢false (sym e))
path_eq_true (x ∷ p) [] e = absurd (true≢false (sym e))
path_eq_true (x ∷ p) (y ∷ q) e = step (λ k. path_eq_true p q k) (bytes_eq x y) refl
  where
    step : (path_eq p q ≡ true → p ≡ q) → (b : Bool) → bytes_eq x y ≡ b → x ∷ p ≡ y ∷ q
    step more true same = let rest = more (rw same at e) in let head = bytes_eq_true x y same in cc
    step more false other = absurd (true≢false (sym (rw other at e)))

-- ---- lists

pub all_at : {X : Type 0} (test : X → Bool) (xs : List X) (x : X) → list_all test xs ≡ true → IsIn x xs → test x ≡ true
all_at test [] x h i = absurd i
all_at test (y ∷ ys) x h (inl same) = ap test same ∙ and_left (test y) (list_all test ys) h
all_at test (y ∷ ys) x h (inr i) = all_at test ys x (and_right (test y) (list_all test ys) h) i

pub all_from : {X : Type 0} (test : X → Bool) (xs : List X) → ((x : X) → IsIn x xs → test x ≡ true) → list_all test xs ≡ true
all_from test [] all = refl
all_from test (y ∷ ys) all = and_both (test y) (list_all test ys) (all y (inl refl)) (all_from test ys (λ x i. all x (inr i)))

pub any_from : {X : Type 0} (test : X → Bool) (xs : List X) → list_any test xs ≡ true → (x : X) × IsIn x xs × (test x ≡ true)
any_from test [] e = absurd (true≢false (sym e))
any_from {X} test (x ∷ xs) e = step (λ k. any_from test xs k) (test x) refl
  where
    step : (list_any test xs ≡ true → (y : X) × IsIn y xs × (test y ≡ true)) → (b : Bool) → test x ≡ b → (y : X) × IsIn y (x ∷ xs) × (test y ≡ true)
    step more true k = (x, inl refl, k)
    step more false k = let w = more (rw k at e) in (w.0, inr w.1, w.2)

pub any_here : {X : Type 0} (test : X → Bool) (xs : List X) (x : X) → IsIn x xs → test x ≡ true → list_any test xs ≡ true
any_here test [] x h e = absurd h
any_here test (y ∷ ys) x (inl same) e = or_left (test y) (list_any test ys) (ap test (sym same) ∙ e)
any_here test (y ∷ ys) x (inr h) e = or_right (test y) (list_any test ys) (any_here test ys x h e)

pub any_same : {X : Type 0} (f g : X → Bool) (xs : List X) → ((x : X) → IsIn x xs → f x ≡ g x) → list_any f xs ≡ list_any g xs
any_same f g [] same = refl
any_same f g (x ∷ xs) same = rw (any_same f g xs (λ y h. same y (inr h)), same x (inl refl)) refl

pub each_in : {X : Type 0} (P : X → Type 0) (xs : List X) (x : X) → AllByRecursion P xs → IsIn x xs → P x
each_in P [] x h i = absurd i
each_in P (y ∷ ys) x h (inl same) = subst P (sym same) h.0
each_in P (y ∷ ys) x h (inr i) = each_in P ys x h.1 i

pub each_from : {X : Type 0} (P : X → Type 0) (xs : List X) → ((x : X) → IsIn x xs → P x) → AllByRecursion P xs
each_from P [] all = tt
each_from P (x ∷ xs) all = (all x (inl refl), each_from P xs (λ y i. all y (inr i)))

pub each_append : {X : Type 0} (P : X → Type 0) (xs ys : List X) → AllByRecursion P xs → AllByRecursion P ys → AllByRecursion P (xs ++ ys)
each_append P [] ys h k = k
each_append P (x ∷ xs) ys h k = (h.0, each_append P xs ys h.1 k)

pub in_left : {X : Type 0} (x : X) (xs ys : List X) → IsIn x xs → IsIn x (xs ++ ys)
in_left x [] ys i = absurd i
in_left x (y ∷ xs) ys (inl same) = inl same
in_left x (y ∷ xs) ys (inr i) = inr (in_left x xs ys i)

pub in_right : {X : Type 0} (x : X) (xs ys : List X) → IsIn x ys → IsIn x (xs ++ ys)
in_right x [] ys i = i
in_right x (y ∷ xs) ys i = inr (in_right x xs ys i)

pub in_append : {X : Type 0} (x : X) (xs ys : List X) → IsIn x (xs ++ ys) → IsIn x xs ⊎ IsIn x ys
in_append x [] ys i = inr i
in_append x (y ∷ xs) ys (inl same) = inl (inl same)
in_append x (y ∷ xs) ys (inr i) = elim (in_append x xs ys i) [ inl k ↦ inl (inr k) | inr k ↦ inr k ]

pub in_map : {X Y : Type 0} (f : X → Y) (xs : List X) (x : X) → IsIn x xs → IsIn (f x) (map f xs)
in_map f [] x i = absurd i
in_map f (y ∷ xs) x (inl same) = inl (ap f same)
in_map f (y ∷ xs) x (inr i) = inr (in_map f xs x i)

pub in_map_from : {X Y : Type 0} (f : X → Y) (xs : List X) (y : Y) → IsIn y (map f xs) → (x : X) × IsIn x xs × (y ≡ f x)
in_map_from f [] y i = absurd i
in_map_from f (x ∷ xs) y (inl same) = (x, inl refl, same)
in_map_from f (x ∷ xs) y (inr i) = let w = in_map_from f xs y i in (w.0, inr w.1, w.2)

-- what a filter keeps
pub in_filter : {X : Type 0} (test : X → Bool) (xs : List X) (x : X) → IsIn x (filter test xs) → IsIn x xs × (test x ≡ true)
in_filter test [] x i = absurd i
in_filter {X} test (y ∷ xs) x i = step (λ k. in_filter test xs x k) (test y) refl
  where
    step : (IsIn x (filter test xs) → IsIn x xs × (test x ≡ true)) → (b : Bool) → test y ≡ b → IsIn x (y ∷ xs) × (test x ≡ true)
    step more false e = let w = more (subst (λ b. IsIn x (cond b (y ∷ filter test xs) (filter test xs))) e i) in (inr w.0, w.1)
    step more true e = elim (subst (λ b. IsIn x (cond b (y ∷ filter test xs) (filter test xs))) e i) [
      | inl same ↦ (inl same, ap test same ∙ e)
      | inr k ↦ let w = more k in (inr w.0, w.1)
    ]

pub filter_in : {X : Type 0} (test : X → Bool) (xs : List X) (x : X) → IsIn x xs → test x ≡ true → IsIn x (filter test xs)
filter_in test [] x i h = absurd i
filter_in test (y ∷ xs) x (inl same) h = subst (λ b. IsIn x (cond b (y ∷ filter test xs) (filter test xs))) (sym (ap test (sym same) ∙ h)) (inl same)
filter_in test (y ∷ xs) x (inr i) h = step (filter_in test xs x i h) (test y)
  where
    step : IsIn x (filter test xs) → (b : Bool) → IsIn x (cond b (y ∷ filter test xs) (filter test xs))
    step more true = inr more
    step more false = more
