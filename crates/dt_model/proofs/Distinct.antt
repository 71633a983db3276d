-- Lists in which no two are the same.
use Rattle.std.proofs.Common.{◌≡◌, ◌≢◌, Bool, true, false, cond, List, [], ◌∷◌, ◌++◌, map, refl, sym, subst, ◌∙◌, inl, inr}
use Rattle.std.specs.List.{AllByRecursion, filter, flat_map}
use Rattle.dt_model.specs.Lists.{IsIn}
use Rattle.dt_model.specs.Valid.{AreDistinct}
use Rattle.dt_model.proofs.Tests.{each_in, each_from, in_left, in_right, in_append}

pub not_twice : {X : Type 0} (x : X) (xs : List X) → AreDistinct (x ∷ xs) → IsIn x xs → ⊥
not_twice x xs d i = each_in (λ y. y ≢ x) xs x d.0 i refl

pub distinct_left : {X : Type 0} (xs ys : List X) → AreDistinct (xs ++ ys) → AreDistinct xs
distinct_left [] ys d = tt
distinct_left (x ∷ xs) ys d = (each_from (λ y. y ≢ x) xs (λ y i. each_in (λ z. z ≢ x) (xs ++ ys) y d.0 (in_left y xs ys i)), distinct_left xs ys d.1)

pub distinct_right : {X : Type 0} (xs ys : List X) → AreDistinct (xs ++ ys) → AreDistinct ys
distinct_right [] ys d = d
distinct_right (x ∷ xs) ys d = distinct_right xs ys d.1

pub apart : {X : Type 0} (xs ys : List X) (x : X) → AreDistinct (xs ++ ys) → IsIn x xs → IsIn x ys → ⊥
apart [] ys x d i j = i
apart (y ∷ xs) ys x d (inl same) j = each_in (λ z. z ≢ y) (xs ++ ys) x d.0 (in_right x xs ys j) same
apart (y ∷ xs) ys x d (inr i) j = apart xs ys x d.1 i j

pub distinct_append : {X : Type 0} (xs ys : List X) → AreDistinct xs → AreDistinct ys → ((x : X) → IsIn x xs → IsIn x ys → ⊥) → AreDistinct (xs ++ ys)
distinct_append [] ys d e apart = e
distinct_append {X} (x ∷ xs) ys d e apart =
    (each_from (λ y. y ≢ x) (xs ++ ys) (λ y i. other y i), distinct_append xs ys d.1 e (λ z i j. apart z (inr i) j))
  where
    other : (y : X) → IsIn y (xs ++ ys) → y ≡ x → ⊥
    other y i same = elim (in_append y xs ys i) [
      | inl k ↦ each_in (λ z. z ≢ x) xs y d.0 k same
      | inr k ↦ apart y (inl same) k
    ]

-- of elements that differ in f, those that pass a test differ in f
pub distinct_filter : {X Y : Type 0} (f : X → Y) (test : X → Bool) (xs : List X) → AreDistinct (map f xs) → AreDistinct (map f (filter test xs))
distinct_filter f test [] d = tt
distinct_filter {X} {Y} f test (x ∷ xs) d = step (distinct_filter f test xs d.1) (test x)
  where
    kept : (xs : List X) → AllByRecursion (λ y. y ≢ f x) (map f xs) → AllByRecursion (λ y. y ≢ f x) (map f (filter test xs))
    kept [] h = tt
    kept (z ∷ zs) h = inner (kept zs h.1) (test z)
      where
        inner : AllByRecursion (λ y. y ≢ f x) (map f (filter test zs)) → (b : Bool) → AllByRecursion (λ y. y ≢ f x) (map f (cond b (z ∷ filter test zs) (filter test zs)))
        inner more true = (h.0, more)
        inner more false = more

    step : AreDistinct (map f (filter test xs)) → (b : Bool) → AreDistinct (map f (cond b (x ∷ filter test xs) (filter test xs)))
    step more true = (kept xs d.0, more)
    step more false = more

pub in_flat : {X Y : Type 0} (f : X → List Y) (xs : List X) (x : X) (y : Y) → IsIn x xs → IsIn y (f x) → IsIn y (flat_map f xs)
in_flat f [] x y i h = absurd i
in_flat f (z ∷ xs) x y (inl e) h = in_left y (f z) (flat_map f xs) (subst (λ w. IsIn y (f w)) e h)
in_flat f (z ∷ xs) x y (inr i) h = in_right y (f z) (flat_map f xs) (in_flat f xs x y i h)

-- an element that has a thing of which no two are had is the one that has it
pub one_has : {X Y : Type 0} (f : X → List Y) (xs : List X) (x x' : X) (y : Y) → AreDistinct (flat_map f xs) → IsIn x xs → IsIn x' xs → IsIn y (f x) → IsIn y (f x') → x ≡ x'
one_has f [] x x' y d i i' h h' = absurd i
one_has f (z ∷ xs) x x' y d (inl e) (inl e') h h' = e ∙ sym e'
one_has f (z ∷ xs) x x' y d (inl e) (inr i') h h' = absurd (apart (f z) (flat_map f xs) y d (subst (λ w. IsIn y (f w)) e h) (in_flat f xs x' y i' h'))
one_has f (z ∷ xs) x x' y d (inr i) (inl e') h h' = absurd (apart (f z) (flat_map f xs) y d (subst (λ w. IsIn y (f w)) e' h') (in_flat f xs x y i h))
one_has f (z ∷ xs) x x' y d (inr i) (inr i') h h' = one_has f xs x x' y (distinct_right (f z) (flat_map f xs) d) i i' h h'
