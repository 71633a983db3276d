-- There is one list of the things of a kind in order.
use Rattle.std.proofs.Common.{◌≡◌, ◌≢◌, ℕ, ◌<◌, Bool, true, List, [], ◌∷◌, inl, inr, refl, sym, subst, ◌∙◌, arith}
use Rattle.std.specs.List.{AllByRecursion}
use Rattle.dt_model.specs.Lists.{IsIn, FallBy, AreInOrder}
use Rattle.dt_model.specs.Valid.{AreDistinct}
use Rattle.dt_model.proofs.Cases.{all_map}
use Rattle.dt_model.proofs.Tests.{each_in}

module _ {X : Type 0} (age : X → ℕ) where
  not_itself : (x : X) (xs : List X) → AllByRecursion (λ y. age y < age x) xs → IsIn x xs → ⊥
  not_itself x xs h k = let l : age x < age x = each_in (λ y. age y < age x) xs x h k in absurd (omega arith)

  -- what is in a list behind its first element, and isn't that element
  behind : (x y z : X) (xs ys : List X) → x ≡ y → AllByRecursion (λ z. age z < age x) xs → IsIn z xs → ((z : X) → IsIn z (x ∷ xs) → IsIn z (y ∷ ys)) → IsIn z ys
  behind x y z xs ys e h k to =
      elim (to z (inr k)) [
        | inl s ↦
            let zx : z ≡ x = s ∙ sym e in
            absurd (not_itself x xs h (subst (λ w. IsIn w xs) zx k))
        | inr r ↦ r
      ]

  -- the first elements of two lists that have the same elements
  first_same : (x y : X) (xs ys : List X) → AllByRecursion (λ z. age z < age x) xs → AllByRecursion (λ z. age z < age y) ys → IsIn x (y ∷ ys) → IsIn y (x ∷ xs) → x ≡ y
  first_same x y xs ys hx hy (inl e) k = e
  first_same x y xs ys hx hy (inr i) (inl e) = sym e
  first_same x y xs ys hx hy (inr i) (inr j) =
      let a : age x < age y = each_in (λ z. age z < age y) ys x hy i in
      let b : age y < age x = each_in (λ z. age z < age x) xs y hx j in
      absurd (omega arith)

  -- lists that fall and have the same elements
  pub same_falls : (xs ys : List X) → FallBy age xs → FallBy age ys → ((z : X) → IsIn z xs → IsIn z ys) → ((z : X) → IsIn z ys → IsIn z xs) → xs ≡ ys
  same_falls [] [] fx fy to from = refl
  same_falls [] (y ∷ ys) fx fy to from = absurd (from y (inl refl))
  same_falls (x ∷ xs) [] fx fy to from = absurd (to x (inl refl))
  same_falls (x ∷ xs) (y ∷ ys) fx fy to from =
      let e : x ≡ y = first_same x y xs ys fx.0 fy.0 (to x (inl refl)) (from y (inl refl)) in
      let rest : xs ≡ ys = same_falls xs ys fx.1 fy.1 (λ z k. behind x y z xs ys e fx.0 k to) (λ z k. behind y x z ys xs (sym e) fy.0 k from) in
      λ i. e i ∷ rest i

  pub one_order : (is_kind : X → Bool) (xs ys : List X) → AreInOrder age is_kind xs → AreInOrder age is_kind ys → xs ≡ ys
  one_order is_kind xs ys a b =
      same_falls xs ys a.sorted b.sorted
      (λ z k. b.complete z (each_in (λ x. is_kind x ≡ true) xs z a.sound k))
      (λ z k. a.complete z (each_in (λ x. is_kind x ≡ true) ys z b.sound k))

  -- a list that falls has each element once
  pub falls_distinct : (xs : List X) → FallBy age xs → AreDistinct xs
  falls_distinct [] f = tt
  falls_distinct (x ∷ xs) f =
      (all_map (λ y. age y < age x) (λ y. y ≢ x) (λ y l e. let l2 : age x < age x = subst (λ z. age z < age x) e l in absurd (omega arith)) xs f.0, falls_distinct xs f.1)
