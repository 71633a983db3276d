-- Things that differ, each of which another of some others leads to, are no more than those.
use Rattle.std.proofs.Common.{◌≡◌, ◌≢◌, ◌+◌, ◌≤◌, List, [], ◌∷◌, length, refl, sym, ap, ◌∙◌, inl, inr, Option, Some, arith}
use Rattle.dt_model.specs.Lists.{IsIn}
use Rattle.dt_model.specs.Valid.{AreDistinct}
use Rattle.dt_model.proofs.Tests.{each_in}

-- a list without one of its elements
without : {X : Type 0} (x : X) (xs : List X) → IsIn x xs → (ys : List X) × (length xs ≡ length ys + 1) × ((z : X) → z ≢ x → IsIn z xs → IsIn z ys)
without x [] h = absurd h
without x (y ∷ ys) (inl e) = (ys, omega arith, λ z other k. elim k [ inl a ↦ absurd (other (a ∙ sym e)) | inr b ↦ b ])
without x (y ∷ ys) (inr h) =
    let rest = without x ys h in
    let len : length ys ≡ length rest.0 + 1 = rest.1 in
    (y ∷ rest.0, omega arith, λ z other k. elim k [ inl a ↦ inl a | inr b ↦ inr (rest.2 z other b) ])

pub no_more : {X Y : Type 0} (f : Y → Option X) (xs : List X) (ys : List Y) → AreDistinct xs → ((x : X) → IsIn x xs → (y : Y) × IsIn y ys × (f y ≡ Some x)) → length xs ≤ length ys
no_more f [] ys d of = omega arith
no_more {X} {Y} f (x ∷ xs) ys d of =
    let w = of x (inl refl) in
    let rest = without w.0 ys w.1 in
    let len : length ys ≡ length rest.0 + 1 = rest.1 in
    let fewer : length xs ≤ length rest.0 = no_more f xs rest.0 d.1 (λ z i. left w rest z i) in
    omega arith
  where
    left : (w : (y : Y) × IsIn y ys × (f y ≡ Some x)) (rest : (zs : List Y) × (length ys ≡ length zs + 1) × ((z : Y) → z ≢ w.0 → IsIn z ys → IsIn z zs)) (z : X) → IsIn z xs
        → (y : Y) × IsIn y rest.0 × (f y ≡ Some z)
    left w rest z i =
        let v = of z (inr i) in
        let other : v.0 ≢ w.0 = λ same. each_in (λ y. y ≢ x) xs z d.0 i (let e : Some z ≡ Some x = sym v.2 ∙ ap f same ∙ w.2 in cc) in
        (v.0, rest.2 v.0 other v.1, v.2)
