-- Lists in which no two are the same.
use Rattle.std.proofs.Common.{◌≢◌, List, [], ◌∷◌, ◌++◌, sym}
use Rattle.std.specs.List.{AllByRecursion}
use Rattle.dt_model.specs.Valid.{AreDistinct}

-- none of these is one of those
abbrev pub Apart : {X : Type 0} → List X → List X → Type 0
Apart [] ys = Unit {0}
Apart (x ∷ xs) ys = AllByRecursion (λ y. y ≢ x) ys × Apart xs ys

pub all-append : {X : Type 0} (P : X → Type 0) (xs ys : List X) → AllByRecursion P xs → AllByRecursion P ys → AllByRecursion P (xs ++ ys)
all-append P [] ys a b = b
all-append P (x ∷ xs) ys a b = (a.0, all-append P xs ys a.1 b)

pub all-front : {X : Type 0} (P : X → Type 0) (xs ys : List X) → AllByRecursion P (xs ++ ys) → AllByRecursion P xs
all-front P [] ys a = tt
all-front P (x ∷ xs) ys a = (a.0, all-front P xs ys a.1)

pub all-back : {X : Type 0} (P : X → Type 0) (xs ys : List X) → AllByRecursion P (xs ++ ys) → AllByRecursion P ys
all-back P [] ys a = a
all-back P (x ∷ xs) ys a = all-back P xs ys a.1

pub distinct-append : {X : Type 0} (xs ys : List X) → AreDistinct xs → AreDistinct ys → Apart xs ys → AreDistinct (xs ++ ys)
distinct-append [] ys a b c = b
distinct-append (x ∷ xs) ys a b c = (all-append (λ y. y ≢ x) xs ys a.0 c.0, distinct-append xs ys a.1 b c.1)

pub distinct-front : {X : Type 0} (xs ys : List X) → AreDistinct (xs ++ ys) → AreDistinct xs
distinct-front [] ys a = tt
distinct-front (x ∷ xs) ys a = (all-front (λ y. y ≢ x) xs ys a.0, distinct-front xs ys a.1)

pub distinct-back : {X : Type 0} (xs ys : List X) → AreDistinct (xs ++ ys) → AreDistinct ys
distinct-back [] ys a = a
distinct-back (x ∷ xs) ys a = distinct-back xs ys a.1

pub distinct-apart : {X : Type 0} (xs ys : List X) → AreDistinct (xs ++ ys) → Apart xs ys
distinct-apart [] ys a = tt
distinct-apart (x ∷ xs) ys a = (all-back (λ y. y ≢ x) xs ys a.0, distinct-apart xs ys a.1)

pub apart-none : {X : Type 0} (xs : List X) → Apart xs []
apart-none [] = tt
apart-none (x ∷ xs) = (tt, apart-none xs)

pub apart-right : {X : Type 0} (xs ys zs : List X) → Apart xs ys → Apart xs zs → Apart xs (ys ++ zs)
apart-right [] ys zs a b = tt
apart-right (x ∷ xs) ys zs a b = (all-append (λ y. y ≢ x) ys zs a.0 b.0, apart-right xs ys zs a.1 b.1)

pub apart-left : {X : Type 0} (xs ys zs : List X) → Apart xs zs → Apart ys zs → Apart (xs ++ ys) zs
apart-left [] ys zs a b = b
apart-left (x ∷ xs) ys zs a b = (a.0, apart-left xs ys zs a.1 b)

pub apart-cons : {X : Type 0} (x : X) (xs ys : List X) → AllByRecursion (λ y. x ≢ y) xs → Apart xs ys → Apart xs (x ∷ ys)
apart-cons x [] ys a b = tt
apart-cons x (z ∷ zs) ys a b = ((a.0, b.0), apart-cons x zs ys a.1 b.1)

pub apart-flip : {X : Type 0} (xs ys : List X) → Apart xs ys → Apart ys xs
apart-flip [] ys a = apart-none ys
apart-flip (x ∷ xs) ys a = flipped x ys xs a.0 (apart-flip xs ys a.1)
  where
    flipped : {X : Type 0} (x : X) (ys xs : List X) → AllByRecursion (λ y. y ≢ x) ys → Apart ys xs → Apart ys (x ∷ xs)
    flipped x [] xs a b = tt
    flipped x (y ∷ ys) xs a b = ((λ e. a.0 (sym e), b.0), flipped x ys xs a.1 b.1)
