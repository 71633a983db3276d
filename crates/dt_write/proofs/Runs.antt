-- Names in the order of their bytes from the end, in which those that end with a name stand in one run.
use Rattle.std.proofs.Common.{◌≡◌, ℕ, Bool, true, false, cond, ◌&&◌, List, [], ◌∷◌, reverse, refl, sym, ap, ◌∙◌, arith}
use Rattle.std.specs.Prelude.{if◌then◌else◌, ◌==◌, nat_lt}
use Rattle.std.specs.Cmp.Lexicographic.{slice_cmp}
use Rattle.std.specs.Ordering.{nat_cmp, is_lt, ordering_then}
use Rattle.std.specs.declared.cmp.Ordering.TheVariants.{Less, Equal, Greater}
use Rattle.std.proofs.lemmas.Bool.{eqb-true, eqb-false}
use Rattle.std.proofs.lemmas.List.{reverse-reverse}
use Rattle.dt_model.specs.Names.{Name}
use Rattle.dt_model_format.specs.Strings.{begins}
use Rattle.dt_write.specs.Sharing.{ends}
use Rattle.dt_write.proofs.Ends.{ends_begins, begins_ends}

-- the first bytes are no later than the second
abbrev pub upto : List ℕ → List ℕ → Bool
upto [] ys = true
upto (x ∷ xs) [] = false
upto (x ∷ xs) (y ∷ ys) = if x == y then upto xs ys else nat_lt x y

-- what stands between some bytes and others that begin with them begins with them, too
whole : (x y z : List ℕ) → upto x y ≡ true → upto y z ≡ true → begins x z ≡ true → begins x y ≡ true
whole [] y z a b c = refl
whole (x ∷ xs) [] z a b c = absurd cc
whole (x ∷ xs) (y ∷ ys) [] a b c = absurd cc
whole (x ∷ xs) (y ∷ ys) (z ∷ zs) a b c = step (x == y) (y == z) (x == z) refl refl refl a b c (whole xs ys zs)
  where
    step : (p q r : Bool) → (x == y) ≡ p → (y == z) ≡ q → (x == z) ≡ r → cond p (upto xs ys) (nat_lt x y) ≡ true → cond q (upto ys zs) (nat_lt y z) ≡ true → (r && begins xs zs) ≡ true
        → (upto xs ys ≡ true → upto ys zs ≡ true → begins xs zs ≡ true → begins xs ys ≡ true) → ((x == y) && begins xs ys) ≡ true
    step p q false e f g a b c more = absurd cc
    step true true true e f g a b c more = rw e (more a b c)
    step true false true e f g a b c more = absurd (let s : x ≡ y = eqb-true x y e in let t : x ≡ z = eqb-true x z g in eqb-false y z f (sym s ∙ t))
    step false true true e f g a b c more = absurd (let s : y ≡ z = eqb-true y z f in let t : x ≡ z = eqb-true x z g in eqb-false x y e (t ∙ sym s))
    step false false true e f g a b c more = absurd (let t : x ≡ z = eqb-true x z g in grind (arith, t))

begins_upto : (x y : List ℕ) → begins x y ≡ true → upto x y ≡ true
begins_upto [] y e = refl
begins_upto (x ∷ xs) [] e = absurd cc
begins_upto (x ∷ xs) (y ∷ ys) e = step (x == y) e (begins_upto xs ys)
  where
    step : (b : Bool) → (b && begins xs ys) ≡ true → (begins xs ys ≡ true → upto xs ys ≡ true) → cond b (upto xs ys) (nat_lt x y) ≡ true
    step false e more = absurd cc
    step true e more = more e

both_ways : (x y : List ℕ) → upto x y ≡ true → upto y x ≡ true → x ≡ y
both_ways [] [] a b = refl
both_ways [] (y ∷ ys) a b = absurd cc
both_ways (x ∷ xs) [] a b = absurd cc
both_ways (x ∷ xs) (y ∷ ys) a b = step (x == y) (y == x) refl refl a b (both_ways xs ys)
  where
    step : (p q : Bool) → (x == y) ≡ p → (y == x) ≡ q → cond p (upto xs ys) (nat_lt x y) ≡ true → cond q (upto ys xs) (nat_lt y x) ≡ true → (upto xs ys ≡ true → upto ys xs ≡ true → xs ≡ ys) → x ∷ xs ≡ y ∷ ys
    step true true e f a b more = let s : x ≡ y = eqb-true x y e in (λ i. s i ∷ more a b i)
    step true false e f a b more = absurd (eqb-false y x f (sym (eqb-true x y e)))
    step false true e f a b more = absurd (eqb-false x y e (sym (eqb-true y x f)))
    step false false e f a b more = absurd (grind (arith, a, b))

-- bytes than which others aren't less are no later
upto_from : (x y : List ℕ) → is_lt (slice_cmp nat_cmp y x) ≡ false → upto x y ≡ true
upto_from [] y e = refl
upto_from (x ∷ xs) [] e = absurd cc
upto_from (x ∷ xs) (y ∷ ys) e = step (nat_lt y x) (y == x) (x == y) refl refl refl e (upto_from xs ys)
  where
    step : (p q r : Bool) → nat_lt y x ≡ p → (y == x) ≡ q → (x == y) ≡ r → is_lt (ordering_then (cond p Less (cond q Equal Greater)) (slice_cmp nat_cmp ys xs)) ≡ false
        → (is_lt (slice_cmp nat_cmp ys xs) ≡ false → upto xs ys ≡ true) → cond r (upto xs ys) (nat_lt x y) ≡ true
    step true q r d e f h more = absurd cc
    step false true true d e f h more = more h
    step false true false d e f h more = absurd (eqb-false x y f (sym (eqb-true y x e)))
    step false false true d e f h more = absurd (eqb-false y x e (sym (eqb-true x y f)))
    step false false false d e f h more = grind (arith, d, eqb-false x y f)

-- ---- the same of names

-- by their bytes from the end, the first name is no later than the second
abbrev pub IsUpto : Name → Name → Type 0
IsUpto n m = upto (reverse n) (reverse m) ≡ true

pub upto_names : (n m : Name) → is_lt (slice_cmp nat_cmp (reverse m) (reverse n)) ≡ false → IsUpto n m
upto_names n m e = upto_from (reverse n) (reverse m) e

pub between : (n m o : Name) → IsUpto n m → IsUpto m o → ends n o ≡ true → ends n m ≡ true
between n m o a b e = begins_ends n m (whole (reverse n) (reverse m) (reverse o) a b (ends_begins n o e))

pub ends_upto : (n m : Name) → ends n m ≡ true → IsUpto n m
ends_upto n m e = begins_upto (reverse n) (reverse m) (ends_begins n m e)

pub one_name : (n m : Name) → IsUpto n m → IsUpto m n → n ≡ m
one_name n m a b = sym (reverse-reverse n) ∙ ap reverse (both_ways (reverse n) (reverse m) a b) ∙ reverse-reverse m
