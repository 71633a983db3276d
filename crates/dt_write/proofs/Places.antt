-- Where strings hold a name.
use Rattle.std.proofs.Common.{◌≡◌, ℕ, suc, ◌≤◌, Bool, true, false, cond, ◌&&◌, List, [], ◌∷◌, ◌++◌, length, Option, Some, None, refl, ap, subst, ◌∙◌, append_assoc, arith}
use Rattle.std.specs.Prelude.{◌==◌}
use Rattle.std.specs.Option.{option_map, unwrap_or}
use Rattle.std.proofs.lemmas.Bool.{eqb-true, eq-eqb}
use Rattle.dt_model.specs.Format.{HoldsName, IsText}
use Rattle.dt_model.specs.Names.{Name}
use Rattle.dt_model_format.specs.Strings.{terminated, begins, place_in}

pub record Begun (xs ys : List ℕ) : Type 0 where
  pub rest : List ℕ
  pub is : ys ≡ xs ++ rest

pub begun : (xs ys : List ℕ) → begins xs ys ≡ true → Begun xs ys
begun [] ys e = record { rest = ys; is = refl }
begun (x ∷ xs) [] e = absurd cc
begun (x ∷ xs) (y ∷ ys) e = step (x == y) refl e (begun xs ys)
  where
    step : (b : Bool) → (x == y) ≡ b → (b && begins xs ys) ≡ true → (begins xs ys ≡ true → Begun xs ys) → Begun (x ∷ xs) (y ∷ ys)
    step false same e more = absurd cc
    step true same e more =
        let m = more e in
        let s : x ≡ y = eqb-true x y same in
        record { rest = m.rest; is = subst (λ (z : ℕ). z ∷ ys ≡ x ∷ (xs ++ m.rest)) s (ap (λ (r : List ℕ). x ∷ r) m.is) }

pub begins_own : (xs rest : List ℕ) → begins xs (xs ++ rest) ≡ true
begins_own [] rest = refl
begins_own (x ∷ xs) rest = rw (eq-eqb x x refl) (begins_own xs rest)

-- the place that is found holds the name
pub sound : (s : List ℕ) (n : Name) (o : ℕ) → IsText n → place_in s n ≡ Some o → HoldsName s o n
sound [] n o text e = absurd cc
sound (b ∷ bytes) n o text e = step (begins (terminated n) (b ∷ bytes)) refl e (λ k. sound bytes n k text)
  where
    later : (p : Option ℕ) → place_in bytes n ≡ p → option_map (λ k. suc k) p ≡ Some o → ((k : ℕ) → place_in bytes n ≡ Some k → HoldsName bytes k n) → HoldsName (b ∷ bytes) o n
    later None found e more = absurd cc
    later (Some k) found e more =
        let m = more k found in
        let is : suc k ≡ o = cc in
        subst (λ (j : ℕ). HoldsName (b ∷ bytes) j n) is (record { rest = m.rest; stands = m.stands; text = text })

    step : (t : Bool) → begins (terminated n) (b ∷ bytes) ≡ t → cond t (Some 0) (option_map (λ k. suc k) (place_in bytes n)) ≡ Some o
        → ((k : ℕ) → place_in bytes n ≡ Some k → HoldsName bytes k n) → HoldsName (b ∷ bytes) o n
    step true begin e more =
        let m = begun (terminated n) (b ∷ bytes) begin in
        let is : 0 ≡ o = cc in
        subst (λ (j : ℕ). HoldsName (b ∷ bytes) j n) is (record { rest = m.rest; stands = m.is ∙ append_assoc n (0 ∷ []) m.rest; text = text })
    step false begin e more = later (place_in bytes n) refl e more

pub place_within : (s : List ℕ) (n : Name) → unwrap_or (place_in s n) 0 ≤ length s
place_within [] n = omega arith
place_within (b ∷ bytes) n = step (begins (terminated n) (b ∷ bytes)) (place_in bytes n) (place_within bytes n)
  where
    step : (t : Bool) (o : Option ℕ) → unwrap_or o 0 ≤ length bytes → unwrap_or (cond t (Some 0) (option_map (λ k. suc k) o)) 0 ≤ length (b ∷ bytes)
    step true o h = omega arith
    step false None h = omega arith
    step false (Some k) h = omega (arith, h)
