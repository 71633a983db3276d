-- A search for a name and its NUL finds the first place at which strings hold them.
use Rattle.std.proofs.Common.{◌≡◌, ℕ, zero, suc, ◌+◌, ◌<◌, ◌≤◌, Bool, true, false, cond, List, [], ◌∷◌, length, Option, Some, None, refl, sym, ap, ◌∙◌, true≢false, arith}
use Rattle.std.specs.Prelude.{◌==◌, ◌&&◌, slice_index}
use Rattle.std.specs.Option.{option_map}
use Rattle.std.proofs.lemmas.Bool.{eqb-true, eq-eqb}
use Rattle.std.proofs.lemmas.List.{length-append}
use Rattle.dt_model.specs.Names.{Name}
use Rattle.dt_model_format.specs.Strings.{terminated, begins, place_in}
use Rattle.memchr.specs.Find.{OccursAt, FindsNeedle}

-- ---- at the front

record Front (needle hay : List ℕ) : Type 0 where
  fits : length needle ≤ length hay
  reads : (j : ℕ) → j < length needle → slice_index hay j ≡ slice_index needle j

front_of : (needle hay : List ℕ) → begins needle hay ≡ true → Front needle hay
front_of [] hay e = record { fits = omega arith; reads = λ j lt. absurd (omega (arith, lt)) }
front_of (x ∷ needle) [] e = absurd cc
front_of (x ∷ needle) (y ∷ hay) e = step (x == y) refl e (front_of needle hay)
  where
    step : (b : Bool) → (x == y) ≡ b → (b && begins needle hay) ≡ true → (begins needle hay ≡ true → Front needle hay) → Front (x ∷ needle) (y ∷ hay)
    step false same e more = absurd cc
    step true same e more =
        let f = more e in
        let fits = f.fits in
        let first : y ≡ x = sym (eqb-true x y same) in
        record { fits = omega arith; reads = λ j lt. own f first j lt }
      where
        own : Front needle hay → y ≡ x → (j : ℕ) → j < length (x ∷ needle) → slice_index (y ∷ hay) j ≡ slice_index (x ∷ needle) j
        own f first zero lt = first
        own f first (suc j) lt = f.reads j (omega (arith, lt))

begins_front : (needle hay : List ℕ) → Front needle hay → begins needle hay ≡ true
begins_front [] hay f = refl
begins_front (x ∷ needle) [] f = let fits = f.fits in absurd (omega arith)
begins_front (x ∷ needle) (y ∷ hay) f =
    let fits = f.fits in
    let first : x ≡ y = sym (f.reads 0 (omega arith)) in
    let rest = begins_front needle hay (record { fits = omega arith; reads = λ j lt. f.reads (suc j) (omega (arith, lt)) }) in
    rw (eq-eqb x y first) rest

occurs_front : (hay needle : List ℕ) → OccursAt hay needle 0 → Front needle hay
occurs_front hay needle o =
    let fits = o.fits in
    record { fits = omega arith; reads = λ j lt. ap (slice_index hay) (omega arith) ∙ o.reads j lt }

front_occurs : (hay needle : List ℕ) → Front needle hay → OccursAt hay needle 0
front_occurs hay needle f =
    let fits = f.fits in
    record { fits = omega arith; reads = λ j lt. ap (slice_index hay) (omega arith) ∙ f.reads j lt }

-- ---- further on

occurs_behind : (b : ℕ) (hay needle : List ℕ) (k : ℕ) → OccursAt (b ∷ hay) needle (suc k) → OccursAt hay needle k
occurs_behind b hay needle k o =
    let fits = o.fits in
    let on : (j : ℕ) → suc (k + j) ≡ suc k + j = λ j. omega arith in
    record { fits = omega arith; reads = λ j lt. ap (slice_index (b ∷ hay)) (on j) ∙ o.reads j lt }

behind_occurs : (b : ℕ) (hay needle : List ℕ) (k : ℕ) → OccursAt hay needle k → OccursAt (b ∷ hay) needle (suc k)
behind_occurs b hay needle k o =
    let fits = o.fits in
    let on : (j : ℕ) → suc k + j ≡ suc (k + j) = λ j. omega arith in
    record { fits = omega arith; reads = λ j lt. ap (slice_index (b ∷ hay)) (on j) ∙ o.reads j lt }

pub place_is : (strings : List ℕ) (name : Name) (r : Option ℕ) → FindsNeedle strings (terminated name) 0 r → r ≡ place_in strings name
place_is [] name None f = refl
place_is [] name (Some k) f = let fits = f.1.fits in absurd (omega (arith, length-append name (0 ∷ [])))
place_is (b ∷ strings) name r f = step (begins (terminated name) (b ∷ strings)) refl r f (λ q g. place_is strings name q g)
  where
    step : (t : Bool) → begins (terminated name) (b ∷ strings) ≡ t → (r : Option ℕ) → FindsNeedle (b ∷ strings) (terminated name) 0 r
        → ((q : Option ℕ) → FindsNeedle strings (terminated name) 0 q → q ≡ place_in strings name) → r ≡ cond t (Some 0) (option_map (λ k. suc k) (place_in strings name))
    step true is None f more = absurd (f 0 (omega arith) (omega arith) (front_occurs (b ∷ strings) (terminated name) (front_of (terminated name) (b ∷ strings) is)))
    step true is (Some zero) f more = refl
    step true is (Some (suc k)) f more = absurd (f.0.before 0 (omega arith) (omega arith) (front_occurs (b ∷ strings) (terminated name) (front_of (terminated name) (b ∷ strings) is)))
    step false is None f more =
        ap (option_map (λ k. suc k)) (more None (λ k low high o. f (suc k) (omega arith) (omega (arith, high)) (behind_occurs b strings (terminated name) k o)))
    step false is (Some zero) f more = absurd (true≢false (sym (begins_front (terminated name) (b ∷ strings) (occurs_front (b ∷ strings) (terminated name) f.1)) ∙ is))
    step false is (Some (suc k)) f more =
        let high = f.0.high in
        ap (option_map (λ k. suc k))
        (more (Some k) (
          record { low = omega arith; high = omega arith; before = λ j low lt o. f.0.before (suc j) (omega arith) (omega (arith, lt)) (behind_occurs b strings (terminated name) j o) },
          occurs_behind b strings (terminated name) k f.1,
        ))
