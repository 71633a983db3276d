-- Of one more number than there are names, one has a name that is none of them.
use Rattle.std.proofs.Common.{◌≡◌, ◌≢◌, ℕ, zero, suc, ◌+◌, ◌<◌, ◌≤◌, ◌^◌, Bool, true, false, cond, List, [], ◌∷◌, length, codes, inl, inr, refl, sym, subst, ◌∙◌, arith}
use Rattle.std.specs.Str.{bytes_eq}
use Rattle.std.specs.Fmt.{decimal}
use Rattle.std.proofs.lemmas.Bool.{or_cases, cases_Bool, cases_order, cases_lt, both_ways}
use Rattle.std.proofs.lemmas.Fmt.{decimal_injective}
use Rattle.std.proofs.lemmas.List.{append_cancel_left}
use Rattle.dt_model.specs.Names.{Name}
use Rattle.dt_model.specs.Lists.{IsIn}
use Rattle.dt_model.specs.Source.{is_among}
use Rattle.dt_model.specs.OverlaySource.{fragment_name, free_from}
use Rattle.dt_model.proofs.EventSteps.{bytes_eq-is}
use Rattle.dt_model_laws.specs.Fragments.{IsFirstFree}

pub fragment_name_once : (m n : ℕ) → m < 2 ^ 64 → n < 2 ^ 64 → fragment_name m ≡ fragment_name n → m ≡ n
fragment_name_once m n hm hn e = decimal_injective m n hm hn (append_cancel_left (codes "fragment@") (decimal m) (decimal n) e)

among_in : (x : Name) (xs : List Name) → is_among x xs ≡ true → IsIn x xs
among_in x [] h = cc
among_in x (y ∷ ys) h =
    elim (or_cases (bytes_eq x y) (is_among x ys) h) [
      | inl t ↦ inl (bytes_eq-is x y t)
      | inr t ↦ inr (among_in x ys t)
    ]

-- ---- as many names as numbers

-- a list without one of its elements
without : (x : Name) (xs : List Name) → IsIn x xs → (ys : List Name) × (length xs ≡ length ys + 1) × ((z : Name) → z ≢ x → IsIn z xs → IsIn z ys)
without x [] h = absurd h
without x (y ∷ ys) (inl e) = (ys, omega arith, λ z other k. elim k [ inl a ↦ absurd (other (a ∙ sym e)) | inr b ↦ b ])
without x (y ∷ ys) (inr h) =
    let rest = without x ys h in
    let len : length ys ≡ length rest.0 + 1 = rest.1 in
    (y ∷ rest.0, omega arith, λ z other k. elim k [ inl a ↦ inl a | inr b ↦ inr (rest.2 z other b) ])

no_more : (f : ℕ → Name) (count n : ℕ) (xs : List Name) → ((m : ℕ) → n ≤ m → m < n + count → IsIn (f m) xs) → ((i j : ℕ) → n ≤ i → i < j → j < n + count → f j ≢ f i) → count ≤ length xs
no_more f zero n xs there apart = omega arith
no_more f (suc count) n xs there apart =
    let rest = without (f n) xs (there n (omega arith) (omega arith)) in
    let len : length xs ≡ length rest.0 + 1 = rest.1 in
    let fewer : count ≤ length rest.0 = no_more f count (n + 1) rest.0
    (λ m low high. rest.2 (f m) (apart n m (omega arith) (omega arith) (omega arith)) (there m (omega arith) (omega arith)))
    (λ i j low less high. apart i j (omega arith) less (omega arith)) in
    omega arith

-- ---- the first free number

-- the number that some tries find, or the one behind them all
record Found (written : List Name) (tries n k : ℕ) : Type 0 where
  from : n ≤ k
  within : k ≤ n + tries
  first : (m : ℕ) → n ≤ m → m < k → is_among (fragment_name m) written ≡ true
  free : k < n + tries → is_among (fragment_name k) written ≡ false

found : (written : List Name) (tries n : ℕ) → Found written tries n (free_from written tries n)
found written zero n = record { from = omega arith; within = omega arith; first = λ m low high. absurd (omega arith); free = λ h. absurd (omega arith) }
found written (suc tries) n = by (found written tries (n + 1)) (is_among (fragment_name n) written) refl
  where
    by : Found written tries (n + 1) (free_from written tries (n + 1)) → (b : Bool) → is_among (fragment_name n) written ≡ b → Found written (suc tries) n (cond b (free_from written tries (n + 1)) n)
    by more true taken =
        record {
          from = let l : n + 1 ≤ free_from written tries (n + 1) = more.from in omega arith;
          within = let l : free_from written tries (n + 1) ≤ n + 1 + tries = more.within in omega arith;
          first = λ m low high. elim (cases_order m n) [
            | inl same ↦ subst (λ i. is_among (fragment_name i) written ≡ true) (sym same) taken
            | inr (inl less) ↦ absurd (omega arith)
            | inr (inr above) ↦ more.first m (omega arith) high
          ];
          free = λ h. more.free (omega arith);
        }
    by more false taken = record { from = omega arith; within = omega arith; first = λ m low high. absurd (omega arith); free = λ h. taken }

pub free_within : (written : List Name) (n : ℕ) → (n ≤ free_from written (length written) n) × (free_from written (length written) n ≤ n + length written)
free_within written n = let f = found written (length written) n in (f.from, f.within)

-- where so many tries find none, there is one number too many for the names
crowded : (written : List Name) (n k : ℕ) → n + length written < 2 ^ 64 → Found written (length written) n k → is_among (fragment_name k) written ≡ true → ⊥
crowded written n k bound f taken =
    let high : k ≤ n + length written = f.within in
    let last : n + length written ≤ k =
    elim (cases_lt k (n + length written)) [
      | inl less ↦ let no : is_among (fragment_name k) written ≡ false = f.free less in absurd (both_ways (is_among (fragment_name k) written) no taken)
      | inr h ↦ h
    ] in
    let more : length written + 1 ≤ length written = no_more fragment_name (length written + 1) n written
    (λ m low less. elim (cases_order m k) [
      | inl same ↦ among_in (fragment_name m) written (subst (λ i. is_among (fragment_name i) written ≡ true) (sym same) taken)
      | inr (inl below) ↦ among_in (fragment_name m) written (f.first m low below)
      | inr (inr above) ↦ absurd (omega arith)
    ])
    (λ i j low less less2 e. let same : j ≡ i = fragment_name_once j i (omega arith) (omega arith) e in omega arith) in
    omega arith

pub first_free : (written : List Name) (n : ℕ) → n + length written < 2 ^ 64 → IsFirstFree written n (free_from written (length written) n)
first_free written n bound =
    let k = free_from written (length written) n in
    let f = found written (length written) n in
    record {
      free = elim (cases_Bool (is_among (fragment_name k) written)) [ inl taken ↦ absurd (crowded written n k bound f taken) | inr free ↦ free ];
      from = f.from;
      first = f.first;
    }
