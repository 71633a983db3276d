-- Phandles that are written twice: what was seen of the first properties.
use Rattle.std.proofs.Common.{◌≡◌, ℕ, ◌+◌, ◌<◌, ◌≤◌, true, false, ◌||◌, List, length, get_or, Option, None, Some, slice_get, refl, sym, ap, ◌∙◌, ◌⊎◌, inl, inr, arith, nat_eq, eqb-true, eq-eqb}
use Rattle.std.proofs.lemmas.Bool.{cases_lt}
use Rattle.std.specs.Option.{option_map_or}
use Rattle.std.proofs.lemmas.Option.{slice_get_within, slice_get-get_or}
use Rattle.dt_model.proofs.Tests.{or_cases, or_left, or_right}
use Rattle.dt_model.proofs.Cases.{map_or_true}
use Rattle.dt_source_growing.specs.declared.growing.Property.{Property}
use Rattle.dt_source_nodes.specs.Phandles.{Set, has_seen, phandle_written, AreOwn, HasTwice}

-- the phandles of the first properties are in the set, each from one property
pub record AreSeen (places : List (Option ℕ)) (qs : List Property) (k : ℕ) (seen : Set) : Type 0 where
  pub sound : (n : ℕ) → has_seen seen n ≡ true → (i : ℕ) × (q : Property) × (i < k) × (slice_get qs i ≡ Some q) × (phandle_written places q ≡ Some n)
  pub complete : (i : ℕ) (q : Property) (n : ℕ) → i < k → slice_get qs i ≡ Some q → phandle_written places q ≡ Some n → has_seen seen n ≡ true
  pub own : (i j : ℕ) (p q : Property) (n : ℕ) → i < k → j < k → slice_get qs i ≡ Some p → slice_get qs j ≡ Some q →
      phandle_written places p ≡ Some n → phandle_written places q ≡ Some n → i ≡ j

-- nothing was seen
pub none_seen : (places : List (Option ℕ)) (qs : List Property) (seen : Set) → ((n : ℕ) → has_seen seen n ≡ false) → AreSeen places qs 0 seen
none_seen places qs seen none = record {
  sound = λ n h. let no_n = none n in let e : true ≡ false = sym h ∙ no_n in absurd (cc);
  complete = λ i q n near. absurd (omega arith);
  own = λ i j p q n near. absurd (omega arith);
}

met : (o : Option ℕ) (n : ℕ) → option_map_or (nat_eq n) o false ≡ true → o ≡ Some n
met None n h = cc
met (Some m) n h = ap (λ (k : ℕ). Some k) (sym (eqb-true n m h))

meets : (o : Option ℕ) (n : ℕ) → o ≡ Some n → option_map_or (nat_eq n) o false ≡ true
meets o n e = ap (λ (p : Option ℕ). option_map_or (nat_eq n) p false) e ∙ eq-eqb n n refl

-- one more, which wasn't seen
pub seen_more : (places : List (Option ℕ)) (qs : List Property) (k : ℕ) (d : Property) (old new : Set) → k < length qs →
    option_map_or (has_seen old) (phandle_written places (get_or qs k d)) false ≡ false →
    ((n : ℕ) → has_seen new n ≡ (option_map_or (nat_eq n) (phandle_written places (get_or qs k d)) false || has_seen old n)) →
    AreSeen places qs k old → AreSeen places qs (k + 1) new
seen_more places qs k d old new near fresh added before = record {
  sound = λ n h. sound n (or_cases (option_map_or (nat_eq n) (phandle_written places here) false) (has_seen old n) (sym (added n) ∙ h));
  complete = λ i q n low there w. added n ∙ complete i q n there w (last_or_not i low);
  own = λ i j p q n low_i low_j there_p there_q w v. own i j p q n there_p there_q w v (last_or_not i low_i) (last_or_not j low_j);
}
  where
    here : Property
    here = get_or qs k d

    there_k : slice_get qs k ≡ Some (get_or qs k d)
    there_k = slice_get-get_or qs k d near

    last_or_not : (i : ℕ) → i < k + 1 → (i < k) ⊎ (i ≡ k)
    last_or_not i low = elim (cases_lt i k) [ inl less ↦ inl less | inr more ↦ inr (omega arith) ]

    at_last : (i : ℕ) (q : Property) → i ≡ k → slice_get qs i ≡ Some q → q ≡ get_or qs k d
    at_last i q e there = let at : slice_get qs k ≡ Some q = ap (slice_get qs) (sym e) ∙ there in let both : Some (get_or qs k d) ≡ Some q = sym there_k ∙ at in cc

    sound : (n : ℕ) → (option_map_or (nat_eq n) (phandle_written places (get_or qs k d)) false ≡ true) ⊎ (has_seen old n ≡ true) →
        (i : ℕ) × (q : Property) × (i < k + 1) × (slice_get qs i ≡ Some q) × (phandle_written places q ≡ Some n)
    sound n (inl e) = (k, get_or qs k d, omega arith, there_k, met (phandle_written places (get_or qs k d)) n e)
    sound n (inr h) = let w = before.sound n h in let low : w.0 < k = w.2 in (w.0, w.1, omega arith, w.3, w.4)

    complete : (i : ℕ) (q : Property) (n : ℕ) → slice_get qs i ≡ Some q → phandle_written places q ≡ Some n → (i < k) ⊎ (i ≡ k) →
        (option_map_or (nat_eq n) (phandle_written places (get_or qs k d)) false || has_seen old n) ≡ true
    complete i q n there w (inl low) = or_right (option_map_or (nat_eq n) (phandle_written places (get_or qs k d)) false) (has_seen old n) (before.complete i q n low there w)
    complete i q n there w (inr e) =
        or_left (option_map_or (nat_eq n) (phandle_written places (get_or qs k d)) false) (has_seen old n)
        (meets (phandle_written places (get_or qs k d)) n (ap (phandle_written places) (sym (at_last i q e there)) ∙ w))

    -- an earlier one has another phandle
    other : (i : ℕ) (p : Property) (n : ℕ) → i < k → slice_get qs i ≡ Some p → phandle_written places p ≡ Some n → phandle_written places (get_or qs k d) ≡ Some n → ⊥
    other i p n low there w v =
        let seen : has_seen old n ≡ true = before.complete i p n low there w in
        let new_one : has_seen old n ≡ false = sym (ap (λ (o : Option ℕ). option_map_or (has_seen old) o false) v) ∙ fresh in
        let e : true ≡ false = sym seen ∙ new_one in cc

    own : (i j : ℕ) (p q : Property) (n : ℕ) → slice_get qs i ≡ Some p → slice_get qs j ≡ Some q → phandle_written places p ≡ Some n → phandle_written places q ≡ Some n →
        (i < k) ⊎ (i ≡ k) → (j < k) ⊎ (j ≡ k) → i ≡ j
    own i j p q n there_p there_q w v (inl a) (inl b) = before.own i j p q n a b there_p there_q w v
    own i j p q n there_p there_q w v (inl a) (inr b) = absurd (other i p n a there_p w (ap (phandle_written places) (sym (at_last j q b there_q)) ∙ v))
    own i j p q n there_p there_q w v (inr a) (inl b) = absurd (other j q n b there_q v (ap (phandle_written places) (sym (at_last i p a there_p)) ∙ w))
    own i j p q n there_p there_q w v (inr a) (inr b) = a ∙ sym b

-- one that was seen
pub seen_twice : (places : List (Option ℕ)) (qs : List Property) (k : ℕ) (d : Property) (seen : Set) → k < length qs →
    option_map_or (has_seen seen) (phandle_written places (get_or qs k d)) false ≡ true → AreSeen places qs k seen → HasTwice places qs
seen_twice places qs k d seen near h before =
    let found = map_or_true (has_seen seen) (phandle_written places (get_or qs k d)) h in
    let first = before.sound found.0 found.2 in
    (first.0, k, first.1, get_or qs k d, found.0, first.2, first.3, slice_get-get_or qs k d near, first.4, found.1)

-- all were seen
pub all_seen : (places : List (Option ℕ)) (qs : List Property) (k : ℕ) (seen : Set) → length qs ≤ k → AreSeen places qs k seen → AreOwn places qs
all_seen places qs k seen all before i j p q n there_p there_q w v =
    let a = slice_get_within qs i p there_p in
    let b = slice_get_within qs j q there_q in
    before.own i j p q n (omega arith) (omega arith) there_p there_q w v
