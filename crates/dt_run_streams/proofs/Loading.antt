-- The texts that are loaded of files.
use Rattle.std.proofs.Common.{◌≡◌, ℕ, ◌+◌, suc, zero, ◌<◌, Bool, true, false, ◌||◌, List, [], ◌∷◌, ◌++◌, Some, Result, Ok, Err, Bor, length, map, take, get_or, slice_get, None, IfErr, MatchResult, refl, subst, arith, sym, length-append}
use Rattle.std.specs.List.{list_any}
use Rattle.dt_names.specs.declared.fault.Fault.{Fault}
use Rattle.dt_names.specs.declared.fault.FaultKind.{FaultKind}
use Rattle.dt_names.specs.declared.fault.FaultKind.TheVariants.{NoMemory}
use Rattle.dt_run_streams.specs.Files as why
use Rattle.dt_run_streams.specs.Files.{Loads, AreLoadedFrom, AreLoadedTo, IsAgain, IsLoaded, IsOfLoading, WhyNotNext}

-- one text more
one_from : {F : Type 0} (loads : Loads F) (names : List (List ℕ)) (k n : ℕ) (before next behind : F) (texts : List (List ℕ)) (text : List ℕ) →
    AreLoadedFrom loads names k before texts next → n ≡ k + length texts → IsLoaded loads names n next text behind → AreLoadedFrom loads names k before (texts ++ text ∷ []) behind
one_from {F} loads names k n before next behind [] text all is one =
    let same : n ≡ k = omega (arith, is) in
    (behind, subst (λ (f : F). IsLoaded loads names k f text behind) all (subst (λ (m : ℕ). IsLoaded loads names m next text behind) same one), refl)
one_from loads names k n before next behind (x ∷ texts) text all is one =
    (all.0, all.1, one_from loads names (suc k) n all.0 next behind texts text all.2 (omega (arith, is)) one)

pub one_more : {F : Type 0} (loads : Loads F) (names : List (List ℕ)) (k : ℕ) (before next behind : F) (texts more : List (List ℕ)) (text : List ℕ) →
    AreLoadedTo loads names k before texts next → more ≡ texts ++ text ∷ [] → IsLoaded loads names k next text behind → AreLoadedTo loads names (k + 1) before more behind
one_more loads names k before next behind texts more text all is one =
    let from : AreLoadedFrom loads names 0 before (texts ++ text ∷ []) behind = one_from loads names 0 k before next behind texts text all.each (omega (arith, all.count)) one in
    let count : length (texts ++ text ∷ []) ≡ k + 1 = omega (arith, all.count, length-append texts (text ∷ [])) in
    subst (λ (ts : List (List ℕ)). AreLoadedTo loads names (k + 1) before ts behind) (sym is) (record { count = count; each = from })

-- there was no memory for one text more
pub not_kept : {F : Type 0} (loads : Loads F) (names : List (List ℕ)) (k : ℕ) (before : F) (text : List ℕ) (behind : F) (kind : FaultKind) → kind ≡ NoMemory →
    IsLoaded loads names k before text behind → WhyNotNext loads names k before kind behind
not_kept loads names k before text behind kind is loaded =
    subst (λ (it : FaultKind). WhyNotNext loads names k before it behind) (sym is) (why.unkept text behind loaded)

-- ---- names

pub at_name : (names : List (Bor (List ℕ))) (k : ℕ) (d : Bor (List ℕ)) (name : List ℕ) → slice_get (map (λ n. n.now) names) k ≡ Some name → (get_or names k d).now ≡ name
at_name [] k d name is = cc
at_name (x ∷ names) zero d name is = cc
at_name (x ∷ names) (suc k) d name is = at_name names k d name is

pub name_at : (names : List (Bor (List ℕ))) (k : ℕ) (d : Bor (List ℕ)) → k < length names → slice_get (map (λ n. n.now) names) k ≡ Some (get_or names k d).now
name_at [] k d inside = absurd (omega (arith, inside))
name_at (x ∷ names) zero d inside = refl
name_at (x ∷ names) (suc k) d inside = name_at names k d (omega (arith, inside))

or_right : (a b : Bool) → b ≡ true → (a || b) ≡ true
or_right true b e = refl
or_right false b e = e

pub any_before : (p : Bor (List ℕ) → Bool) (names : List (Bor (List ℕ))) (j k : ℕ) (name : List ℕ) → ((x : Bor (List ℕ)) → x.now ≡ name → p x ≡ true) →
    j < k → slice_get (map (λ n. n.now) names) j ≡ Some name → list_any p (take k names) ≡ true
any_before p [] j k name hit before is = cc
any_before p (x ∷ names) j zero name hit before is = absurd (omega (arith, before))
any_before p (x ∷ names) zero (suc k) name hit before is = let same : x.now ≡ name = cc in rw (hit x same) refl
any_before p (x ∷ names) (suc j) (suc k) name hit before is = or_right (p x) _ (any_before p names j k name hit (omega (arith, before)) is)

-- where the test finds a name among the first so many, it has a number
pub record IsFound (p : Bor (List ℕ) → Bool) (names : List (Bor (List ℕ))) (k : ℕ) : Type 0 where
  pub earlier : ℕ
  pub before : earlier < k
  pub name : Bor (List ℕ)
  pub there : slice_get (map (λ n. n.now) names) earlier ≡ Some name.now
  pub passes : p name ≡ true

by_first : (p : Bor (List ℕ) → Bool) (x : Bor (List ℕ)) (names : List (Bor (List ℕ))) (k : ℕ) (b : Bool) → p x ≡ b → (b || list_any p (take k names)) ≡ true →
    (list_any p (take k names) ≡ true → IsFound p names k) → IsFound p (x ∷ names) (suc k)
by_first p x names k true hit is others = record { earlier = zero; before = omega (arith); name = x; there = refl; passes = hit }
by_first p x names k false hit is others =
    let found = others is in
    record { earlier = suc found.earlier; before = omega (arith, found.before); name = found.name; there = found.there; passes = found.passes }

pub found_before : (p : Bor (List ℕ) → Bool) (names : List (Bor (List ℕ))) (k : ℕ) → list_any p (take k names) ≡ true → IsFound p names k
found_before p [] zero is = cc
found_before p [] (suc k) is = cc
found_before p (x ∷ names) zero is = cc
found_before p (x ∷ names) (suc k) is = by_first p x names k (p x) refl is (found_before p names k)

-- ---- faults

pub none_again : {A : Type 0} (answer : Bool) → answer ≡ false → (A → answer ≡ true) → ¬ A
none_again true is again = cc
none_again false is again = λ a. absurd_true (again a)
  where
    absurd_true : false ≡ true → ⊥
    absurd_true e = cc

pub why_not_next : {F : Type 0} {V : Type 0} (P : V → Type 0) (loads : Loads F) (names : List (List ℕ)) (k : ℕ) (name : List ℕ) (before behind : F) (result : Result V Fault) →
    ¬ IsAgain names k → slice_get names k ≡ Some name → MatchResult result P (λ fault. loads before name (Err fault.kind) behind) →
    IfErr result (λ fault. IsOfLoading fault.kind × (fault.at ≡ None)) → IfErr result (λ fault. WhyNotNext loads names k before fault.kind behind × (fault.at ≡ None))
why_not_next P loads names k name before behind (Ok v) first named answered refused = refused
why_not_next P loads names k name before behind (Err fault) first named answered refused =
    (why.refused fault.kind behind refused.0 first (record { name = name; named = named; answered = answered }), refused.1)
