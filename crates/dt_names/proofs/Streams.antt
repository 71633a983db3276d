-- A list in two parts, and a stream that gave an answer.
use Rattle.std.proofs.Common.{◌≡◌, ℕ, ◌-◌, ◌<◌, Bool, true, false, Option, None, Some, List, ◌++◌, take, drop, length, refl, sym, ap, ◌∙◌, append_assoc, take-append-drop, length-append, arith}
use Rattle.std.proofs.lemmas.List.{take_rest}
use lib.Seq.{take-append_seam}

-- the front grows by what goes from the rest
pub front_grows : (all front rest : List ℕ) (n : ℕ) → all ≡ front ++ rest → all ≡ (front ++ take n rest) ++ take (length rest - n) (drop n rest)
front_grows all front rest n e =
    e ∙ ap (λ l. front ++ l) (sym (take-append-drop n rest)) ∙ sym (append_assoc front (take n rest) (drop n rest))
    ∙ ap (λ l. (front ++ take n rest) ++ l) (sym (take_rest rest n))

pub front_is : (all front rest : List ℕ) → all ≡ front ++ rest → front ≡ take (length front) all
front_is all front rest e = sym (ap (take (length front)) e ∙ take-append_seam front rest)

pub front_shorter : (all front rest : List ℕ) → all ≡ front ++ rest → 0 < length rest → length front < length all
front_shorter all front rest e some = omega (arith, ap length e, length-append front rest, some)

-- what answers hasn't failed before
pub not_failed : (failed : Bool) (n : ℕ) → (failed ≡ true → ◌≡◌ {A = Option ℕ} (Some n) None) → failed ≡ false
not_failed false n h = refl
not_failed true n h = let e = h refl in cc
