-- Texts between quotes, up to a byte that doesn't stand there as it is.
use Rattle.std.proofs.Common.{◌≡◌, ℕ, zero, suc, ◌+◌, ◌<◌, ◌≤◌, Bool, true, false, ◌||◌, ◌==◌, List, [], ◌∷◌, ◌++◌, take, drop, length, get_or, length-drop, refl, sym, ap, ◌∙◌, arith}
use Rattle.std.proofs.lemmas.List.{at_drop_more}
use Rattle.std.specs.Prelude.{if◌then◌else◌, codes}
use Rattle.memchr.specs.Find.{Passes, Nowhere, NoneBefore, is_byte3}
use Rattle.dt_model.specs.Printed.{quoted, texts_from}

by_tests : (x y z : Bool) (l : List ℕ) → ¬ ((x || y || z) ≡ true) → (if y then codes "\\\"" else (if z then codes "\\\\" else l)) ≡ l
by_tests x true z l no_one = absurd (no_one (any_first x))
  where
    any_first : (x : Bool) → (x || true || z) ≡ true
    any_first true = refl
    any_first false = refl
by_tests x false true l no_one = absurd (no_one (any_second x))
  where
    any_second : (x : Bool) → (x || false || true) ≡ true
    any_second true = refl
    any_second false = refl
by_tests x false false l no_one = refl

-- a byte that stands there as it is
quoted_plain : (b : ℕ) → ¬ (is_byte3 0 34 92 b ≡ true) → quoted b ≡ b ∷ []
quoted_plain b plain = by_tests (b == 0) (b == 34) (b == 92) (b ∷ []) plain

pub texts_plain : (l : List ℕ) (at : ℕ) → at ≤ length l → Nowhere (Passes (is_byte3 0 34 92) l) 0 at → texts_from l ≡ take at l ++ texts_from (drop at l)
texts_plain [] zero within plain = refl
texts_plain [] (suc at) within plain = absurd (omega arith)
texts_plain (b ∷ l) zero within plain = refl
texts_plain (zero ∷ l) (suc at) within plain = absurd (plain 0 (omega arith) (omega arith) refl)
texts_plain (suc b ∷ l) (suc at) within plain =
    ap (λ (front : List ℕ). front ++ texts_from l) (quoted_plain (suc b) (plain 0 (omega arith) (omega arith)))
    ∙ ap (λ (rest : List ℕ). suc b ∷ rest) (texts_plain l at (omega arith) (λ k low high. plain (suc k) (omega arith) (omega arith)))

-- no such byte
pub texts_all_plain : (l : List ℕ) → Nowhere (Passes (is_byte3 0 34 92) l) 0 (length l) → texts_from l ≡ l
texts_all_plain [] plain = refl
texts_all_plain (zero ∷ l) plain = absurd (plain 0 (omega arith) (omega arith) refl)
texts_all_plain (suc b ∷ l) plain =
    ap (λ (front : List ℕ). front ++ texts_from l) (quoted_plain (suc b) (plain 0 (omega arith) (omega arith)))
    ∙ ap (λ (rest : List ℕ). suc b ∷ rest) (texts_all_plain l (λ k low high. plain (suc k) (omega arith) (omega arith)))

-- up to the first such byte, for which a mark is written
pub to_mark : (l mark behind : List ℕ) (at : ℕ) → NoneBefore (Passes (is_byte3 0 34 92) l) 0 (length l) at → behind ≡ drop (at + 1) l
    → texts_from (get_or l at 0 ∷ behind) ≡ mark ++ texts_from behind
    → (texts_from l ≡ take at l ++ (mark ++ texts_from behind)) × (length behind < length l)
to_mark l mark behind at first same marked = (
  texts_plain l at (omega (arith, first.high)) first.before
      ∙ ap (λ (rest : List ℕ). take at l ++ rest)
      (at_drop_more texts_from l at 0 first.high ∙ ap (λ (rest : List ℕ). texts_from (get_or l at 0 ∷ rest)) (sym same) ∙ marked),
  omega (arith, first.high, ap length same, length-drop (at + 1) l),
)
