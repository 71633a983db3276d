-- Texts that were met.
use Rattle.std.proofs.Common.{◌≡◌, ℕ, zero, suc, ◌⊎◌, List, [], ◌∷◌, length, take, get_or, set, Option, Some, None, option_map, inl, inr, refl, sym, ap, subst, ◌∙◌}
use Rattle.dt_model.specs.Lexing.{text_in}
use Rattle.dt_read.specs.declared.known.KnownText.{KnownText}
use Rattle.dt_read.specs.Known.{IsKnownText, AreKnownTexts}

-- one of some things put anew is that or what it was
set_or : {X : Type 0} (xs : List X) (k : ℕ) (y : X) (i : ℕ) (d : X) → (get_or (set xs k y) i d ≡ y) ⊎ (get_or (set xs k y) i d ≡ get_or xs i d)
set_or [] k y i d = inr refl
set_or (x ∷ xs) zero y zero d = inl refl
set_or (x ∷ xs) zero y (suc i) d = inr refl
set_or (x ∷ xs) (suc k) y zero d = inr refl
set_or (x ∷ xs) (suc k) y (suc i) d = set_or xs k y i d

-- one more text
pub one_known : (strings : List ℕ) (texts : List KnownText) (k : ℕ) (new : KnownText) → IsKnownText strings new → AreKnownTexts strings texts → AreKnownTexts strings (set texts k new)
one_known strings texts k new known all i lt other = by (set_or texts k new i none)
  where
    none : KnownText
    none = record { offset = 4294967295; len = 0 }

    by : (get_or (set texts k new) i none ≡ new) ⊎ (get_or (set texts k new) i none ≡ get_or texts i none) → IsKnownText strings (get_or (set texts k new) i none)
    by (inl is) = subst (IsKnownText strings) (sym is) known
    by (inr is) = subst (IsKnownText strings) (sym is) (all i lt (λ e. other (ap (λ (t : KnownText). t.offset) is ∙ e)))

-- a text is what the bytes begin with
pub text_front : (s t : List ℕ) → text_in s ≡ Some t → take (length t) s ≡ t
text_front [] t e = cc
text_front (zero ∷ s) t e = let same : [] ≡ t = cc in ap (λ (x : List ℕ). take (length x) (0 ∷ s)) (sym same) ∙ same
text_front (suc b ∷ s) t e = by (text_in s) refl (λ x is. text_front s x is) e
  where
    by : (o : Option (List ℕ)) → text_in s ≡ o → ((x : List ℕ) → text_in s ≡ Some x → take (length x) s ≡ x) → option_map (λ (x : List ℕ). suc b ∷ x) o ≡ Some t → take (length t) (suc b ∷ s) ≡ t
    by None is rest h = cc
    by (Some x) is rest h =
        let same : suc b ∷ x ≡ t = cc in
        ap (λ (y : List ℕ). take (length y) (suc b ∷ s)) (sym same) ∙ ap (λ (y : List ℕ). suc b ∷ y) (rest x is) ∙ same
