-- Bytes that are cut at a separator are cut in one way.
use Rattle.std.proofs.Common.{◌≡◌, ◌≢◌, ℕ, zero, suc, Bool, cond, List, [], ◌∷◌, ◌++◌, length, refl, sym, ap, ◌∙◌, subst, arith, append_assoc, length-append}
use Rattle.std.proofs.lemmas.Bool.{ne_eqb}
use Rattle.dt_overlay_texts.specs.Cuts.{Lacks, onto_text, texts_in}
use Rattle.dt_overlay_texts.specs.Texts.{AreTexts}

-- ---- one separator

-- where both fronts lack the separator, they are the same, and so is what is behind it
pub cut_once : (s : ℕ) (a b q r : List ℕ) → Lacks s a → Lacks s b → a ++ s ∷ q ≡ b ++ s ∷ r → (a ≡ b) × (q ≡ r)
cut_once s [] [] q r la lb e = (refl, cc)
cut_once s [] (y ∷ b) q r la lb e = absurd (lb.0 cc)
cut_once s (x ∷ a) [] q r la lb e = absurd (la.0 cc)
cut_once s (x ∷ a) (y ∷ b) q r la lb e =
    let more = cut_once s a b q r la.1 lb.1 cc in
    let same : a ≡ b = more.0 in
    (cc, more.1)

-- bytes that lack the separator aren't cut
pub never_cut : (s : ℕ) (a q : List ℕ) → Lacks s (a ++ s ∷ q) → ⊥
never_cut s [] q l = l.0 refl
never_cut s (x ∷ a) q l = never_cut s a q l.1

-- what lacks the separator in two parts lacks it in both
pub lacks_both : (s : ℕ) (a b : List ℕ) → Lacks s a → Lacks s b → Lacks s (a ++ b)
lacks_both s [] b la lb = lb
lacks_both s (x ∷ a) b la lb = (la.0, lacks_both s a b la.1 lb)

-- ---- the texts of a value

-- the first text is what stands before the first NUL
pub texts_front : (x rest : List ℕ) → Lacks 0 x → texts_in (x ++ 0 ∷ rest) ≡ x ∷ texts_in rest
unfolding texts_in
texts_front [] rest l = refl
texts_front (b ∷ x) rest l =
    ap (λ (v : Bool). cond v ([] ∷ texts_in (x ++ 0 ∷ rest)) (onto_text b (texts_in (x ++ 0 ∷ rest)))) (ne_eqb b 0 l.0)
    ∙ ap (onto_text b) (texts_front x rest l.1)

-- without a NUL there is none
pub texts_none : (xs : List ℕ) → Lacks 0 xs → texts_in xs ≡ []
unfolding texts_in
texts_none [] l = refl
texts_none (b ∷ xs) l =
    ap (λ (v : Bool). cond v ([] ∷ texts_in xs) (onto_text b (texts_in xs))) (ne_eqb b 0 l.0) ∙ ap (onto_text b) (texts_none xs l.1)

-- the texts of a value are no others
pub texts_only : (xs : List (List ℕ)) (value : List ℕ) → AreTexts value xs → texts_in value ≡ xs
unfolding texts_in
texts_only [] value a = ap texts_in a
texts_only (x ∷ xs) value a =
    ap texts_in a.1 ∙ texts_front x a.0 a.2 ∙ ap (λ (ts : List (List ℕ)). x ∷ ts) (texts_only xs a.0 a.3)

-- a byte in front of a value that has texts is in front of the first of them
onto_first : (b : ℕ) (value : List ℕ) (xs : List (List ℕ)) → b ≢ 0 → value ≢ [] → AreTexts value xs → AreTexts (b ∷ value) (onto_text b xs)
onto_first b value [] other some a = absurd (some a)
onto_first b value (x ∷ xs) other some a = (a.0, ap (λ (v : List ℕ). b ∷ v) a.1, (other, a.2), a.3)

-- with any byte more in front a value is its texts still
one_more : (b : ℕ) (value : List ℕ) → value ≢ [] → AreTexts value (texts_in value) → AreTexts (b ∷ value) (texts_in (b ∷ value))
unfolding texts_in
one_more zero value some a = (value, refl, tt, a)
one_more (suc b) value some a =
    let other : suc b ≢ 0 = λ e. cc in
    subst (λ (v : Bool). AreTexts (suc b ∷ value) (cond v ([] ∷ texts_in value) (onto_text (suc b) (texts_in value)))) (sym (ne_eqb (suc b) 0 other))
    (onto_first (suc b) value (texts_in value) other some a)

-- a value that ends with a NUL is its texts
pub texts_whole : (front : List ℕ) → AreTexts (front ++ 0 ∷ []) (texts_in (front ++ 0 ∷ []))
unfolding texts_in
texts_whole [] = ([], refl, tt, refl)
texts_whole (b ∷ front) = one_more b (front ++ 0 ∷ []) (some_there front) (texts_whole front)
  where
    some_there : (xs : List ℕ) → xs ++ 0 ∷ [] ≢ []
    some_there [] e = cc
    some_there (x ∷ xs) e = cc

-- ---- how a value ends

-- what ends lists that are the same is the same
last_same : (q r : List ℕ) (b c : ℕ) → q ++ b ∷ [] ≡ r ++ c ∷ [] → b ≡ c
last_same [] [] b c e = cc
last_same [] (y ∷ r) b c e = absurd (omega (arith, ap length e, length-append r (c ∷ [])))
last_same (x ∷ q) [] b c e = absurd (omega (arith, ap length e, length-append q (b ∷ [])))
last_same (x ∷ q) (y ∷ r) b c e = last_same q r b c cc

-- some texts end with a NUL
ends_with_nul : (x : List ℕ) (xs : List (List ℕ)) (value : List ℕ) → AreTexts value (x ∷ xs) → (front : List ℕ) × (value ≡ front ++ 0 ∷ [])
ends_with_nul x [] value a = (x, a.1 ∙ ap (λ (r : List ℕ). x ++ 0 ∷ r) a.3)
ends_with_nul x (y ∷ xs) value a =
    let more = ends_with_nul y xs a.0 a.3 in
    (x ++ 0 ∷ more.0, a.1 ∙ ap (λ (r : List ℕ). x ++ 0 ∷ r) more.1 ∙ sym (append_assoc x (0 ∷ more.0) (0 ∷ [])))

-- no texts but none are a value without a byte
pub none_of_nothing : (value : List ℕ) → length value ≡ 0 → (xs : List (List ℕ)) → xs ≢ [] → ¬ AreTexts value xs
none_of_nothing value empty [] some a = some refl
none_of_nothing value empty (x ∷ xs) some a = omega (arith, empty, ap length a.1, length-append x (0 ∷ a.0))

-- nor of one with another last byte than a NUL
pub none_of_other : (value front : List ℕ) (b : ℕ) → value ≡ front ++ b ∷ [] → b ≢ 0 → (xs : List (List ℕ)) → xs ≢ [] → ¬ AreTexts value xs
none_of_other value front b is other [] some a = some refl
none_of_other value front b is other (x ∷ xs) some a =
    let ends = ends_with_nul x xs value a in
    other (last_same front ends.0 b 0 (sym is ∙ ends.1))

-- a value with a NUL at its end is some texts
pub texts_there : (value front : List ℕ) (b : ℕ) → value ≡ front ++ b ∷ [] → b ≡ 0 → AreTexts value (texts_in value) × (texts_in value ≢ [])
texts_there value front b is nul =
    let whole : value ≡ front ++ 0 ∷ [] = is ∙ ap (λ (n : ℕ). front ++ n ∷ []) nul in
    let are : AreTexts value (texts_in value) = subst (λ (v : List ℕ). AreTexts v (texts_in v)) (sym whole) (texts_whole front) in
    (are, λ none. absurd (omega (arith, ap length whole, length-append front (0 ∷ []), ap length (subst (AreTexts value) none are))))
