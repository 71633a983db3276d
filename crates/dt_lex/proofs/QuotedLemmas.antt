-- Escapes, texts and characters at the front of a text.
use Rattle.std.proofs.Common.{◌≡◌, ℕ, ◌<◌, ◌≤◌, Bool, true, false, List, [], ◌∷◌, ◌++◌, length, drop, ◌⊎◌, inl, inr, refl, sym, ◌∙◌, ap, subst, arith, length-append}
use Rattle.std.specs.Prelude.{◌==◌, ◌%◌}
use Rattle.std.proofs.lemmas.Bool.{eqb-true}
use Rattle.dt_lex.specs.declared.byte.Class.TheVariants as class
use Rattle.dt_lex.specs.Bytes.{is_in}
use Rattle.dt_lex.specs.Numbers.{digits, number_behind}
use Rattle.dt_lex.specs.Words.{Each, Word, Either, Begins, Then, Stops, IsLongestWord, NoneFits}
use Rattle.dt_lex.specs.Vocabulary.{OneDigit, IsSimple, IsEscape, simple_value, Escape}
use Rattle.dt_lex.specs.Vocabulary as vocabulary
use Rattle.dt_lex.specs.Letters.{RunsUpTo}
use Rattle.dt_lex.proofs.WordLemmas.{each_most}

-- ---- fronts of one list

pub same_front : (w v s t : List ℕ) → w ++ s ≡ v ++ t → length w ≡ length v → (w ≡ v) × (s ≡ t)
same_front [] [] s t e l = (refl, e)
same_front [] (b ∷ v) s t e l = absurd (omega arith)
same_front (b ∷ w) [] s t e l = absurd (omega arith)
same_front (b ∷ w) (c ∷ v) s t e l =
    let h = same_front w v s t (cc) (omega arith) in
    let heads : b ≡ c = cc in
    let tails = h.0 in
    (cc, h.1)

-- a front that is no longer than another is a front of it
pub front_within : (w t a m : List ℕ) → w ++ t ≡ a ++ m → length w ≤ length a → (y : List ℕ) × (a ≡ w ++ y)
front_within [] t a m e l = (a, refl)
front_within (b ∷ w) t [] m e l = absurd (omega arith)
front_within (b ∷ w) t (c ∷ a) m e l =
    let h = front_within w t a m (cc) (omega arith) in
    let heads : c ≡ b = cc in
    let tails = h.1 in
    (h.0, cc)

-- and one that is longer has the byte behind it
pub front_past : (w t a : List ℕ) (q : ℕ) (m : List ℕ) → w ++ t ≡ a ++ q ∷ m → length a < length w → (z : List ℕ) × (w ≡ a ++ q ∷ z)
front_past [] t a q m e l = absurd (omega arith)
front_past (b ∷ w) t [] q m e l = let same : b ≡ q = cc in (w, cc)
front_past (b ∷ w) t (c ∷ a) q m e l =
    let h = front_past w t a q m (cc) (omega arith) in
    let heads : b ≡ c = cc in
    let tails = h.1 in
    (h.0, cc)

each_at : (p : ℕ → Bool) (w a : List ℕ) (q : ℕ) (z : List ℕ) → w ≡ a ++ q ∷ z → Each p w → p q ≡ true
each_at p [] [] q z e h = cc
each_at p [] (c ∷ a) q z e h = cc
each_at p (b ∷ w) [] q z e h = let same : b ≡ q = cc in subst (λ (x : ℕ). p x ≡ true) same h.0
each_at p (b ∷ w) (c ∷ a) q z e h = each_at p w a q z (cc) h.1

-- ---- the forms of escapes

abbrev octal : ℕ → Bool
octal = is_in class.Octal

abbrev hex : ℕ → Bool
hex = is_in class.Hex

abbrev OctalDigits : List ℕ → Type 0
OctalDigits = Either (OneDigit class.Octal) (Either (Then (OneDigit class.Octal) (OneDigit class.Octal)) (Then (OneDigit class.Octal) (Then (OneDigit class.Octal) (OneDigit class.Octal))))

abbrev HexDigits : List ℕ → Type 0
HexDigits = Either (OneDigit class.Hex) (Then (OneDigit class.Hex) (OneDigit class.Hex))

pub record Digits (p : ℕ → Bool) (most : ℕ) (w : List ℕ) : Type 0 where
  pub all : Each p w
  pub some : 0 < length w
  pub few : length w ≤ most

octal_digits : (v : List ℕ) → OctalDigits v → Digits octal 3 v
octal_digits v (inl (b, e, h)) = record { all = subst (Each octal) (sym e) (h, tt); some = omega (arith, ap length e); few = omega (arith, ap length e) }
octal_digits v (inr (inl (x, y, e, (b, f, h), (c, g, i)))) =
    let whole : v ≡ b ∷ c ∷ [] = e ∙ (λ j. f j ++ g j) in
    record { all = subst (Each octal) (sym whole) (h, (i, tt)); some = omega (arith, ap length whole); few = omega (arith, ap length whole) }
octal_digits v (inr (inr (x, y, e, (b, f, h), (x', y', e', (c, g, i), (d, k, l))))) =
    let tail : y ≡ c ∷ d ∷ [] = e' ∙ (λ j. g j ++ k j) in
    let whole : v ≡ b ∷ c ∷ d ∷ [] = e ∙ (λ j. f j ++ tail j) in
    record { all = subst (Each octal) (sym whole) (h, (i, (l, tt))); some = omega (arith, ap length whole); few = omega (arith, ap length whole) }

hex_digits : (v : List ℕ) → HexDigits v → Digits hex 2 v
hex_digits v (inl (b, e, h)) = record { all = subst (Each hex) (sym e) (h, tt); some = omega (arith, ap length e); few = omega (arith, ap length e) }
hex_digits v (inr (x, y, e, (b, f, h), (c, g, i))) =
    let whole : v ≡ b ∷ c ∷ [] = e ∙ (λ j. f j ++ g j) in
    record { all = subst (Each hex) (sym whole) (h, (i, tt)); some = omega (arith, ap length whole); few = omega (arith, ap length whole) }

are_octal : (v : List ℕ) → Digits octal 3 v → OctalDigits v
are_octal [] d = absurd (omega (arith, d.some))
are_octal (b ∷ []) d = inl (b, refl, d.all.0)
are_octal (b ∷ c ∷ []) d = inr (inl (b ∷ [], c ∷ [], refl, (b, refl, d.all.0), (c, refl, d.all.1.0)))
are_octal (b ∷ c ∷ f ∷ []) d = inr (inr (b ∷ [], c ∷ f ∷ [], refl, (b, refl, d.all.0), (c ∷ [], f ∷ [], refl, (c, refl, d.all.1.0), (f, refl, d.all.1.1.0))))
are_octal (b ∷ c ∷ f ∷ g ∷ v) d = absurd (omega (arith, d.few))

are_hex : (v : List ℕ) → Digits hex 2 v → HexDigits v
are_hex [] d = absurd (omega (arith, d.some))
are_hex (b ∷ []) d = inl (b, refl, d.all.0)
are_hex (b ∷ c ∷ []) d = inr (b ∷ [], c ∷ [], refl, (b, refl, d.all.0), (c, refl, d.all.1.0))
are_hex (b ∷ c ∷ f ∷ v) d = absurd (omega (arith, d.few))

-- an escape by its digits
pub data Form : List ℕ → ℕ → Type 0 where
  simple_form : (b : ℕ) → IsSimple b → Form (92 ∷ b ∷ []) (simple_value b)
  octal_form : (ds : List ℕ) → Digits octal 3 ds → Form (92 ∷ ds) (number_behind 8 0 (digits octal ds) % 256)
  hex_form : (ds : List ℕ) → Digits hex 2 ds → Form (92 ∷ 120 ∷ ds) (number_behind 16 0 (digits hex ds))

pub form : (w : List ℕ) (b : ℕ) → IsEscape w b → Form w b
form _ _ (vocabulary.simple c h) = simple_form c h
form _ _ (vocabulary.octal w (u, v, e, f, d)) =
    let whole : w ≡ 92 ∷ v = e ∙ ap (λ (x : List ℕ). x ++ v) f in
    subst (λ (x : List ℕ). Form x (number_behind 8 0 (digits octal (drop 1 x)) % 256)) (sym whole) (octal_form v (octal_digits v d))
form _ _ (vocabulary.hex w (u, v, e, f, d)) =
    let whole : w ≡ 92 ∷ 120 ∷ v = e ∙ ap (λ (x : List ℕ). x ++ v) f in
    subst (λ (x : List ℕ). Form x (number_behind 16 0 (digits hex (drop 2 x)))) (sym whole) (hex_form v (hex_digits v d))

pub of_escape : (w : List ℕ) → Escape w → (b : ℕ) × Form w b
of_escape w (b, e) = (b, form w b e)

-- each begins with a backslash, and has a byte behind it
form_begins : {w : List ℕ} {b : ℕ} → Form w b → (c : ℕ) × (u : List ℕ) × (w ≡ 92 ∷ c ∷ u)
form_begins (simple_form b h) = (b, [], refl)
form_begins (octal_form [] d) = absurd (omega (arith, d.some))
form_begins (octal_form (c ∷ ds) d) = (c, ds, refl)
form_begins (hex_form ds d) = (120, ds, refl)

pub escape_begins : (w : List ℕ) → Escape w → (c : ℕ) × (u : List ℕ) × (w ≡ 92 ∷ c ∷ u)
escape_begins w e = form_begins (of_escape w e).1

-- no byte behind the second is a quote
module _ (q : ℕ) (no_octal : octal q ≡ false) (no_hex : hex q ≡ false) where
  pub form_without : {w : List ℕ} {b : ℕ} → Form w b → (a z : List ℕ) → w ≡ a ++ q ∷ z → 2 ≤ length a → ⊥
  form_without (simple_form b h) a z e l = omega (arith, ap length e, length-append a (q ∷ z))
  form_without (octal_form ds d) [] z e l = omega arith
  form_without (octal_form ds d) (c ∷ a) z e l = let t = each_at octal ds a q z (cc) d.all in let f : true ≡ false = sym t ∙ no_octal in cc
  form_without (hex_form ds d) [] z e l = omega arith
  form_without (hex_form ds d) (c ∷ []) z e l = omega arith
  form_without (hex_form ds d) (c ∷ f ∷ a) z e l = let t = each_at hex ds a q z (cc) d.all in let g : true ≡ false = sym t ∙ no_hex in cc

pub octal_escape : (ds : List ℕ) → Digits octal 3 ds → Escape (92 ∷ ds)
octal_escape ds d = (number_behind 8 0 (digits octal ds) % 256, vocabulary.octal (92 ∷ ds) (92 ∷ [], ds, refl, refl, are_octal ds d))

pub hex_escape : (ds : List ℕ) → Digits hex 2 ds → Escape (92 ∷ 120 ∷ ds)
hex_escape ds d = (number_behind 16 0 (digits hex ds), vocabulary.hex (92 ∷ 120 ∷ ds) (92 ∷ 120 ∷ [], ds, refl, refl, are_hex ds d))

-- ---- the longest escape

up_to_most : (p : ℕ → Bool) (n : ℕ) (w t u x : List ℕ) → w ++ t ≡ u ++ x → Each p w → ((length w ≡ n) ⊎ Stops p t) → Digits p n u → length u ≤ length w
up_to_most p n w t u x e a (inl f) d = omega (arith, f, d.few)
up_to_most p n w t u x e a (inr f) d = each_most p w t u x e a f d.all

octal_first : (ds : List ℕ) → Digits octal 3 ds → (c : ℕ) (t more : List ℕ) → c ∷ t ≡ ds ++ more → octal c ≡ true
octal_first [] d c t more e = absurd (omega (arith, d.some))
octal_first (b ∷ ds) d c t more e = let same : b ≡ c = cc in subst (λ (x : ℕ). octal x ≡ true) same d.all.0

module _ (ds t : List ℕ) (d : Digits octal 3 ds) (ends : (length ds ≡ 3) ⊎ Stops octal t) where
  octal_most : {v : List ℕ} {b : ℕ} → Form v b → (more : List ℕ) → 92 ∷ (ds ++ t) ≡ v ++ more → length v ≤ length (92 ∷ ds)
  octal_most (simple_form c h) more e = omega (arith, d.some)
  octal_most (octal_form us f) more e = omega (arith, up_to_most octal 3 ds t us more (cc) d.all ends f)
  octal_most (hex_form us f) more e = let g = octal_first ds d 120 (us ++ more) t (cc) in absurd (cc)

  pub octal_longest : (s : List ℕ) → s ≡ 92 ∷ (ds ++ t) → IsLongestWord Escape s (92 ∷ ds) t
  octal_longest s e = record {
    split = e;
    fits = octal_escape ds d;
    longest = λ v more f g. octal_most (of_escape v g).1 more (sym e ∙ f);
  }

module _ (ds t : List ℕ) (d : Digits hex 2 ds) (ends : (length ds ≡ 2) ⊎ Stops hex t) where
  hex_most : {v : List ℕ} {b : ℕ} → Form v b → (more : List ℕ) → 92 ∷ 120 ∷ (ds ++ t) ≡ v ++ more → length v ≤ length (92 ∷ 120 ∷ ds)
  hex_most (simple_form c h) more e = omega arith
  hex_most (octal_form us f) more e = let g = octal_first us f 120 (ds ++ t) more (cc) in absurd (cc)
  hex_most (hex_form us f) more e = omega (arith, up_to_most hex 2 ds t us more (cc) d.all ends f)

  pub hex_longest : (s : List ℕ) → s ≡ 92 ∷ 120 ∷ (ds ++ t) → IsLongestWord Escape s (92 ∷ 120 ∷ ds) t
  hex_longest s e = record {
    split = e;
    fits = hex_escape ds d;
    longest = λ v more f g. hex_most (of_escape v g).1 more (sym e ∙ f);
  }

module _ (c : ℕ) (t : List ℕ) (h : IsSimple c) where
  simple_most : {v : List ℕ} {b : ℕ} → Form v b → (more : List ℕ) → 92 ∷ c ∷ t ≡ v ++ more → length v ≤ 2
  simple_most (simple_form b i) more e = omega arith
  simple_most (octal_form us f) more e = let g = octal_first us f c t more (cc) in let i : true ≡ false = sym g ∙ h.0 in absurd (cc)
  simple_most (hex_form us f) more e = let same : c ≡ 120 = cc in let g = subst (λ (x : ℕ). (x == 120) ≡ false) same h.1 in absurd (cc)

  pub simple_longest : (s : List ℕ) → s ≡ 92 ∷ c ∷ t → IsLongestWord Escape s (92 ∷ c ∷ []) t
  simple_longest s e = record {
    split = e;
    fits = (simple_value c, vocabulary.simple c h);
    longest = λ v more f g. simple_most (of_escape v g).1 more (sym e ∙ f);
  }

-- where there is none
pub no_backslash : (s : List ℕ) → NoneFits (Word (92 ∷ [])) s → NoneFits Escape s
no_backslash s h v more e f =
    let b = escape_begins v f in
    h (92 ∷ []) (b.0 ∷ (b.1 ++ more)) (e ∙ ap (λ (x : List ℕ). x ++ more) b.2) refl

pub nothing_behind : (s : List ℕ) → s ≡ 92 ∷ [] → NoneFits Escape s
nothing_behind s e v more f g =
    let b = escape_begins v g in
    omega (arith, ap length e, ap length f, ap length b.2, length-append v more)

no_digit : (t : List ℕ) → (Begins hex t → ⊥) → {v : List ℕ} {b : ℕ} → Form v b → (more : List ℕ) → 92 ∷ 120 ∷ t ≡ v ++ more → ⊥
no_digit t n (simple_form b h) more e = let same : b ≡ 120 = cc in let g = subst (λ (x : ℕ). (x == 120) ≡ false) same h.1 in cc
no_digit t n (octal_form us f) more e = let g = octal_first us f 120 t more (cc) in cc
no_digit t n (hex_form [] f) more e = omega (arith, f.some)
no_digit t n (hex_form (u ∷ us) f) more e = let same : t ≡ u ∷ (us ++ more) = cc in n (subst (Begins hex) (sym same) f.all.0)

pub no_hex_digit : (s t : List ℕ) → s ≡ 92 ∷ 120 ∷ t → (Begins hex t → ⊥) → NoneFits Escape s
no_hex_digit s t e n v more f g = no_digit t n (of_escape v g).1 more (sym e ∙ f)

-- the digits that are there begin
pub some_digits : (p : ℕ → Bool) (n : ℕ) (s rest : List ℕ) → 0 < n → Begins p s → (r : RunsUpTo p n s rest) → Digits p n r.0
some_digits p n [] rest l b r = absurd b
some_digits p n (c ∷ s) rest l b ([], e, a, f, inl g) = absurd (omega (arith, g))
some_digits p n (c ∷ s) [] l b ([], e, a, f, inr g) = absurd (cc)
some_digits p n (c ∷ s) (d ∷ rest) l b ([], e, a, f, inr g) = let same : c ≡ d = cc in let t = ap p same in absurd (let h : true ≡ false = sym b ∙ t ∙ g in cc)
some_digits p n (c ∷ s) rest l b (x ∷ w, e, a, f, g) = record { all = a; some = omega arith; few = f }

-- a byte that fails a test
pub first_fails : (p : ℕ → Bool) (b : ℕ) (t s : List ℕ) → s ≡ b ∷ t → (Begins p s → ⊥) → p b ≡ false
first_fails p b t s e h = at (p b) refl
  where
    at : (x : Bool) → p b ≡ x → p b ≡ false
    at true f = absurd (h (subst (Begins p) (sym e) f))
    at false f = f

pub other_byte : (b k : ℕ) → (b ≡ k → ⊥) → (b == k) ≡ false
other_byte b k h = at (b == k) refl
  where
    at : (x : Bool) → (b == k) ≡ x → (b == k) ≡ false
    at true f = absurd (h (eqb-true b k f))
    at false f = f
