-- Letters at the front of a text, and what they make between quotes.
use Rattle.std.proofs.Common.{◌≡◌, ℕ, suc, ◌<◌, ◌≤◌, Bool, true, false, List, [], ◌∷◌, ◌++◌, length, Option, Some, None, inl, inr, ⊎_elim, refl, sym, ◌∙◌, ap, subst, append_assoc, arith, length-append}
use Rattle.std.specs.Prelude.{slice_index, ◌==◌, if◌then◌else◌}
use Rattle.std.specs.Borrow.{Bor}
use Rattle.std.proofs.str.Laws.{order}
use Rattle.dt_lex.specs.declared.byte.Class.{Class}
use Rattle.dt_lex.specs.declared.byte.Class.TheVariants as class
use Rattle.dt_lex.specs.Bytes.{is_in}
use Rattle.memchr.specs.Find.{Passes, Nowhere, is_byte}
use Rattle.dt_lex.specs.Words.{Each, Word, Then, IsLongestWord, NoneFits, Skips}
use Rattle.dt_lex.specs.Texts.{plain, behind_backslash, unescaped}
use Rattle.dt_lex.specs.Vocabulary.{Escape, IsInside, nothing, itself, escaped, TextWord, IsCharacter, itself_alone, escaped_alone, CharacterWord}
use Rattle.dt_lex.specs.Letters.{Letter, ClosedText, ClosedCharacter}
use Rattle.dt_lex.proofs.WordLemmas.{same_head}
use Rattle.dt_lex.proofs.QuotedLemmas.{same_front, front_within, front_past, form_without, of_escape, escape_begins}

-- ---- one letter

module _ (c : Class) (apart : is_in c 92 ≡ false) where
  backslash_not : (b : ℕ) → is_in c b ≡ true → b ≡ 92 → ⊥
  backslash_not b h e = let f : true ≡ false = sym h ∙ ap (is_in c) e ∙ apart in cc

  itself_most : (s : List ℕ) (b : ℕ) (t : List ℕ) → s ≡ b ∷ t → is_in c b ≡ true → (v more : List ℕ) → s ≡ v ++ more → Letter c v → length v ≤ 1
  itself_most s b t e h v more f (inl (d, g, i)) = omega (arith, ap length g)
  itself_most s b t e h v more f (inr g) =
      let begin = escape_begins v g in
      let whole : b ∷ t ≡ 92 ∷ (begin.0 ∷ (begin.1 ++ more)) = sym e ∙ f ∙ ap (λ (x : List ℕ). x ++ more) begin.2 in
      let same : b ≡ 92 = cc in
      absurd (backslash_not b h same)

  pub letter_itself : (s : List ℕ) (b : ℕ) (t : List ℕ) → s ≡ b ∷ t → is_in c b ≡ true → IsLongestWord (Letter c) s (b ∷ []) t
  letter_itself s b t e h = record { split = e; fits = inl (b, refl, h); longest = itself_most s b t e h }

pub letter_some : (c : Class) (w : List ℕ) → Letter c w → 0 < length w
letter_some c w (inl (b, e, h)) = omega (arith, ap length e)
letter_some c w (inr f) = let b = escape_begins w f in omega (arith, ap length b.2)

-- ---- a letter, and a quote behind it

module _ (c : Class) (apart : is_in c 92 ≡ false) (q : ℕ) (no_octal : is_in class.Octal q ≡ false) (no_hex : is_in class.Hex q ≡ false) where
  -- the longest letter is no longer than one with a quote behind it
  pub letter_least : (s w t : List ℕ) → IsLongestWord (Letter c) s w t → (a m : List ℕ) → s ≡ a ++ q ∷ m → Letter c a → length w ≤ length a
  letter_least s w t l a m e f = at l.fits f
    where
      whole : w ++ t ≡ a ++ q ∷ m
      whole = sym l.split ∙ e

      at : Letter c w → Letter c a → length w ≤ length a
      at (inl (b, g, h)) k = omega (arith, ap length g, letter_some c a k)
      at (inr g) (inl (b, h, i)) =
          let begin = escape_begins w g in
          let both : 92 ∷ (begin.0 ∷ (begin.1 ++ t)) ≡ b ∷ (q ∷ m) = ap (λ (x : List ℕ). x ++ t) (sym begin.2) ∙ whole ∙ ap (λ (x : List ℕ). x ++ q ∷ m) h in
          let same : b ≡ 92 = cc in
          absurd (backslash_not c apart b i same)
      at (inr g) (inr h) =
          let begin = escape_begins a h in
          ⊎_elim
          (λ (more : length a < length w).
          let past = front_past w t a q m whole more in
          absurd (form_without q no_octal no_hex (of_escape w g).1 a past.0 past.1 (omega (arith, ap length begin.2))))
          (λ (less : length w ≤ length a). less)
          (order (length a) (length w))

  pub letter_is : (s w t : List ℕ) → IsLongestWord (Letter c) s w t → (a m : List ℕ) → s ≡ a ++ q ∷ m → Letter c a → (w ≡ a) × (t ≡ q ∷ m)
  letter_is s w t l a m e f =
      let most = l.longest a (q ∷ m) e f in
      let least = letter_least s w t l a m e f in
      same_front w a t (q ∷ m) (sym l.split ∙ e) (omega (arith, most, least))

-- ---- characters

pub character_closed : (s w t : List ℕ) → IsLongestWord (Letter class.Single) s w t → (r : Option (Bor (List ℕ))) → Skips (Word (39 ∷ [])) t r → Skips (ClosedCharacter class.Single) s r
character_closed s w t l None h = λ x more e (a, k, f, g, i).
    let split : s ≡ a ++ 39 ∷ more = e ∙ ap (λ (y : List ℕ). y ++ more) (f ∙ ap (λ (y : List ℕ). a ++ y) i) ∙ append_assoc a (39 ∷ []) more in
    let same = letter_is class.Single refl 39 refl refl s w t l a more split g in
    h (39 ∷ []) more same.1 refl
character_closed s w t l (Some rest) (k, m) = (
  w ++ k,
  record {
    split = l.split ∙ ap (λ (y : List ℕ). w ++ y) m.split ∙ sym (append_assoc w k rest.now);
    fits = (w, k, refl, l.fits, m.fits);
    longest = λ x more e (a, z, f, g, i).
        let split = e ∙ ap (λ (y : List ℕ). y ++ more) f ∙ append_assoc a z more in
        omega (arith, l.longest a (z ++ more) split g, ap length f, ap length i, ap length m.fits, length-append a z, length-append w k);
  },
)

-- the same words
pub skips_same : (P Q : List ℕ → Type 0) → ((w : List ℕ) → P w → Q w) → ((w : List ℕ) → Q w → P w) → (s : List ℕ) (r : Option (Bor (List ℕ))) → Skips P s r → Skips Q s r
skips_same P Q to from s None h = λ v more e f. h v more e (from v f)
skips_same P Q to from s (Some rest) (w, l) = (w, record { split = l.split; fits = to w l.fits; longest = λ v more e f. l.longest v more e (from v f) })

pub character_to : (w : List ℕ) → Then (Word (39 ∷ [])) (ClosedCharacter class.Single) w → CharacterWord w
character_to w (u, v, e, f, (a, k, g, inl (b, h, i), j)) =
    let whole : w ≡ 39 ∷ b ∷ 39 ∷ [] = e ∙ (λ n. f n ++ v) ∙ ap (λ (x : List ℕ). 39 ∷ x) (g ∙ (λ n. h n ++ j n)) in
    (b, subst (λ (x : List ℕ). IsCharacter x b) (sym whole) (itself_alone b i))
character_to w (u, v, e, f, (a, k, g, inr (b, h), j)) =
    let whole : w ≡ 39 ∷ (a ++ 39 ∷ []) = e ∙ (λ n. f n ++ v) ∙ ap (λ (x : List ℕ). 39 ∷ x) (g ∙ (λ n. a ++ j n)) in
    (b, subst (λ (x : List ℕ). IsCharacter x b) (sym whole) (escaped_alone a b h))

pub character_from : (w : List ℕ) → CharacterWord w → Then (Word (39 ∷ [])) (ClosedCharacter class.Single) w
character_from _ (_, itself_alone b h) = (39 ∷ [], b ∷ 39 ∷ [], refl, refl, (b ∷ [], 39 ∷ [], refl, inl (b, refl, h), refl))
character_from _ (_, escaped_alone e b h) = (39 ∷ [], e ++ 39 ∷ [], refl, refl, (e, 39 ∷ [], refl, inr (b, h), refl))

-- ---- texts

quote_not : (b : ℕ) → is_in class.Quoted b ≡ true → 34 ≡ b → ⊥
quote_not b h e = let f : true ≡ false = sym h ∙ ap (is_in class.Quoted) (sym e) in cc

begins_quote : (t u : List ℕ) → 34 ∷ t ≡ 92 ∷ u → ⊥
begins_quote t u e = omega (arith, ap (λ (x : List ℕ). slice_index x 0) e)

closed_most : {u v : List ℕ} → IsInside u v → (t more : List ℕ) → 34 ∷ t ≡ (u ++ 34 ∷ []) ++ more → length u ≤ 0
closed_most nothing t more e = omega arith
closed_most (itself b w v h i) t more e = absurd (quote_not b h (same_head 34 b t ((w ++ 34 ∷ []) ++ more) e))
closed_most (escaped k w v b h l i) t more e =
    let begin = escape_begins k (b, h) in
    absurd (begins_quote t (begin.0 ∷ (((begin.1 ++ w) ++ 34 ∷ []) ++ more)) (e ∙ ap (λ (x : List ℕ). ((x ++ w) ++ 34 ∷ []) ++ more) begin.2))

-- at the closing quote
pub closed_here : (s t : List ℕ) → s ≡ 34 ∷ t → IsLongestWord ClosedText s (34 ∷ []) t
closed_here s t e = record {
  split = e;
  fits = ([], [], refl, nothing);
  longest = λ x more f (u, v, g, h).
      omega (arith, closed_most h t more (sym e ∙ f ∙ ap (λ (y : List ℕ). y ++ more) g), ap length g, length-append u (34 ∷ []));
}

-- a letter in front
module _ (s w t : List ℕ) (not_here : NoneFits (Word (34 ∷ [])) s) (l : IsLongestWord (Letter class.Quoted) s w t) where
  abbrev Later : List ℕ → List ℕ → Type 0
  Later u more = (x : List ℕ) × (u ≡ w ++ x) × (t ≡ (x ++ 34 ∷ []) ++ more) × ((y : List ℕ) × IsInside x y)

  -- a letter of an inside is the longest one of the text
  same_letter : (a u more : List ℕ) → s ≡ a ++ ((u ++ 34 ∷ []) ++ more) → Letter class.Quoted a → length w ≤ length a → (w ≡ a) × (t ≡ (u ++ 34 ∷ []) ++ more)
  same_letter a u more e f g =
      same_front w a t ((u ++ 34 ∷ []) ++ more) (sym l.split ∙ e) (omega (arith, g, l.longest a ((u ++ 34 ∷ []) ++ more) e f))

  -- and an escape of an inside is no shorter
  escape_least : (a u more : List ℕ) (b : ℕ) → s ≡ a ++ ((u ++ 34 ∷ []) ++ more) → Escape a → IsLongestWord Escape (a ++ u) a u → length w ≤ length a
  escape_least a u more b e f k = at l.fits
    where
      split : s ≡ (a ++ u) ++ 34 ∷ more
      split = e ∙ ap (λ (x : List ℕ). a ++ x) (append_assoc u (34 ∷ []) more) ∙ sym (append_assoc a u (34 ∷ more))

      whole : w ++ t ≡ (a ++ u) ++ 34 ∷ more
      whole = sym l.split ∙ split

      at : Letter class.Quoted w → length w ≤ length a
      at (inl (d, g, h)) = let begin = escape_begins a f in omega (arith, ap length g, ap length begin.2)
      at (inr g) =
          ⊎_elim
          (λ (past : length (a ++ u) < length w).
          let behind = front_past w t (a ++ u) 34 more whole past in
          let begin = escape_begins a f in
          absurd (form_without 34 refl refl (of_escape w g).1 (a ++ u) behind.0 behind.1 (omega (arith, ap length begin.2, length-append a u))))
          (λ (within : length w ≤ length (a ++ u)).
          let front = front_within w t (a ++ u) (34 ∷ more) whole within in
          k.longest w front.0 front.1 g)
          (order (length (a ++ u)) (length w))

  inside_later : {u v : List ℕ} → IsInside u v → (more : List ℕ) → s ≡ (u ++ 34 ∷ []) ++ more → Later u more
  inside_later nothing more e = absurd (not_here (34 ∷ []) more e refl)
  inside_later (itself b x y h i) more e =
      let same = same_letter (b ∷ []) x more e (inl (b, refl, h)) (at l.fits) in
      (x, ap (λ (z : List ℕ). z ++ x) (sym same.0), same.1, (y, i))
    where
      at : Letter class.Quoted w → length w ≤ 1
      at (inl (d, g, k)) = omega (arith, ap length g)
      at (inr g) =
          let begin = escape_begins w g in
          let both : 92 ∷ (begin.0 ∷ (begin.1 ++ t)) ≡ b ∷ ((x ++ 34 ∷ []) ++ more) = ap (λ (z : List ℕ). z ++ t) (sym begin.2) ∙ sym l.split ∙ e in
          let same : b ≡ 92 = cc in
          absurd (backslash_not class.Quoted refl b h same)
  inside_later (escaped a x y b h k i) more e =
      let split = e ∙ ap (λ (z : List ℕ). z ++ more) (append_assoc a x (34 ∷ [])) ∙ append_assoc a (x ++ 34 ∷ []) more in
      let same = same_letter a x more split (inr (b, h)) (escape_least a x more b split (b, h) k) in
      (x, ap (λ (z : List ℕ). z ++ x) (sym same.0), same.1, (y, i))

  -- the longest letter of the text stays it in the text's inside
  inside_more : (u v rest : List ℕ) → t ≡ (u ++ 34 ∷ []) ++ rest → IsInside u v → (y : List ℕ) × IsInside (w ++ u) y
  inside_more u v rest e i = at l.fits
    where
      at : Letter class.Quoted w → (y : List ℕ) × IsInside (w ++ u) y
      at (inl (b, g, h)) = (b ∷ v, subst (λ (x : List ℕ). IsInside (x ++ u) (b ∷ v)) (sym g) (itself b u v h i))
      at (inr (b, g)) = (b ∷ v, escaped w u v b g (record { split = refl; fits = (b, g); longest = most }) i)
        where
          most : (x more : List ℕ) → w ++ u ≡ x ++ more → Escape x → length x ≤ length w
          most x more f k =
              l.longest x (more ++ 34 ∷ rest) (l.split ∙ ap (λ (z : List ℕ). w ++ z) (e ∙ append_assoc u (34 ∷ []) rest) ∙ sym (append_assoc w u (34 ∷ rest)) ∙ ap (λ (z : List ℕ). z ++ 34 ∷ rest) f ∙ append_assoc x more (34 ∷ rest)) (inr k)

  pub closed_go : (r : Option (Bor (List ℕ))) → Skips ClosedText t r → Skips ClosedText s r
  closed_go None h = λ x more e (u, v, f, i).
      let after = inside_later i more (e ∙ ap (λ (y : List ℕ). y ++ more) f) in
      h (after.0 ++ 34 ∷ []) more after.2 (after.0, after.3.0, refl, after.3.1)
  closed_go (Some rest) (z, k) = (
    w ++ z,
    record {
      split = l.split ∙ ap (λ (y : List ℕ). w ++ y) k.split ∙ sym (append_assoc w z rest.now);
      fits = (let whole = inside_more k.fits.0 k.fits.1 rest.now (k.split ∙ ap (λ (y : List ℕ). y ++ rest.now) k.fits.2) k.fits.3 in
          (w ++ k.fits.0, whole.0, ap (λ (y : List ℕ). w ++ y) k.fits.2 ∙ sym (append_assoc w k.fits.0 (34 ∷ [])), whole.1));
      longest = λ x more e (u, v, f, i).
          let after = inside_later i more (e ∙ ap (λ (y : List ℕ). y ++ more) f) in
          let most = k.longest (after.0 ++ 34 ∷ []) more after.2 (after.0, after.3.0, refl, after.3.1) in
          omega (arith, most, ap length f, ap length after.1, length-append u (34 ∷ []), length-append w after.0, length-append after.0 (34 ∷ []), length-append w z);
    },
  )

pub closed_stuck : (s : List ℕ) → NoneFits (Word (34 ∷ [])) s → NoneFits (Letter class.Quoted) s → NoneFits ClosedText s
closed_stuck s not_here none x more e (u, v, f, i) = at i (e ∙ ap (λ (y : List ℕ). y ++ more) f)
  where
    at : {u v : List ℕ} → IsInside u v → s ≡ (u ++ 34 ∷ []) ++ more → ⊥
    at nothing g = not_here (34 ∷ []) more g refl
    at (itself b y z h k) g = none (b ∷ []) ((y ++ 34 ∷ []) ++ more) g (inl (b, refl, h))
    at (escaped a y z b h k j) g =
        none a ((y ++ 34 ∷ []) ++ more) (g ∙ ap (λ (x : List ℕ). x ++ more) (append_assoc a y (34 ∷ [])) ∙ append_assoc a (y ++ 34 ∷ []) more) (inr (b, h))

-- bytes that mean themselves in front
pub closed_run : (w s t : List ℕ) → s ≡ w ++ t → Each (is_in class.Quoted) w → (r : Option (Bor (List ℕ))) → Skips ClosedText t r → Skips ClosedText s r
closed_run [] s t e each r h = subst (λ (x : List ℕ). Skips ClosedText x r) (sym e) h
closed_run (b ∷ w) s t e each r h =
    closed_go s (b ∷ []) (w ++ t) not_here (letter_itself class.Quoted refl s b (w ++ t) e each.0) r (closed_run w (w ++ t) t refl each.1 r h)
  where
    not_here : NoneFits (Word (34 ∷ [])) s
    not_here v more f g =
        let whole : b ∷ (w ++ t) ≡ 34 ∷ more = sym e ∙ f ∙ ap (λ (x : List ℕ). x ++ more) g in
        quote_not b each.0 (sym (same_head b 34 (w ++ t) more whole))

-- bytes without a backslash mean themselves
pub plain_letters : (w : List ℕ) → Nowhere (Passes (is_byte 92) w) 0 (length w) → unescaped plain w ≡ w
plain_letters [] none = refl
plain_letters (b ∷ w) none = by (plain_letters w (λ i low high. none (suc i) (omega arith) (omega (arith, high)))) (b == 92) (none 0 (omega arith) (omega arith))
  where
    by : unescaped plain w ≡ w → (t : Bool) → (t ≡ true → ⊥) → (if t then unescaped behind_backslash w else b ∷ unescaped plain w) ≡ b ∷ w
    by rest true h = absurd (h refl)
    by rest false h = ap (λ (x : List ℕ). b ∷ x) rest

pub text_to : (w : List ℕ) → Then (Word (34 ∷ [])) ClosedText w → TextWord w
text_to w (u, v, e, f, (x, y, g, i)) =
    (y, record { inside = x; whole = e ∙ (λ n. f n ++ g n); says = i })

pub text_from : (w : List ℕ) → TextWord w → Then (Word (34 ∷ [])) ClosedText w
text_from w (y, t) = (34 ∷ [], t.inside ++ 34 ∷ [], t.whole, refl, (t.inside, y, refl, t.says))
