-- The longest front of a text in a set of words that is made of smaller sets.
use Rattle.std.proofs.Common.{◌≡◌, ◌≢◌, ℕ, zero, suc, ◌<◌, ◌≤◌, Bool, true, false, List, [], ◌∷◌, ◌++◌, length, take, get_or, Option, Some, None, ◌⊎◌, inl, inr, refl, sym, ◌∙◌, ap, subst, append_assoc, arith, length-append}
use Rattle.std.proofs.lemmas.Bool.Decides.{nat_tests}
use Rattle.std.specs.Prelude.{IfSome, MatchOption, ◌||◌, ◌==◌}
use Rattle.dt_model.specs.Names.{is_letter, is_digit}
use Rattle.dt_lex.specs.declared.byte.Class.{Class}
use Rattle.dt_lex.specs.declared.byte.Class.TheVariants as class
use Rattle.dt_lex.specs.Bytes.{is_in}
use Rattle.dt_lex.specs.Vocabulary.{Closing, IntegerSuffix, IsDigits, suffixes}
use Rattle.std.specs.Borrow.{Bor}
use Rattle.dt_lex.specs.Words.{Each, Word, One, Without, Begins, Starting, Then, AnyOf, Stops, RunsTo, IsLongestWord, NoneFits, Skips}

-- the same text behind the same front
pub cancel : (k s t : List ℕ) → k ++ s ≡ k ++ t → s ≡ t
cancel [] s t e = e
cancel (b ∷ k) s t e = cancel k s t cc

-- one word
pub word_some : (k s t : List ℕ) → s ≡ k ++ t → IsLongestWord (Word k) s k t
word_some k s t e = record { split = e; fits = refl; longest = λ v more f h. let l = ap length h in omega arith }

pub word_none : (k s : List ℕ) → ((t : List ℕ) → s ≢ k ++ t) → NoneFits (Word k) s
word_none k s h v more e f = h more (e ∙ ap (λ (x : List ℕ). x ++ more) f)

-- where the first part has no front, the whole has none
pub no_first : {P Q : List ℕ → Type 0} (s : List ℕ) → NoneFits P s → NoneFits (Then P Q) s
no_first s h x more e f = h f.0 (f.1 ++ more) (e ∙ ap (λ (y : List ℕ). y ++ more) f.2 ∙ append_assoc f.0 f.1 more) f.3

behind : (Q : List ℕ → Type 0) (k s t x more : List ℕ) → s ≡ k ++ t → s ≡ x ++ more → (f : Then (Word k) Q x) → t ≡ f.1 ++ more
behind Q k s t x more e g f =
    cancel k t (f.1 ++ more) (sym e ∙ g ∙ ap (λ (y : List ℕ). y ++ more) (f.2 ∙ ap (λ (y : List ℕ). y ++ f.1) f.3) ∙ append_assoc k f.1 more)

-- a word, and then a word of a set
pub then_word : (Q : List ℕ → Type 0) (k s t : List ℕ) → s ≡ k ++ t → (r : Option (Bor (List ℕ))) → Skips Q t r → Skips (Then (Word k) Q) s r
then_word Q k s t e None h = λ x more g f. h f.1 more (behind Q k s t x more e g f) f.4
then_word Q k s t e (Some rest) (w, l) = (
  k ++ w,
  record {
    split = e ∙ ap (λ (y : List ℕ). k ++ y) l.split ∙ sym (append_assoc k w rest.now);
    fits = (k, w, refl, refl, l.fits);
    longest = λ x more g f.
        let b = l.longest f.1 more (behind Q k s t x more e g f) f.4 in
        let a = ap length (f.2 ∙ ap (λ (y : List ℕ). y ++ f.1) f.3) in
        omega (arith, a, b, length-append k f.1, length-append k w);
  },
)

-- a front of bytes that pass a test ends where a byte doesn't
pub each_most : (p : ℕ → Bool) (w t u x : List ℕ) → w ++ t ≡ u ++ x → Each p w → Stops p t → Each p u → length u ≤ length w
each_most p w t [] x e a b c = omega arith
each_most p [] [] (d ∷ u) x e a b c = cc
each_most p [] (f ∷ t) (d ∷ u) x e a b c = let same : f ≡ d = cc in let g = ap p same in let h = c.0 in cc
each_most p (f ∷ w) t (d ∷ u) x e a b c = let h = each_most p w t u x (cc) a.1 b c.1 in omega arith

each_cut : (p : ℕ → Bool) (w t u x : List ℕ) → w ++ t ≡ u ++ x → Each p w → Stops p t → Each p u → (b : ℕ) (y : List ℕ) → x ≡ b ∷ y → p b ≡ false → (w ≡ u) × (t ≡ x)
each_cut p [] t [] x e a b c d y f g = (refl, e)
each_cut p [] [] (h ∷ u) x e a b c d y f g = cc
each_cut p [] (i ∷ t) (h ∷ u) x e a b c d y f g = let same : i ≡ h = cc in let k = ap p same in let l = c.0 in cc
each_cut p (h ∷ w) t [] x e a b c d y f g = let same : h ≡ d = cc in let k = ap p same in let l = a.0 in cc
each_cut p (h ∷ w) t (i ∷ u) x e a b c d y f g =
    let r = each_cut p w t u x (cc) a.1 b c.1 d y f g in
    let heads : h ≡ i = cc in
    let tails = r.0 in
    (cc, r.1)

pub each_some : (p : ℕ → Bool) (s w t : List ℕ) → s ≡ w ++ t → Each p w → Stops p t → IsLongestWord (Each p) s w t
each_some p s w t e a b = record { split = e; fits = a; longest = λ v more f c. each_most p w t v more (sym e ∙ f) a b c }

pub all_some : (p : ℕ → Bool) (s : List ℕ) (rest : Bor (List ℕ)) → RunsTo p s rest.now → Skips (Each p) s (Some rest)
all_some p s rest (w, e, a, b) = (w, each_some p s w rest.now e a b)

-- no word of the set begins with a byte that passes the test
abbrev pub StopsAll : (ℕ → Bool) → (List ℕ → Type 0) → Type 0
StopsAll p Q = (v : List ℕ) → Q v → Stops p v

module _ (p : ℕ → Bool) (Q : List ℕ → Type 0) (apart : StopsAll p Q) (s w t : List ℕ) (e : s ≡ w ++ t) (a : Each p w) (b : Stops p t) where
  -- where a longer front would begin
  each_behind : (u v more : List ℕ) → s ≡ (u ++ v) ++ more → Each p u → Q v → ((length u ≤ length w) × (v ≡ [])) ⊎ ((w ≡ u) × (t ≡ v ++ more))
  each_behind u [] more g c q = inl (each_most p w t u ([] ++ more) (sym e ∙ g ∙ append_assoc u [] more) a b c, refl)
  each_behind u (d ∷ v) more g c q = inr (each_cut p w t u (d ∷ (v ++ more)) (sym e ∙ g ∙ append_assoc u (d ∷ v) more) a b c d (v ++ more) refl (apart (d ∷ v) q))

  each_none : NoneFits Q t → NoneFits (Then (Each p) Q) s
  each_none h x more g (u, v, f, c, q) = at (each_behind u v more (g ∙ ap (λ (y : List ℕ). y ++ more) f) c q)
    where
      at : ((length u ≤ length w) × (v ≡ [])) ⊎ ((w ≡ u) × (t ≡ v ++ more)) → ⊥
      at (inl l) = h [] t refl (subst Q l.1 q)
      at (inr l) = h v more l.1 q

  each_longest : (z rest : List ℕ) → IsLongestWord Q t z rest → (x more : List ℕ) → s ≡ x ++ more → Then (Each p) Q x → length x ≤ length (w ++ z)
  each_longest z rest l x more g (u, v, f, c, q) = at (each_behind u v more (g ∙ ap (λ (y : List ℕ). y ++ more) f) c q)
    where
      at : ((length u ≤ length w) × (v ≡ [])) ⊎ ((w ≡ u) × (t ≡ v ++ more)) → length x ≤ length (w ++ z)
      at (inl i) = omega (arith, i.0, ap length i.1, ap length f, length-append u v, length-append w z)
      at (inr i) = omega (arith, ap length i.0, l.longest v more i.1 q, ap length f, length-append u v, length-append w z)

  pub then_each_at : (r : Option (Bor (List ℕ))) → Skips Q t r → Skips (Then (Each p) Q) s r
  then_each_at None h = each_none h
  then_each_at (Some rest) (z, l) = (
    w ++ z,
    record {
      split = e ∙ ap (λ (y : List ℕ). w ++ y) l.split ∙ sym (append_assoc w z rest.now);
      fits = (w, z, refl, a, l.fits);
      longest = each_longest z rest.now l;
    },
  )

  -- the same where the first byte passes a test too
  pub then_run_at : (q : ℕ → Bool) → Begins q w → (r : Option (Bor (List ℕ))) → Skips Q t r → Skips (Then (Starting q (Each p)) Q) s r
  then_run_at q f None h = λ x more g (u, v, i, c, k). each_none h x more g (u, v, i, c.1, k)
  then_run_at q f (Some rest) (z, l) = (
    w ++ z,
    record {
      split = e ∙ ap (λ (y : List ℕ). w ++ y) l.split ∙ sym (append_assoc w z rest.now);
      fits = (w, z, refl, (f, a), l.fits);
      longest = λ x more g (u, v, i, c, k). each_longest z rest.now l x more g (u, v, i, c.1, k);
    },
  )

-- bytes that pass a test, and then a word that begins with none
pub then_each : (p : ℕ → Bool) (Q : List ℕ → Type 0) → StopsAll p Q → (s t : List ℕ) → RunsTo p s t → (r : Option (Bor (List ℕ))) → Skips Q t r → Skips (Then (Each p) Q) s r
then_each p Q apart s t (w, e, a, b) = then_each_at p Q apart s w t e a b

begins_front : (p : ℕ → Bool) (s w rest : List ℕ) → s ≡ w ++ rest → length rest < length s → Begins p s → Begins p w
begins_front p s [] rest e l h = let f = ap length e in absurd (omega arith)
begins_front p [] (b ∷ w) rest e l h = absurd h
begins_front p (c ∷ s) (b ∷ w) rest e l h = let same : c ≡ b = cc in subst (λ (x : ℕ). p x ≡ true) same h

pub begins_of : (p : ℕ → Bool) (s w rest : List ℕ) → s ≡ w ++ rest → Begins p w → Begins p s
begins_of p s [] rest e h = absurd h
begins_of p [] (b ∷ w) rest e h = cc
begins_of p (c ∷ s) (b ∷ w) rest e h = let same : b ≡ c = cc in subst (λ (x : ℕ). p x ≡ true) same h

-- a word whose first byte passes a test
pub starting : (p : ℕ → Bool) (P : List ℕ → Type 0) (s : List ℕ) → Begins p s → (r : Option (Bor (List ℕ))) → IfSome r (λ rest. length rest.now < length s) → Skips P s r → Skips (Starting p P) s r
starting p P s b None short h = λ v more e f. h v more e f.1
starting p P s b (Some rest) short (w, l) = (
  w,
  record {
    split = l.split;
    fits = (begins_front p s w rest.now l.split short b, l.fits);
    longest = λ v more e f. l.longest v more e f.1;
  },
)

pub not_starting : (p : ℕ → Bool) (P : List ℕ → Type 0) (s : List ℕ) → (Begins p s → ⊥) → NoneFits (Starting p P) s
not_starting p P s b v more e f = b (begins_of p s v more e f.0)

-- bytes in which two bytes don't stand side by side, and those two
abbrev pub Closed : ℕ → ℕ → List ℕ → Type 0
Closed p q = Then (Without (p ∷ q ∷ [])) (Word (p ∷ q ∷ []))

pub same_tail : (b c : ℕ) (u v : List ℕ) → b ∷ u ≡ c ∷ v → u ≡ v
same_tail b c u v e = cc

pub same_head : (b c : ℕ) (u v : List ℕ) → b ∷ u ≡ c ∷ v → b ≡ c
same_head b c u v e = cc

module _ (p q : ℕ) where
  closed_empty : (s : List ℕ) → s ≡ [] → NoneFits (Closed p q) s
  closed_empty s e v more f ([], y, g, h, k) = let l : v ≡ p ∷ q ∷ [] = g ∙ k in cc
  closed_empty s e v more f (b ∷ u, y, g, h, k) = cc

  stands_not : (u v : List ℕ) → [] ≡ u ++ (p ∷ q ∷ v) → ⊥
  stands_not [] v f = cc
  stands_not (b ∷ u) v f = cc

  module _ (apart : p ≡ q → ⊥) (s t : List ℕ) (e : s ≡ p ∷ q ∷ t) where
    closed_shortest : (v more : List ℕ) → s ≡ v ++ more → (u k : List ℕ) → v ≡ u ++ k → Without (p ∷ q ∷ []) u → k ≡ p ∷ q ∷ [] → length v ≤ 2
    closed_shortest v more f [] k g h i = omega (arith, ap length (g ∙ i))
    closed_shortest v more f (b ∷ []) k g h i =
        let whole : p ∷ q ∷ t ≡ b ∷ p ∷ q ∷ more = sym e ∙ f ∙ ap (λ (x : List ℕ). x ++ more) (g ∙ ap (λ (x : List ℕ). b ∷ x) i) in
        absurd (apart (sym (same_head q p t (q ∷ more) (same_tail p b (q ∷ t) (p ∷ q ∷ more) whole))))
    closed_shortest v more f (b ∷ c ∷ u) k g h i =
        let whole : p ∷ q ∷ t ≡ b ∷ c ∷ ((u ++ k) ++ more) = sym e ∙ f ∙ ap (λ (x : List ℕ). x ++ more) g in
        let first : b ≡ p = sym (same_head p b (q ∷ t) (c ∷ ((u ++ k) ++ more)) whole) in
        let second : c ≡ q = sym (same_head q c t ((u ++ k) ++ more) (same_tail p b (q ∷ t) (c ∷ ((u ++ k) ++ more)) whole)) in
        absurd (h [] u (λ j. first j ∷ second j ∷ u))

    closed_here : IsLongestWord (Closed p q) s (p ∷ q ∷ []) t
    closed_here = record {
      split = e;
      fits = ([], p ∷ q ∷ [], refl, stands_not, refl);
      longest = λ v more f g. closed_shortest v more f g.0 g.1 g.2 g.3 g.4;
    }

  module _ (s : List ℕ) (b : ℕ) (t : List ℕ) (e : s ≡ b ∷ t) (not_here : NoneFits (Word (p ∷ q ∷ [])) s) where
    -- a longer front closes behind the first byte
    closed_later : (v more : List ℕ) → s ≡ v ++ more → Closed p q v → (u : List ℕ) × (v ≡ b ∷ u) × (t ≡ u ++ more) × Closed p q u
    closed_later v more f ([], k, g, h, i) = absurd (not_here v more f (g ∙ i))
    closed_later v more f (c ∷ u, k, g, h, i) =
        let whole : b ∷ t ≡ c ∷ ((u ++ k) ++ more) = sym e ∙ f ∙ ap (λ (x : List ℕ). x ++ more) g in
        let same : c ≡ b = sym (same_head b c t ((u ++ k) ++ more) whole) in
        (u ++ k, g ∙ ap (λ (x : ℕ). x ∷ (u ++ k)) same, same_tail b c t ((u ++ k) ++ more) whole, (u, k, refl, λ x y j. h (c ∷ x) y (ap (λ (z : List ℕ). c ∷ z) j), i))

    -- and a front that closes behind it is one with it
    closed_sooner : (w rest : List ℕ) → t ≡ w ++ rest → Closed p q w → Closed p q (b ∷ w)
    closed_sooner w rest f (u, k, g, h, i) = (b ∷ u, k, ap (λ (x : List ℕ). b ∷ x) g, none, i)
      where
        none : (x y : List ℕ) → b ∷ u ≡ x ++ (p ∷ q ∷ y) → ⊥
        none [] y j = not_here (p ∷ q ∷ []) (y ++ (k ++ rest)) (e ∙ ap (λ (z : List ℕ). b ∷ z) (f ∙ ap (λ (z : List ℕ). z ++ rest) g ∙ append_assoc u k rest) ∙ ap (λ (z : List ℕ). z ++ (k ++ rest)) j) refl
        none (c ∷ x) y j = h x y (same_tail b c u (x ++ (p ∷ q ∷ y)) j)

    closed_go : (r : Option (Bor (List ℕ))) → Skips (Closed p q) t r → Skips (Closed p q) s r
    closed_go None h = λ v more f g. let l = closed_later v more f g in h l.0 more l.2 l.3
    closed_go (Some rest) (w, k) = (
      b ∷ w,
      record {
        split = e ∙ ap (λ (y : List ℕ). b ∷ y) k.split;
        fits = closed_sooner w rest.now k.split k.fits;
        longest = λ v more f g.
            let l = closed_later v more f g in
            omega (arith, ap length l.1, k.longest l.0 more l.2 l.3);
      },
    )

different : (p q : ℕ) → p < q → p ≡ q → ⊥
different p q l e = omega (arith, l, e)

-- up to the next `*/`
pub closing_empty : (s : List ℕ) → s ≡ [] → NoneFits Closing s
closing_empty = closed_empty 42 47

pub closing_here : (s t : List ℕ) → s ≡ 42 ∷ 47 ∷ t → IsLongestWord Closing s (42 ∷ 47 ∷ []) t
closing_here = closed_here 42 47 (different 42 47 (omega arith))

pub closing_go : (s : List ℕ) (b : ℕ) (t : List ℕ) → s ≡ b ∷ t → NoneFits (Word (42 ∷ 47 ∷ [])) s → (r : Option (Bor (List ℕ))) → Skips Closing t r → Skips Closing s r
closing_go = closed_go 42 47

abbrev pub AllStop : (ℕ → Bool) → List (List ℕ) → Type 0
AllStop p [] = Unit {0}
AllStop p (k ∷ ks) = Stops p k × AllStop p ks

pub stops_any : (p : ℕ → Bool) (ks : List (List ℕ)) → AllStop p ks → StopsAll p (AnyOf ks)
stops_any p [] h v f = absurd f
stops_any p (k ∷ ks) h v (inl f) = subst (Stops p) (sym f) h.0
stops_any p (k ∷ ks) h v (inr f) = stops_any p ks h.1 v f

pub stops_word : (p : ℕ → Bool) (k : List ℕ) → Stops p k → StopsAll p (Word k)
stops_word p k h v f = subst (Stops p) (sym f) h

pub each_push : (p : ℕ → Bool) (w : List ℕ) (b : ℕ) → Each p w → p b ≡ true → Each p (w ++ b ∷ [])
each_push p [] b h t = (t, tt)
each_push p (c ∷ w) b h t = (h.0, each_push p w b h.1 t)

pub word_after : (k s : List ℕ) (r : Option (Bor (List ℕ))) → MatchOption r ((rest : List ℕ) → s ≢ k ++ rest) (λ x. s ≡ k ++ x.now) → Skips (Word k) s r
word_after k s None h = word_none k s h
word_after k s (Some x) h = (k, word_some k s x.now h)

-- a first byte that passes the test is skipped
pub runs_shorter : (p q : ℕ → Bool) → ((b : ℕ) → q b ≡ true → p b ≡ true) → (s rest : List ℕ) → Begins q s → RunsTo p s rest → length rest < length s
runs_shorter p q sub [] rest b r = absurd b
runs_shorter p q sub (c ∷ s) [] b r = omega arith
runs_shorter p q sub (c ∷ s) (d ∷ rest) b ([], e, a, f) = let same : c ≡ d = cc in let t = ap p same in let g = sub c b in absurd (let h : true ≡ false = cc in cc)
runs_shorter p q sub (c ∷ s) (d ∷ rest) b (x ∷ w, e, a, f) = omega (arith, ap length e, length-append w (d ∷ rest))

-- a run that isn't empty
pub run_begins : (p : ℕ → Bool) (s rest : List ℕ) → RunsTo p s rest → length rest < length s → Begins p s
run_begins p s rest ([], e, each, stops) l = absurd (omega (arith, ap length e, l))
run_begins p s rest (b ∷ w, e, each, stops) l = begins_of p s (b ∷ w) rest e each.0

pub digits_stop : (c : Class) → IsDigits c → StopsAll (is_in c) IntegerSuffix
digits_stop class.Digit h = stops_any (is_in class.Digit) suffixes (refl, (refl, (refl, (refl, (refl, (tt, tt))))))
digits_stop class.Hex h = stops_any (is_in class.Hex) suffixes (refl, (refl, (refl, (refl, (refl, (tt, tt))))))
digits_stop _ h = absurd h

pub still_shorter : (r : Option (Bor (List ℕ))) (s t : List ℕ) → length t < length s → IfSome r (λ rest. length rest.now ≤ length t) → IfSome r (λ rest. length rest.now < length s)
still_shorter None s t l h = tt
still_shorter (Some rest) s t l h = omega arith

pub word_split : (k s t : List ℕ) → (w : List ℕ) × IsLongestWord (Word k) s w t → s ≡ k ++ t
word_split k s t (w, l) = l.split ∙ ap (λ (x : List ℕ). x ++ t) l.fits

-- a word that was read, and then a word of a set
pub word_then : (Q : List ℕ → Type 0) (k s t : List ℕ) → (w : List ℕ) × IsLongestWord (Word k) s w t → (r : Option (Bor (List ℕ))) → Skips Q t r → Skips (Then (Word k) Q) s r
word_then Q k s t w r h = then_word Q k s t (word_split k s t w) r h

-- bytes that pass a test, the first another one too, and then a word that begins with none
pub then_run : (p q : ℕ → Bool) → ((b : ℕ) → q b ≡ true → p b ≡ true) → (Q : List ℕ → Type 0) → StopsAll p Q → (s t : List ℕ) → Begins q s → RunsTo p s t → (r : Option (Bor (List ℕ))) → Skips Q t r → Skips (Then (Starting q (Each p)) Q) s r
then_run p q sub Q apart s t f (w, e, a, b) = then_run_at p Q apart s w t e a b q (begins_front q s w t e (runs_shorter p q sub s t f (w, e, a, b)) f)

or_more : (l d x : Bool) → (l || x) ≡ true → ((l || d) || x) ≡ true
or_more true d x h = refl
or_more false true x h = refl
or_more false false x h = h

pub starts_label : (b : ℕ) → is_in class.LabelStart b ≡ true → is_in class.Label b ≡ true
starts_label b h = or_more (is_letter b) (is_digit b) (b == 95) h

digit_apart : (b : ℕ) → is_in class.Digit b ≡ true → is_in class.LineBlank b ≡ false
digit_apart b h = grind (arith, nat_tests)

pub digit_in_line : (b : ℕ) → is_in class.Digit b ≡ true → is_in class.Line b ≡ true
digit_in_line b h = grind (arith, nat_tests)

pub blanks_stop : StopsAll (is_in class.LineBlank) (Starting (is_in class.Digit) (Each (is_in class.Line)))
blanks_stop [] h = tt
blanks_stop (b ∷ v) h = digit_apart b h.0

pub two_some : (p : ℕ → Bool) (s : List ℕ) (b c : ℕ) (t : List ℕ) → s ≡ b ∷ c ∷ t → p b ≡ true → p c ≡ true → IsLongestWord (Then (One p) (One p)) s (b ∷ c ∷ []) t
two_some p s b c t e h i = record {
  split = e;
  fits = (b ∷ [], c ∷ [], refl, (b, refl, h), (c, refl, i));
  longest = λ v more f (x, y, g, k, l). omega (arith, ap length g, ap length k.1, ap length l.1, length-append x y);
}

-- each word of a list is no longer than k, or doesn't begin the text
abbrev pub NoneLonger : (k s : List ℕ) → List (List ℕ) → Type 0
NoneLonger k s [] = Unit {0}
NoneLonger k s (j ∷ js) = (NoneFits (Word j) s ⊎ (length j ≤ length k)) × NoneLonger k s js

none_longer : (k s : List ℕ) (js : List (List ℕ)) → NoneLonger k s js → (v more : List ℕ) → s ≡ v ++ more → AnyOf js v → length v ≤ length k
none_longer k s [] h v more e f = absurd f
none_longer k s (j ∷ js) (inl none, h) v more e (inl f) = absurd (none v more e f)
none_longer k s (j ∷ js) (inr short, h) v more e (inl f) = omega (arith, short, ap length f)
none_longer k s (j ∷ js) (g, h) v more e (inr f) = none_longer k s js h v more e f

-- a word of a list that begins the text is the longest where no longer one does
pub any_longest : (k s t : List ℕ) (js : List (List ℕ)) → s ≡ k ++ t → AnyOf js k → NoneLonger k s js → IsLongestWord (AnyOf js) s k t
any_longest k s t js e f h = record { split = e; fits = f; longest = none_longer k s js h }

-- ---- a run, byte by byte

pub one_more : (p : ℕ → Bool) (s : List ℕ) (n : ℕ) → n < length s → Each p (take n s) → p (get_or s n 0) ≡ true → Each p (take (suc n) s)
one_more p [] n lt each is = absurd (omega (arith, lt))
one_more p (b ∷ s) zero lt each is = (is, tt)
one_more p (b ∷ s) (suc n) lt each is = (each.0, one_more p s n (omega (arith, lt)) each.1 is)
