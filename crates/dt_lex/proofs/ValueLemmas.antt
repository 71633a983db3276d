-- The bytes that letters stand for, read from byte to byte.
use Rattle.std.proofs.Common.{◌≡◌, ℕ, zero, suc, ◌+◌, ◌-◌, ◌*◌, ◌<◌, ◌≤◌, Bool, true, false, List, [], ◌∷◌, ◌++◌, length, take, ◌⊎◌, inl, inr, ⊎_elim, refl, sym, ◌∙◌, ap, append_assoc, arith, length-append}
use Rattle.std.specs.Prelude.{◌==◌, ◌%◌, ◌&&◌, nat_lt, slice_index}
use Rattle.std.proofs.str.Laws.{order}
use Rattle.std.proofs.lemmas.Bool.{lt-ltb}
use Rattle.dt_lex.specs.declared.byte.Class.TheVariants as class
use Rattle.dt_lex.specs.Bytes.{is_in}
use Rattle.dt_lex.specs.Numbers.{digit_of, digits, number_behind}
use Rattle.dt_lex.specs.Words.{Each, Stops, IsLongestWord}
use Rattle.dt_lex.specs.Vocabulary.{Escape, IsInside, nothing, itself, escaped, IsText, IsCharacter, itself_alone, escaped_alone, simple_value}
use Rattle.dt_lex.specs.Texts as texts
use Rattle.dt_lex.specs.Texts.{plain, unescaped, inner, text_bytes, character_value}
use Rattle.dt_lex.proofs.WordLemmas.{each_push}
use Rattle.dt_lex.proofs.QuotedLemmas.{Digits, Form, simple_form, octal_form, hex_form, form, octal_escape, hex_escape, other_byte}

abbrev octal : ℕ → Bool
octal = is_in class.Octal

abbrev hex : ℕ → Bool
hex = is_in class.Hex

and_false : (b : Bool) → (b && false) ≡ false
and_false true = refl
and_false false = refl

-- ---- digits

pub octal_here : (v c : ℕ) (w : List ℕ) → ((c ≡ 3) ⊎ Stops octal w) → unescaped (texts.octal v c) w ≡ (v % 256) ∷ unescaped plain w
octal_here v c [] h = refl
octal_here v c (b ∷ w) (inl e) = rw e refl
octal_here v c (b ∷ w) (inr e) = rw (e, and_false (nat_lt c 3)) refl

pub octal_more : (v c d : ℕ) (s w : List ℕ) → s ≡ d ∷ w → c < 3 → octal d ≡ true → unescaped (texts.octal v c) s ≡ unescaped (texts.octal (v * 8 + digit_of d) (c + 1)) w
octal_more v c d s w e l h = ap (unescaped (texts.octal v c)) e ∙ rw (lt-ltb c 3 l, h) refl

pub hex_here : (v c : ℕ) (w : List ℕ) → ((c ≡ 2) ⊎ Stops hex w) → unescaped (texts.hex v c) w ≡ v ∷ unescaped plain w
hex_here v c [] h = refl
hex_here v c (b ∷ w) (inl e) = rw e refl
hex_here v c (b ∷ w) (inr e) = rw (e, and_false (nat_lt c 2)) refl

pub hex_more : (v c d : ℕ) (s w : List ℕ) → s ≡ d ∷ w → c < 2 → hex d ≡ true → unescaped (texts.hex v c) s ≡ unescaped (texts.hex (v * 16 + digit_of d) (c + 1)) w
hex_more v c d s w e l h = ap (unescaped (texts.hex v c)) e ∙ rw (lt-ltb c 2 l, h) refl

octal_run : (v c : ℕ) (ds w : List ℕ) → Each octal ds → c + length ds ≤ 3 → ((c + length ds ≡ 3) ⊎ Stops octal w) → unescaped (texts.octal v c) (ds ++ w) ≡ (number_behind 8 v (digits octal ds) % 256) ∷ unescaped plain w
octal_run v c [] w a l (inl e) = octal_here v c w (inl (omega (arith, e)))
octal_run v c [] w a l (inr e) = octal_here v c w (inr e)
octal_run v c (d ∷ ds) w a l e =
    let more = octal_more v c d (d ∷ (ds ++ w)) (ds ++ w) refl (omega (arith, l)) a.0 in
    let rest = octal_run (v * 8 + digit_of d) (c + 1) ds w a.1 (omega (arith, l)) (at e) in
    more ∙ rest ∙ rw a.0 refl
  where
    at : ((c + length (d ∷ ds) ≡ 3) ⊎ Stops octal w) → ((c + 1 + length ds ≡ 3) ⊎ Stops octal w)
    at (inl f) = inl (omega (arith, f))
    at (inr f) = inr f

hex_run : (v c : ℕ) (ds w : List ℕ) → Each hex ds → c + length ds ≤ 2 → ((c + length ds ≡ 2) ⊎ Stops hex w) → unescaped (texts.hex v c) (ds ++ w) ≡ number_behind 16 v (digits hex ds) ∷ unescaped plain w
hex_run v c [] w a l (inl e) = hex_here v c w (inl (omega (arith, e)))
hex_run v c [] w a l (inr e) = hex_here v c w (inr e)
hex_run v c (d ∷ ds) w a l e =
    let more = hex_more v c d (d ∷ (ds ++ w)) (ds ++ w) refl (omega (arith, l)) a.0 in
    let rest = hex_run (v * 16 + digit_of d) (c + 1) ds w a.1 (omega (arith, l)) (at e) in
    more ∙ rest ∙ rw a.0 refl
  where
    at : ((c + length (d ∷ ds) ≡ 2) ⊎ Stops hex w) → ((c + 1 + length ds ≡ 2) ⊎ Stops hex w)
    at (inl f) = inl (omega (arith, f))
    at (inr f) = inr f

-- ---- letters

pub plain_itself : (s : List ℕ) (b : ℕ) (t : List ℕ) → s ≡ b ∷ t → (b ≡ 92 → ⊥) → unescaped plain s ≡ b ∷ unescaped plain t
plain_itself s b t e h = ap (unescaped plain) e ∙ rw (other_byte b 92 h) refl

pub plain_octal : (s : List ℕ) (c : ℕ) (t : List ℕ) → s ≡ 92 ∷ c ∷ t → octal c ≡ true → unescaped plain s ≡ unescaped (texts.octal 0 0) (c ∷ t)
plain_octal s c t e h =
    let none : digit_of c ≡ 0 * 8 + digit_of c = omega arith in
    ap (unescaped plain) e ∙ rw h (ap (λ (n : ℕ). unescaped (texts.octal n 1) t) none)

pub plain_simple : (s : List ℕ) (c : ℕ) (t : List ℕ) → s ≡ 92 ∷ c ∷ t → octal c ≡ false → (c == 120) ≡ false → unescaped plain s ≡ simple_value c ∷ unescaped plain t
plain_simple s c t e h i = ap (unescaped plain) e ∙ rw (h, i) refl

-- ---- the grammar

octal_ends : (ds w : List ℕ) → Digits octal 3 ds → IsLongestWord Escape ((92 ∷ ds) ++ w) (92 ∷ ds) w → (length ds ≡ 3) ⊎ Stops octal w
octal_ends ds [] d l = inr tt
octal_ends ds (b ∷ w) d l = at (octal b) refl
  where
    at : (x : Bool) → octal b ≡ x → (length ds ≡ 3) ⊎ Stops octal (b ∷ w)
    at false e = inr e
    at true e =
        ⊎_elim
        (λ (less : length ds < 3).
        let longer : Digits octal 3 (ds ++ b ∷ []) = record { all = each_push octal ds b d.all e; some = omega (arith, length-append ds (b ∷ [])); few = omega (arith, length-append ds (b ∷ [])) } in
        let most = l.longest (92 ∷ (ds ++ b ∷ [])) w (ap (λ (x : List ℕ). 92 ∷ x) (sym (append_assoc ds (b ∷ []) w))) (octal_escape (ds ++ b ∷ []) longer) in
        absurd (omega (arith, most, length-append ds (b ∷ []))))
        (λ (all : 3 ≤ length ds). inl (omega (arith, all, d.few)))
        (order (length ds) 3)

hex_ends : (ds w : List ℕ) → Digits hex 2 ds → IsLongestWord Escape ((92 ∷ 120 ∷ ds) ++ w) (92 ∷ 120 ∷ ds) w → (length ds ≡ 2) ⊎ Stops hex w
hex_ends ds [] d l = inr tt
hex_ends ds (b ∷ w) d l = at (hex b) refl
  where
    at : (x : Bool) → hex b ≡ x → (length ds ≡ 2) ⊎ Stops hex (b ∷ w)
    at false e = inr e
    at true e =
        ⊎_elim
        (λ (less : length ds < 2).
        let longer : Digits hex 2 (ds ++ b ∷ []) = record { all = each_push hex ds b d.all e; some = omega (arith, length-append ds (b ∷ [])); few = omega (arith, length-append ds (b ∷ [])) } in
        let most = l.longest (92 ∷ 120 ∷ (ds ++ b ∷ [])) w (ap (λ (x : List ℕ). 92 ∷ 120 ∷ x) (sym (append_assoc ds (b ∷ []) w))) (hex_escape (ds ++ b ∷ []) longer) in
        absurd (omega (arith, most, length-append ds (b ∷ []))))
        (λ (all : 2 ≤ length ds). inl (omega (arith, all, d.few)))
        (order (length ds) 2)

from_none : (n k : ℕ) (P : Type 0) → ((n ≡ k) ⊎ P) → ((0 + n ≡ k) ⊎ P)
from_none n k P (inl e) = inl (omega (arith, e))
from_none n k P (inr h) = inr h

form_read : {e : List ℕ} {b : ℕ} → Form e b → (w : List ℕ) → IsLongestWord Escape (e ++ w) e w → unescaped plain (e ++ w) ≡ b ∷ unescaped plain w
form_read (simple_form c h) w l = plain_simple (92 ∷ c ∷ w) c w refl h.0 h.1
form_read (octal_form [] d) w l = absurd (omega (arith, d.some))
form_read (octal_form (c ∷ ds) d) w l =
    plain_octal (92 ∷ c ∷ (ds ++ w)) c (ds ++ w) refl d.all.0 ∙ octal_run 0 0 (c ∷ ds) w d.all (omega (arith, d.few)) (from_none (length (c ∷ ds)) 3 (Stops octal w) (octal_ends (c ∷ ds) w d l))
form_read (hex_form ds d) w l = hex_run 0 0 ds w d.all (omega (arith, d.few)) (from_none (length ds) 2 (Stops hex w) (hex_ends ds w d l))

inside_read : {w v : List ℕ} → IsInside w v → unescaped plain w ≡ v
inside_read nothing = refl
inside_read (itself b w v h i) = plain_itself (b ∷ w) b w refl (λ e. let f : true ≡ false = sym h ∙ ap (is_in class.Quoted) e in cc) ∙ ap (λ (x : List ℕ). b ∷ x) (inside_read i)
inside_read (escaped e w v b h l i) = form_read (form e b h) w l ∙ ap (λ (x : List ℕ). b ∷ x) (inside_read i)

take_front : (u v : List ℕ) → take (length u) (u ++ v) ≡ u
take_front [] v = refl
take_front (b ∷ u) v = ap (λ (x : List ℕ). b ∷ x) (take_front u v)

inner_of : (q r : ℕ) (u : List ℕ) → inner (q ∷ (u ++ r ∷ [])) ≡ u
inner_of q r u =
    let count : length (q ∷ (u ++ r ∷ [])) - 1 - 1 ≡ length u = omega (arith, length-append u (r ∷ [])) in
    ap (λ (n : ℕ). take n (u ++ r ∷ [])) count ∙ take_front u (r ∷ [])

pub text_read : (w v : List ℕ) → IsText w v → text_bytes w ≡ v
text_read w v t = ap text_bytes t.whole ∙ ap (unescaped plain) (inner_of 34 34 t.inside) ∙ inside_read t.says

append_none : (u : List ℕ) → u ++ [] ≡ u
append_none [] = refl
append_none (b ∷ u) = ap (λ (x : List ℕ). b ∷ x) (append_none u)

pub character_read : (w : List ℕ) (v : ℕ) → IsCharacter w v → character_value w ≡ v
character_read _ _ (itself_alone b h) =
    ap (λ (x : List ℕ). slice_index x 0) (plain_itself (b ∷ []) b [] refl (λ e. let f : true ≡ false = sym h ∙ ap (is_in class.Single) e in cc))
character_read _ _ (escaped_alone e b h) =
    let alone : IsLongestWord Escape (e ++ []) e [] = record { split = refl; fits = (b, h); longest = λ v more f g. omega (arith, ap length f, length-append e [], length-append v more) } in
    let read = ap (unescaped plain) (inner_of 39 39 e ∙ sym (append_none e)) ∙ form_read (form e b h) [] alone in
    ap (λ (x : List ℕ). slice_index x 0) read

-- ---- how large the numbers grow

abbrev pub octal_bound : ℕ → ℕ
octal_bound zero = 1
octal_bound (suc zero) = 8
octal_bound (suc (suc zero)) = 64
octal_bound _ = 512

pub octal_grows : (v d c : ℕ) → c < 3 → d < 8 → v < octal_bound c → v * 8 + d < octal_bound (c + 1)
octal_grows v d zero l e h = omega (arith, e, h)
octal_grows v d (suc zero) l e h = omega (arith, e, h)
octal_grows v d (suc (suc zero)) l e h = omega (arith, e, h)
octal_grows v d (suc (suc (suc c))) l e h = absurd (omega (arith, l))

pub octal_most : (v c : ℕ) → v < octal_bound c → v < 512
octal_most v zero h = omega (arith, h)
octal_most v (suc zero) h = omega (arith, h)
octal_most v (suc (suc zero)) h = omega (arith, h)
octal_most v (suc (suc (suc c))) h = h

abbrev pub hex_bound : ℕ → ℕ
hex_bound zero = 1
hex_bound (suc zero) = 16
hex_bound _ = 256

pub hex_grows : (v d c : ℕ) → c < 2 → d < 16 → v < hex_bound c → v * 16 + d < hex_bound (c + 1)
hex_grows v d zero l e h = omega (arith, e, h)
hex_grows v d (suc zero) l e h = omega (arith, e, h)
hex_grows v d (suc (suc c)) l e h = absurd (omega (arith, l))

pub hex_most : (v c : ℕ) → v < hex_bound c → v < 256
hex_most v zero h = omega (arith, h)
hex_most v (suc zero) h = omega (arith, h)
hex_most v (suc (suc c)) h = h
