-- What a text between quotes stands for is bytes, where it is made of bytes.
use Rattle.std.proofs.Common.{◌≡◌, ℕ, zero, suc, ◌+◌, ◌*◌, ◌-◌, ◌<◌, Bool, true, false, List, [], ◌∷◌, length, take, drop, refl, arith}
use Rattle.std.specs.Prelude.{◌==◌, ◌&&◌, nat_lt, if◌then◌else◌}
use Rattle.std.proofs.lemmas.Bool.{ltb-true}
use Rattle.std.proofs.lemmas.Bool.Decides.{nat_tests}
use Rattle.std.proofs.Math.Nat.{mod-lt}
use Rattle.dt_lex.specs.declared.byte.Class.TheVariants as class
use Rattle.dt_lex.specs.Bytes.{is_in}
use Rattle.dt_lex.specs.Numbers.{digit_of}
use Rattle.dt_lex.specs.Vocabulary.{simple_value}
use Rattle.dt_lex.specs.Texts.{Within, plain, behind_backslash, octal, hex, or_escape, unescaped, inner, text_bytes}
use Rattle.dt_lex.proofs.ValueLemmas.{hex_bound, hex_grows, hex_most}
use Rattle.dt_grammar.specs.WordBytes.{AreBytes}

either : {X : Type 0} (P : X → Type 0) (x y : X) (test : Bool) → (test ≡ true → P x) → (test ≡ false → P y) → P (if test then x else y)
either P x y true f g = f refl
either P x y false f g = g refl

and_true : (a b : Bool) → (a && b) ≡ true → (a ≡ true) × (b ≡ true)
and_true true b h = (refl, h)
and_true false b h = cc

simple_small : (b : ℕ) → b < 256 → simple_value b < 256
simple_small b h = grind (arith, nat_tests)

pub digit_small : (b : ℕ) → is_in class.Hex b ≡ true → digit_of b < 16
digit_small b h = grind (arith, nat_tests)

-- the number so far is one that so many digits spell
abbrev pub Fits : Within → Type 0
Fits (hex value count) = value < hex_bound count
Fits _ = Unit {0}

or_escape_bytes : (b : ℕ) (escaped itself : List ℕ) → b < 256 → AreBytes escaped → AreBytes itself → AreBytes (or_escape b escaped itself)
or_escape_bytes b escaped itself h f g = either AreBytes escaped (b ∷ itself) (b == 92) (λ e. f) (λ e. (h, g))

unescaped_bytes : (at : Within) (bytes : List ℕ) → Fits at → AreBytes bytes → AreBytes (unescaped at bytes)
unescaped_bytes plain [] f h = tt
unescaped_bytes plain (b ∷ w) f h = or_escape_bytes b _ _ h.0 (unescaped_bytes behind_backslash w tt h.1) (unescaped_bytes plain w tt h.1)
unescaped_bytes behind_backslash [] f h = tt
unescaped_bytes behind_backslash (b ∷ w) f h =
    either AreBytes (unescaped (octal (digit_of b) 1) w) _ (is_in class.Octal b) (λ e. unescaped_bytes (octal (digit_of b) 1) w tt h.1)
    (λ e. either AreBytes (unescaped (hex 0 0) w) (simple_value b ∷ unescaped plain w) (b == 120) (λ e. unescaped_bytes (hex 0 0) w (omega arith) h.1)
    (λ e. (simple_small b h.0, unescaped_bytes plain w tt h.1)))
unescaped_bytes (octal value count) [] f h = (mod-lt value (omega arith), tt)
unescaped_bytes (octal value count) (b ∷ w) f h =
    either AreBytes (unescaped (octal (value * 8 + digit_of b) (count + 1)) w) _ (nat_lt count 3 && is_in class.Octal b) (λ e. unescaped_bytes (octal (value * 8 + digit_of b) (count + 1)) w tt h.1)
    (λ e. (mod-lt value (omega arith), or_escape_bytes b _ _ h.0 (unescaped_bytes behind_backslash w tt h.1) (unescaped_bytes plain w tt h.1)))
unescaped_bytes (hex value count) [] f h = (hex_most value count f, tt)
unescaped_bytes (hex value count) (b ∷ w) f h =
    either AreBytes (unescaped (hex (value * 16 + digit_of b) (count + 1)) w) _ (nat_lt count 2 && is_in class.Hex b)
    (λ e. (let both = and_true (nat_lt count 2) (is_in class.Hex b) e in
    unescaped_bytes (hex (value * 16 + digit_of b) (count + 1)) w (hex_grows value (digit_of b) count (ltb-true count 2 both.0) (digit_small b both.1) f) h.1))
    (λ e. (hex_most value count f, or_escape_bytes b _ _ h.0 (unescaped_bytes behind_backslash w tt h.1) (unescaped_bytes plain w tt h.1)))

pub take_bytes : (n : ℕ) (bytes : List ℕ) → AreBytes bytes → AreBytes (take n bytes)
take_bytes zero bytes h = tt
take_bytes (suc n) [] h = tt
take_bytes (suc n) (b ∷ bytes) h = (h.0, take_bytes n bytes h.1)

pub drop_bytes : (n : ℕ) (bytes : List ℕ) → AreBytes bytes → AreBytes (drop n bytes)
drop_bytes zero bytes h = h
drop_bytes (suc n) [] h = tt
drop_bytes (suc n) (b ∷ bytes) h = drop_bytes n bytes h.1

pub text_of_bytes : (w : List ℕ) → AreBytes w → AreBytes (text_bytes w)
text_of_bytes w h = unescaped_bytes plain (inner w) tt (take_bytes (length w - 1 - 1) (drop 1 w) (drop_bytes 1 w h))
