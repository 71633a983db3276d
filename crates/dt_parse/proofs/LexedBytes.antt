-- The words of a text that is made of bytes have bytes.
use Rattle.std.proofs.Common.{◌≡◌, ℕ, suc, ◌+◌, ◌*◌, ◌-◌, ◌<◌, Bool, List, [], ◌∷◌, ◌++◌, get_or, drop, Option, Some, None, Ok, Err, sym, ◌∙◌, ap, subst, arith}
use Rattle.std.specs.Prelude.{slice_index}
use Rattle.std.specs.List.{AllByRecursion}
use Rattle.dt_lex.specs.declared.token.Mode.{Mode}
use Rattle.dt_lex.specs.declared.token.TokenKind.{TokenKind}
use Rattle.dt_lex.specs.declared.token.TokenKind.TheVariants as kind
use Rattle.dt_lex.specs.declared.token.Token.{Token}
use Rattle.dt_lex.specs.declared.rule.Rule.{Rule}
use Rattle.dt_lex.specs.declared.rule.Rule.TheVariants as rule
use Rattle.dt_lex.specs.Numbers.{digit_of}
use Rattle.dt_lex.specs.Vocabulary.{ByteWord}
use Rattle.dt_lex.specs.Rules.{words}
use Rattle.dt_lex.specs.Outcomes.{of_integer, outcome}
use Rattle.dt_lex.specs.Lexing.{Lexed, with_tokens, Lexes, done, no_rule, faulty, skipped, given, IsLexed}
use Rattle.dt_grammar.specs.Words.{words_of}
use Rattle.dt_grammar.specs.WordBytes.{AreBytes, HaveBytes}
use Rattle.dt_grammar.proofs.TextBytes.{digit_small, take_bytes, drop_bytes}

-- where the token is one in a list of bytes, its number is a byte
abbrev pub HasByte : Token → Type 0
HasByte t = (b : ℕ) → t.kind ≡ kind.Byte b → b < 256

-- so is each of those that are answered
abbrev pub AllHaveBytes : Lexed → Type 0
AllHaveBytes (Ok ts) = AllByRecursion HasByte ts
AllHaveBytes (Err flaw) = Unit {0}

-- ---- one token

no_integer : (o : Option ℕ) (b : ℕ) → of_integer o ≡ Ok (Some (kind.Byte b)) → ⊥
no_integer None b e = cc
no_integer (Some n) b e = cc

two_digits : (w : List ℕ) → ByteWord w → 16 * digit_of (slice_index w 0) + digit_of (slice_index w 1) < 256
two_digits w h =
    let together : w ≡ h.3.0 ∷ h.4.0 ∷ [] = h.2 ∙ (λ i. h.3.1 i ++ h.4.1 i) in
    let high = digit_small h.3.0 h.3.2 in
    let low = digit_small h.4.0 h.4.2 in
    let small : 16 * digit_of h.3.0 + digit_of h.4.0 < 256 = omega (arith, high, low) in
    subst (λ (x : List ℕ). 16 * digit_of (slice_index x 0) + digit_of (slice_index x 1) < 256) (sym together) small

byte_of : (r : Rule) (w : List ℕ) (b : ℕ) → words r w → outcome r w ≡ Ok (Some (kind.Byte b)) → b < 256
byte_of rule.Blanks w b h e = cc
byte_of rule.BlockComment w b h e = cc
byte_of rule.OpenComment w b h e = cc
byte_of rule.LineComment w b h e = cc
byte_of rule.LineMarker w b h e = cc
byte_of rule.LongLineMarker w b h e = cc
byte_of rule.Label w b h e = cc
byte_of (rule.Keyword k) w b h e = cc
byte_of (rule.Directive d) w b h e = cc
byte_of rule.LabelReference w b h e = cc
byte_of rule.PathReference w b h e = cc
byte_of rule.Name w b h e = cc
byte_of rule.Byte w b h e = let same : 16 * digit_of (slice_index w 0) + digit_of (slice_index w 1) ≡ b = cc in subst (λ (n : ℕ). n < 256) same (two_digits w h)
byte_of rule.Hexadecimal w b h e = absurd (no_integer _ b e)
byte_of rule.CapitalHexadecimal w b h e = absurd (no_integer _ b e)
byte_of rule.Decimal w b h e = absurd (no_integer _ b e)
byte_of rule.Character w b h e = cc
byte_of rule.Text w b h e = cc
byte_of (rule.Mark m) w b h e = cc

-- ---- all tokens

one_more : (t : Token) (result : Lexed) → HasByte t → AllHaveBytes result → AllHaveBytes (with_tokens (t ∷ []) result)
one_more t (Ok ts) f g = (f, g)
one_more t (Err flaw) f g = tt

lexed_bytes : {m : Mode} {fresh : Bool} {at : ℕ} {s : List ℕ} {result : Lexed} → Lexes m fresh at s result → AllHaveBytes result
lexed_bytes done = tt
lexed_bytes (no_rule h) = tt
lexed_bytes (faulty r w rest cut e) = tt
lexed_bytes (skipped r w rest cut e more) = lexed_bytes more
lexed_bytes (given r w rest k cut e more) =
    one_more _ _ (λ b is. byte_of r w b cut.longest.fits.1 (e ∙ ap (λ (x : TokenKind). Ok (Some x)) is)) (lexed_bytes more)

text_bytes : (text : List ℕ) → ((i : ℕ) → get_or text i 0 < 256) → AreBytes text
text_bytes [] h = tt
text_bytes (b ∷ text) h = (h 0, text_bytes text (λ i. h (suc i)))

words_have_bytes : (text : List ℕ) (ts : List Token) → AreBytes text → AllByRecursion HasByte ts → HaveBytes (words_of text ts)
words_have_bytes text [] f g = tt
words_have_bytes text (t ∷ ts) f g =
    (record { bytes = take_bytes (t.«end» - t.start) (drop t.start text) (drop_bytes t.start text f); byte = g.0 }, words_have_bytes text ts f g.1)

pub lexed_have_bytes : (text : List ℕ) (ts : List Token) → ((i : ℕ) → get_or text i 0 < 256) → IsLexed text (Ok ts) → HaveBytes (words_of text ts)
lexed_have_bytes text ts h l = words_have_bytes text ts (text_bytes text h) (lexed_bytes l)

pub lexed_bytes_of : (text : List ℕ) (ts : List Token) → AreBytes text → IsLexed text (Ok ts) → HaveBytes (words_of text ts)
lexed_bytes_of text ts h l = words_have_bytes text ts h (lexed_bytes l)
