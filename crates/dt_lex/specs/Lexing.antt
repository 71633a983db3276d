-- Token lists, and the first fault of a text that has none.
use Rattle.std.specs.Prelude.{◌≡◌, ℕ, ◌+◌, ◌-◌, ◌<◌, ◌≤◌, ◌==◌, Bool, true, List, [], ◌∷◌, ◌++◌, length, Some, None, Result, Ok, Err, slice_get, slice_index}
use Rattle.dt_model.specs.Limits.{most_bytes}
use Rattle.dt_lex.specs.declared.token.Mode.{Mode}
use Rattle.dt_lex.specs.declared.token.Mode.TheVariants as mode
use Rattle.dt_lex.specs.declared.token.TokenKind.{TokenKind}
use Rattle.dt_lex.specs.declared.token.Token.{Token}
use Rattle.dt_lex.specs.declared.token.Flaw.{Flaw}
use Rattle.dt_lex.specs.declared.token.Flaw.TheVariants.{BadToken, BadInteger}
use Rattle.dt_lex.specs.declared.rule.Rule.{Rule}
use Rattle.dt_names.specs.declared.fault.Fault.{Fault}
use Rattle.dt_names.specs.declared.fault.FaultKind.TheVariants as fault
use Rattle.dt_lex.specs.Modes.{mode_behind}
use Rattle.dt_lex.specs.Words.{IsLongestWord, NoneFits}
use Rattle.dt_lex.specs.Rules.{In, rules}
use Rattle.dt_lex.specs.Outcomes.{outcome}

-- the text begins with w, the longest word of r, and no rule before r has a word there
pub record IsCut (m : Mode) (fresh : Bool) (s : List ℕ) (r : Rule) (w rest : List ℕ) : Type 0 where
  pub place : ℕ
  pub tried : slice_get rules place ≡ Some r
  pub longest : IsLongestWord (In r m fresh) s w rest
  pub some : 0 < length w
  pub first : (i : ℕ) (q : Rule) → i < place → slice_get rules i ≡ Some q → NoneFits (In q m fresh) s

-- no rule has a word there
abbrev pub HasNoCut : Mode → Bool → List ℕ → Type 0
HasNoCut m fresh s = (i : ℕ) (q : Rule) → slice_get rules i ≡ Some q → NoneFits (In q m fresh) s

-- a flaw and its place
pub record FirstFlaw : Type 0 where
  pub flaw : Flaw
  pub at : ℕ

abbrev pub Lexed : Type 0
Lexed = Result (List Token) FirstFlaw

abbrev pub with_tokens : List Token → Lexed → Lexed
with_tokens ts (Ok us) = Ok (ts ++ us)
with_tokens ts (Err f) = Err f

-- whether a word's last byte ends a line
abbrev pub ends_line : List ℕ → Bool
ends_line w = slice_index w (length w - 1) == 10

abbrev pub token : TokenKind → ℕ → List ℕ → Token
token k at w = record { kind = k; start = at; «end» = at + length w }

-- The rest of a text, from a place on, in a mode, at the first byte of a line or elsewhere, is cut into skipped words and
-- tokens, or has its first flaw.
pub data Lexes : Mode → Bool → ℕ → List ℕ → Lexed → Type 0 where
  done : {m : Mode} {fresh : Bool} {at : ℕ} → Lexes m fresh at [] (Ok [])
  no_rule : {m : Mode} {fresh : Bool} {at b : ℕ} {s : List ℕ} →
      HasNoCut m fresh (b ∷ s) → Lexes m fresh at (b ∷ s) (Err (record { flaw = BadToken; at = at }))
  faulty : {m : Mode} {fresh : Bool} {at : ℕ} {s : List ℕ} {f : Flaw} (r : Rule) (w rest : List ℕ) →
      IsCut m fresh s r w rest → outcome r w ≡ Err f → Lexes m fresh at s (Err (record { flaw = f; at = at }))
  skipped : {m : Mode} {fresh : Bool} {at : ℕ} {s : List ℕ} {result : Lexed} (r : Rule) (w rest : List ℕ) →
      IsCut m fresh s r w rest → outcome r w ≡ Ok None →
      Lexes m (ends_line w) (at + length w) rest result → Lexes m fresh at s result
  given : {m : Mode} {fresh : Bool} {at : ℕ} {s : List ℕ} {result : Lexed} (r : Rule) (w rest : List ℕ) (k : TokenKind) →
      IsCut m fresh s r w rest → outcome r w ≡ Ok (Some k) →
      Lexes (mode_behind k m) (ends_line w) (at + length w) rest result →
      Lexes m fresh at s (with_tokens (token k at w ∷ []) result)

-- a text has this token list, or this first flaw; it begins in the mode of names, at the first byte of a line
abbrev pub IsLexed : List ℕ → Lexed → Type 0
IsLexed text result = Lexes mode.Name true 0 text result

-- why a text's tokens aren't answered: memory is wanted; it is too long, which comes before all else; or its first flaw
pub data WhyNotLexed (text : List ℕ) : Fault → Type 0 where
  no_memory : WhyNotLexed text (record { kind = fault.NoMemory; at = None })
  too_long : most_bytes < length text → WhyNotLexed text (record { kind = fault.Limit; at = None })
  bad_token : (at : ℕ) → length text ≤ most_bytes → IsLexed text (Err (record { flaw = BadToken; at = at })) →
      WhyNotLexed text (record { kind = fault.BadToken; at = Some at })
  bad_integer : (at : ℕ) → length text ≤ most_bytes → IsLexed text (Err (record { flaw = BadInteger; at = at })) →
      WhyNotLexed text (record { kind = fault.BadInteger; at = Some at })
