-- What the functions of the lexer answer.
use Rattle.std.specs.Prelude.{◌≡◌, ◌≢◌, ◌⊎◌, ℕ, ◌+◌, ◌<◌, Bool, List, [], ◌∷◌, ◌++◌, length, Option, Some, None, Result, Ok, Err}
use Rattle.std.specs.List.{filter}
use Rattle.std.specs.Borrow.{Bor}
use Rattle.dt_lex.specs.declared.token.Mode.{Mode}
use Rattle.dt_lex.specs.declared.token.TokenKind.{TokenKind}
use Rattle.dt_lex.specs.declared.token.Token.{Token}
use Rattle.dt_lex.specs.declared.token.Flaw.{Flaw}
use Rattle.dt_lex.specs.declared.token.Flaw.TheVariants as flaw
use Rattle.dt_lex.specs.declared.rule.Rule.{Rule}
use Rattle.dt_lex.specs.declared.rule.Rule.TheVariants as rule
use Rattle.dt_lex.specs.declared.piece.Piece.{Piece}
use Rattle.dt_lex.specs.Modes as modes
use Rattle.dt_lex.specs.declared.token.Mark.{Mark}
use Rattle.dt_lex.specs.declared.token.Keyword.{Keyword}
use Rattle.dt_lex.specs.declared.leader.Leader.TheVariants as leader
use Rattle.dt_lex.specs.Rules.{words, rules}
use Rattle.dt_lex.specs.Modes.{mark_bytes}
use Rattle.dt_lex.specs.Leaders.{leader_of, leads}
use Rattle.dt_lex.specs.Outcomes.{outcome}
use Rattle.dt_lex.specs.Lexing.{IsCut, HasNoCut, ends_line}

-- the answer of a search for a cut
abbrev pub CutsTo : Mode → Bool → List ℕ → Option (Rule × Bor (List ℕ)) → Type 0
CutsTo m fresh s None = HasNoCut m fresh s
CutsTo m fresh s (Some found) = (w : List ℕ) × IsCut m fresh s found.0 w found.1.now

-- the word is one of the rule, where its outcome is read on that ground
abbrev pub IsWordOf : Rule → List ℕ → Type 0
IsWordOf rule.Byte w = words rule.Byte w
IsWordOf _ w = Unit {0}

-- the piece is the next cut
abbrev pub IsPiece : Mode → Bool → List ℕ → Result Piece Flaw → Type 0
IsPiece m fresh s (Ok p) =
    (r : Rule) × (w : List ℕ) × IsCut m fresh s r w p.rest.now × (outcome r w ≡ Ok p.kind) × (length w ≡ p.length) × (ends_line w ≡ p.fresh)
IsPiece m fresh s (Err f) =
    (HasNoCut m fresh s × (f ≡ flaw.BadToken)) ⊎ ((r : Rule) × (w rest : List ℕ) × IsCut m fresh s r w rest × (outcome r w ≡ Err f))

-- the tokens that a word gives, and the mode behind it
abbrev pub tokens_of : Option TokenKind → (at count : ℕ) → List Token
tokens_of None at count = []
tokens_of (Some k) at count = record { kind = k; start = at; «end» = at + count } ∷ []

abbrev pub mode_after : Option TokenKind → Mode → Mode
mode_after None m = m
mode_after (Some k) m = modes.mode_behind k m

-- ---- words that their first bytes decide

-- the piece is a front of the text
abbrev pub IsFront : List ℕ → Piece → Type 0
IsFront s p = (p.length + length p.rest.now ≡ length s) × (0 < p.length)

-- the piece is the next cut in this mode, at the first byte of a line and elsewhere
abbrev pub IsDecided : Mode → List ℕ → Piece → Type 0
IsDecided m s p = (fresh : Bool) → IsPiece m fresh s (Ok p)

-- the words of a rule begin with `/` and this byte
abbrev pub BeginsBy : ℕ → Rule → Type 0
BeginsBy d q = (w : List ℕ) → words q w → (t : List ℕ) × (w ≡ 47 ∷ d ∷ t)

-- the words of each of these rules begin with `/` and another byte than c
abbrev pub AreApart : ℕ → List Rule → Type 0
AreApart c [] = Unit {0}
AreApart c (q ∷ qs) = ((d : ℕ) × BeginsBy d q × (c ≢ d)) × AreApart c qs

-- of the rules whose words may begin with `/`, those before the keyword's have no word that begins with `/` and c
pub record IsLedBy (c : ℕ) (k : Keyword) : Type 0 where
  pub before : List Rule
  pub behind : List Rule
  pub tried : before ++ rule.Keyword k ∷ behind ≡ filter (leads leader.Slash) rules
  pub apart : AreApart c before

-- the mark is the byte b, and of the rules whose words may begin so its own comes behind that of names alone
abbrev pub IsBehindNames : ℕ → Mark → Type 0
IsBehindNames b m = (mark_bytes m ≡ b ∷ []) × (rule.Name ∷ rule.Mark m ∷ [] ≡ filter (leads (leader_of b)) rules)

-- each of these rules is of a mark of two bytes: b, and another than c
abbrev pub ArePairs : (b c : ℕ) → List Rule → Type 0
ArePairs b c [] = Unit {0}
ArePairs b c (q ∷ qs) = ((n : Mark) × (d : ℕ) × (q ≡ rule.Mark n) × (mark_bytes n ≡ b ∷ d ∷ []) × (c ≢ d)) × ArePairs b c qs

-- the mark is the byte b, and no rule before its own has a word that begins with b and c
pub record IsSole (b c : ℕ) (m : Mark) : Type 0 where
  pub bytes : mark_bytes m ≡ b ∷ []
  pub before : List Rule
  pub behind : List Rule
  pub tried : before ++ rule.Mark m ∷ behind ≡ filter (leads (leader_of b)) rules
  pub pairs : ArePairs b c before
