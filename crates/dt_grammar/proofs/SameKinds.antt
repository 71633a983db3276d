-- Kinds of tokens that compare as equal are equal.
use Rattle.std.proofs.Common.{◌≡◌, ◌≢◌, ℕ, nat_eq, arith, true, false, Option, Some, None, refl, sym, ◌∙◌, ap}
use Rattle.std.specs.Option.{option_eq}
use Rattle.std.proofs.lemmas.Bool.{eqb-true, false≢true}
use Rattle.std.proofs.lemmas.Bool.Decides.{nat_tests}
use Rattle.dt_lex.specs.declared.token.TokenKind.{TokenKind}
use Rattle.dt_lex.specs.declared.token.TokenKind.TheVariants as kind
use Rattle.dt_lex.specs.declared.token.Mark.{Mark}
use Rattle.dt_lex.specs.declared.token.Mark.TheVariants as mark
use Rattle.dt_lex.specs.declared.token.Keyword.{Keyword}
use Rattle.dt_lex.specs.declared.token.Keyword.TheVariants as keyword
use Rattle.dt_lex.specs.contracts.token.TokenKindPartialEq.TheImpl as kinds
use Rattle.dt_lex.specs.contracts.token.MarkPartialEq.TheImpl as marks
use Rattle.dt_lex.specs.contracts.token.KeywordPartialEq.TheImpl as keywords

same_mark : (m n : Mark) → (marks.eq-value).it m n ≡ true → m ≡ n
same_mark mark.ShiftLeft mark.ShiftLeft h = refl
same_mark mark.ShiftRight mark.ShiftRight h = refl
same_mark mark.LessOrEqual mark.LessOrEqual h = refl
same_mark mark.GreaterOrEqual mark.GreaterOrEqual h = refl
same_mark mark.Equal mark.Equal h = refl
same_mark mark.NotEqual mark.NotEqual h = refl
same_mark mark.And mark.And h = refl
same_mark mark.Or mark.Or h = refl
same_mark mark.OpenBrace mark.OpenBrace h = refl
same_mark mark.CloseBrace mark.CloseBrace h = refl
same_mark mark.OpenBracket mark.OpenBracket h = refl
same_mark mark.CloseBracket mark.CloseBracket h = refl
same_mark mark.OpenParenthesis mark.OpenParenthesis h = refl
same_mark mark.CloseParenthesis mark.CloseParenthesis h = refl
same_mark mark.Less mark.Less h = refl
same_mark mark.Greater mark.Greater h = refl
same_mark mark.Semicolon mark.Semicolon h = refl
same_mark mark.Equals mark.Equals h = refl
same_mark mark.Comma mark.Comma h = refl
same_mark mark.Colon mark.Colon h = refl
same_mark mark.Question mark.Question h = refl
same_mark mark.Plus mark.Plus h = refl
same_mark mark.Minus mark.Minus h = refl
same_mark mark.Star mark.Star h = refl
same_mark mark.Slash mark.Slash h = refl
same_mark mark.Percent mark.Percent h = refl
same_mark mark.Ampersand mark.Ampersand h = refl
same_mark mark.Bar mark.Bar h = refl
same_mark mark.Caret mark.Caret h = refl
same_mark mark.Tilde mark.Tilde h = refl
same_mark mark.Exclamation mark.Exclamation h = refl
same_mark _ _ h = absurd (false≢true h)

same_keyword : (m n : Keyword) → (keywords.eq-value).it m n ≡ true → m ≡ n
same_keyword keyword.Version keyword.Version h = refl
same_keyword keyword.Plugin keyword.Plugin h = refl
same_keyword keyword.Memreserve keyword.Memreserve h = refl
same_keyword keyword.Bits keyword.Bits h = refl
same_keyword keyword.DeleteNode keyword.DeleteNode h = refl
same_keyword keyword.DeleteProperty keyword.DeleteProperty h = refl
same_keyword _ _ h = absurd (false≢true h)

same_kind : (a b : TokenKind) → (kinds.eq-value).it a b ≡ true → a ≡ b
same_kind kind.Label kind.Label h = refl
same_kind (kind.Keyword k) (kind.Keyword l) h = ap kind.Keyword (same_keyword k l h)
same_kind kind.LabelReference kind.LabelReference h = refl
same_kind kind.PathReference kind.PathReference h = refl
same_kind kind.Name kind.Name h = refl
same_kind (kind.Byte m) (kind.Byte n) h = ap kind.Byte (eqb-true m n h)
same_kind (kind.Integer m) (kind.Integer n) h = ap kind.Integer (eqb-true m n h)
same_kind (kind.Character m) (kind.Character n) h = ap kind.Character (eqb-true m n h)
same_kind kind.Text kind.Text h = refl
same_kind (kind.Mark m) (kind.Mark n) h = ap kind.Mark (same_mark m n h)
same_kind _ _ h = absurd (false≢true h)

pub same_next : (o : Option TokenKind) (k : TokenKind) → option_eq (kinds.eq-value).it o (Some k) ≡ true → o ≡ Some k
same_next None k h = absurd (false≢true h)
same_next (Some a) k h = ap Some (same_kind a k h)

number_itself : (n : ℕ) → nat_eq n n ≡ true
number_itself n = grind (arith, nat_tests)

mark_itself : (m : Mark) → (marks.eq-value).it m m ≡ true
mark_itself mark.ShiftLeft = refl
mark_itself _ = refl

keyword_itself : (m : Keyword) → (keywords.eq-value).it m m ≡ true
keyword_itself keyword.Version = refl
keyword_itself _ = refl

kind_itself : (k : TokenKind) → (kinds.eq-value).it k k ≡ true
kind_itself (kind.Keyword k) = keyword_itself k
kind_itself (kind.Byte n) = number_itself n
kind_itself (kind.Integer n) = number_itself n
kind_itself (kind.Character n) = number_itself n
kind_itself (kind.Mark m) = mark_itself m
kind_itself _ = refl

pub other_next : (o : Option TokenKind) (k : TokenKind) → option_eq (kinds.eq-value).it o (Some k) ≡ false → o ≢ Some k
other_next o k h e = false≢true (sym h ∙ (ap (λ (x : Option TokenKind). option_eq (kinds.eq-value).it x (Some k)) e ∙ kind_itself k))
