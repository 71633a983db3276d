-- A rule that the first byte of a text doesn't leave has no word there.
use Rattle.std.proofs.Common.{◌≡◌, ℕ, zero, suc, ◌<◌, Bool, true, false, List, [], ◌∷◌, ◌++◌, Some, refl, sym, ◌∙◌, ap, subst, arith}
use Rattle.std.specs.Prelude.{◌==◌, ◌||◌, ◌&&◌, not, if◌then◌else◌, slice_get, slice_index}
use Rattle.std.specs.List.{filter}
use Rattle.std.proofs.lemmas.Bool.{eqb-true}
use Rattle.dt_lex.specs.declared.byte.Class.TheVariants as class
use Rattle.dt_lex.specs.declared.token.Keyword.{Keyword}
use Rattle.dt_lex.specs.declared.token.Keyword.TheVariants as keyword
use Rattle.dt_lex.specs.declared.token.Mark.{Mark}
use Rattle.dt_lex.specs.declared.token.Mark.TheVariants as mark
use Rattle.dt_lex.specs.declared.token.Mode.{Mode}
use Rattle.dt_lex.specs.declared.rule.Directive.{Directive}
use Rattle.dt_lex.specs.declared.rule.Directive.TheVariants as directive
use Rattle.dt_lex.specs.declared.rule.Rule.{Rule}
use Rattle.dt_lex.specs.declared.rule.Rule.TheVariants as rule
use Rattle.dt_lex.specs.declared.leader.Leader.{Leader}
use Rattle.dt_lex.specs.declared.leader.Leader.TheVariants as leader
use Rattle.dt_lex.specs.Bytes.{is_in}
use Rattle.dt_lex.specs.Modes.{mark_bytes, keyword_bytes}
use Rattle.dt_lex.specs.Words.{Word, Begins, Then, NoneFits}
use Rattle.dt_lex.specs.Vocabulary.{CharacterWord, itself_alone, escaped_alone}
use Rattle.dt_lex.specs.Rules.{words, In, directive_bytes}
use Rattle.dt_lex.specs.Leaders.{leaders, leader_in, leader_of, leads}

wrong : {A : Type 0} → false ≡ true → A
wrong e = absurd (cc)

-- ---- the first byte of a word

first : List ℕ → ℕ
first w = slice_index w 0

head_word : (b : ℕ) (k : List ℕ) (P : List ℕ → Type 0) (w : List ℕ) → Then (Word (b ∷ k)) P w → slice_index w 0 ≡ b
head_word b k P w f = ap (λ (x : List ℕ). slice_index x 0) (f.2 ∙ ap (λ (x : List ℕ). x ++ f.1) f.3)

head_of : (k w : List ℕ) → Word k w → slice_index w 0 ≡ slice_index k 0
head_of k w f = ap (λ (x : List ℕ). slice_index x 0) f

begun : (p : ℕ → Bool) (w : List ℕ) → Begins p w → p (slice_index w 0) ≡ true
begun p [] h = absurd h
begun p (b ∷ w) h = h

begun_front : (p : ℕ → Bool) (u v w : List ℕ) → w ≡ u ++ v → Begins p u → p (slice_index w 0) ≡ true
begun_front p [] v w e h = absurd h
begun_front p (b ∷ u) v w e h = ap (λ (x : List ℕ). p (slice_index x 0)) e ∙ h

head_character : (w : List ℕ) → CharacterWord w → slice_index w 0 ≡ 39
head_character _ (_, itself_alone b h) = refl
head_character _ (_, escaped_alone e b h) = refl

-- ---- the leader of a byte

exact : (q : Rule) (b k : ℕ) → b ≡ k → leads (leader_of k) q ≡ true → leads (leader_of b) q ≡ true
exact q b k e h = subst (λ (n : ℕ). leads (leader_of n) q ≡ true) (sym e) h

-- whether each byte of a table that passes the test has a leader that leaves the rule
abbrev covers : (ℕ → Bool) → Rule → List (ℕ × Leader) → Bool
covers p q [] = true
covers p q (x ∷ xs) = (not (p x.0) || leads x.1 q) && covers p q xs

left_true : (a b : Bool) → (a && b) ≡ true → a ≡ true
left_true true b e = refl
left_true false b e = wrong e

right_true : (a b : Bool) → (a && b) ≡ true → b ≡ true
right_true true b e = e
right_true false b e = wrong e

met : (a b : Bool) → (not a || b) ≡ true → a ≡ true → b ≡ true
met true b e f = e
met false b e f = wrong f

class_leads : (p : ℕ → Bool) (q : Rule) (xs : List (ℕ × Leader)) → covers p q xs ≡ true → leads leader.Other q ≡ true → (b : ℕ) → p b ≡ true → leads (leader_in xs b) q ≡ true
class_leads p q [] c h b f = h
class_leads p q (x ∷ xs) c h b f = at (class_leads p q xs (right_true (not (p x.0) || leads x.1 q) (covers p q xs) c) h b f) (b == x.0) refl
  where
    at : leads (leader_in xs b) q ≡ true → (t : Bool) → (b == x.0) ≡ t → leads (if t then x.1 else leader_in xs b) q ≡ true
    at rec true e = met (p x.0) (leads x.1 q) (left_true (not (p x.0) || leads x.1 q) (covers p q xs) c) (subst (λ (n : ℕ). p n ≡ true) (eqb-true b x.0 e) f)
    at rec false e = rec

keyword_leads : (k : Keyword) → leads (leader_of (slice_index (keyword_bytes k) 0)) (rule.Keyword k) ≡ true
keyword_leads keyword.Version = refl
keyword_leads keyword.Plugin = refl
keyword_leads keyword.Memreserve = refl
keyword_leads keyword.Bits = refl
keyword_leads keyword.DeleteNode = refl
keyword_leads keyword.DeleteProperty = refl

directive_leads : (d : Directive) → leads (leader_of (slice_index (directive_bytes d) 0)) (rule.Directive d) ≡ true
directive_leads directive.Include = refl
directive_leads directive.Incbin = refl
directive_leads directive.OmitIfNoRef = refl

mark_leads : (m : Mark) → leads (leader_of (slice_index (mark_bytes m) 0)) (rule.Mark m) ≡ true
mark_leads mark.ShiftLeft = refl
mark_leads mark.ShiftRight = refl
mark_leads mark.LessOrEqual = refl
mark_leads mark.GreaterOrEqual = refl
mark_leads mark.Equal = refl
mark_leads mark.NotEqual = refl
mark_leads mark.And = refl
mark_leads mark.Or = refl
mark_leads mark.OpenBrace = refl
mark_leads mark.CloseBrace = refl
mark_leads mark.OpenBracket = refl
mark_leads mark.CloseBracket = refl
mark_leads mark.OpenParenthesis = refl
mark_leads mark.CloseParenthesis = refl
mark_leads mark.Less = refl
mark_leads mark.Greater = refl
mark_leads mark.Semicolon = refl
mark_leads mark.Equals = refl
mark_leads mark.Comma = refl
mark_leads mark.Colon = refl
mark_leads mark.Question = refl
mark_leads mark.Plus = refl
mark_leads mark.Minus = refl
mark_leads mark.Star = refl
mark_leads mark.Slash = refl
mark_leads mark.Percent = refl
mark_leads mark.Ampersand = refl
mark_leads mark.Bar = refl
mark_leads mark.Caret = refl
mark_leads mark.Tilde = refl
mark_leads mark.Exclamation = refl

-- a word's first byte leaves its rule
led : (q : Rule) (w : List ℕ) → words q w → leads (leader_of (slice_index w 0)) q ≡ true
led rule.Blanks w f = class_leads (is_in class.Blank) rule.Blanks leaders refl refl (slice_index w 0) (begun (is_in class.Blank) w f.0)
led rule.BlockComment w f = exact rule.BlockComment _ 47 (head_word 47 (42 ∷ []) _ w f) refl
led rule.OpenComment w f = exact rule.OpenComment _ 47 (head_of (47 ∷ 42 ∷ []) w f) refl
led rule.LineComment w f = exact rule.LineComment _ 47 (head_word 47 (47 ∷ []) _ w f) refl
led rule.LineMarker w f = exact rule.LineMarker _ 35 (head_word 35 [] _ w f) refl
led rule.LongLineMarker w f = exact rule.LongLineMarker _ 35 (head_word 35 (108 ∷ 105 ∷ 110 ∷ 101 ∷ []) _ w f) refl
led rule.Label w (u, v, e, f, g) = class_leads (is_in class.LabelStart) rule.Label leaders refl refl (slice_index w 0) (begun_front (is_in class.LabelStart) u v w e f.0)
led (rule.Keyword k) w f = exact (rule.Keyword k) _ _ (head_of (keyword_bytes k) w f) (keyword_leads k)
led (rule.Directive d) w f = exact (rule.Directive d) _ _ (head_of (directive_bytes d) w f) (directive_leads d)
led rule.LabelReference w f = exact rule.LabelReference _ 38 (head_word 38 [] _ w f) refl
led rule.PathReference w f = exact rule.PathReference _ 38 (head_word 38 (123 ∷ []) _ w f) refl
led rule.Name w f = class_leads (is_in class.Name) rule.Name leaders refl refl (slice_index w 0) (begun (is_in class.Name) w f.0)
led rule.Byte w (u, v, e, (b, f, g), h) = class_leads (is_in class.Hex) rule.Byte leaders refl refl (slice_index w 0) (begun_front (is_in class.Hex) u v w e (subst (Begins (is_in class.Hex)) (sym f) g))
led rule.Hexadecimal w f = exact rule.Hexadecimal _ 48 (head_word 48 (120 ∷ []) _ w f) refl
led rule.CapitalHexadecimal w f = exact rule.CapitalHexadecimal _ 48 (head_word 48 (88 ∷ []) _ w f) refl
led rule.Decimal w f = class_leads (is_in class.Digit) rule.Decimal leaders refl refl (slice_index w 0) (begun (is_in class.Digit) w f.0)
led rule.Character w f = exact rule.Character _ 39 (head_character w f) refl
led rule.Text w f = exact rule.Text _ 34 (head_of (34 ∷ (f.1.inside ++ 34 ∷ [])) w f.1.whole) refl
led (rule.Mark m) w f = exact (rule.Mark m) _ _ (head_of (mark_bytes m) w f) (mark_leads m)

begins_front_of : (p : ℕ → Bool) (u v : List ℕ) → [] ≡ u ++ v → Begins p u → ⊥
begins_front_of p [] v e h = h
begins_front_of p (b ∷ u) v e h = cc

some_word : (q : Rule) → words q [] → ⊥
some_word rule.Blanks f = f.0
some_word rule.BlockComment f = wrong (led rule.BlockComment [] f)
some_word rule.OpenComment f = wrong (led rule.OpenComment [] f)
some_word rule.LineComment f = wrong (led rule.LineComment [] f)
some_word rule.LineMarker f = wrong (led rule.LineMarker [] f)
some_word rule.LongLineMarker f = wrong (led rule.LongLineMarker [] f)
some_word rule.Label (u, v, e, f, g) = begins_front_of (is_in class.LabelStart) u v e f.0
some_word (rule.Keyword k) f = wrong (led (rule.Keyword k) [] f)
some_word (rule.Directive d) f = wrong (led (rule.Directive d) [] f)
some_word rule.LabelReference f = wrong (led rule.LabelReference [] f)
some_word rule.PathReference f = wrong (led rule.PathReference [] f)
some_word rule.Name f = f.0
some_word rule.Byte (u, v, e, (b, f, g), h) = begins_front_of (is_in class.Hex) u v e (subst (Begins (is_in class.Hex)) (sym f) g)
some_word rule.Hexadecimal f = wrong (led rule.Hexadecimal [] f)
some_word rule.CapitalHexadecimal f = wrong (led rule.CapitalHexadecimal [] f)
some_word rule.Decimal f = f.0
some_word rule.Character f = wrong (led rule.Character [] f)
some_word rule.Text f = wrong (led rule.Text [] f)
some_word (rule.Mark m) f = wrong (led (rule.Mark m) [] f)

pub not_led : (m : Mode) (fresh : Bool) (s : List ℕ) (q : Rule) → leads (leader_of (slice_index s 0)) q ≡ false → NoneFits (In q m fresh) s
not_led m fresh s q n [] more e f = some_word q f.1
not_led m fresh s q n (b ∷ v) more e f =
    let same : slice_index s 0 ≡ b = ap (λ (x : List ℕ). slice_index x 0) e in
    let yes : leads (leader_of b) q ≡ true = led q (b ∷ v) f.1 in
    let no : leads (leader_of b) q ≡ false = subst (λ (x : ℕ). leads (leader_of x) q ≡ false) same n in
    wrong (sym no ∙ yes)

-- what is first among those that pass a test is first, where none of the others is meant
pub record FirstAt (N : Rule → Type 0) (xs : List Rule) (r : Rule) : Type 0 where
  pub place : ℕ
  pub tried : slice_get xs place ≡ Some r
  pub first : (i : ℕ) (q : Rule) → i < place → slice_get xs i ≡ Some q → N q

module _ (p : Rule → Bool) (N : Rule → Type 0) (others : (q : Rule) → p q ≡ false → N q) where
  taken : (x : Rule) (xs : List Rule) (r : Rule) → N x → FirstAt N xs r → FirstAt N (x ∷ xs) r
  taken x xs r n f = record { place = suc f.place; tried = f.tried; first = before }
    where
      before : (i : ℕ) (q : Rule) → i < suc f.place → slice_get (x ∷ xs) i ≡ Some q → N q
      before zero q l e = let same : x ≡ q = cc in subst N same n
      before (suc i) q l e = f.first i q (omega (arith, l)) e

  pub first_of_all : (xs : List Rule) (r : Rule) → FirstAt N (filter p xs) r → FirstAt N xs r
  first_of_all [] r f = f
  first_of_all (x ∷ xs) r f = at (first_of_all xs r) (p x) refl f.place f.tried f.first
    where
      at : (FirstAt N (filter p xs) r → FirstAt N xs r) → (t : Bool) → p x ≡ t → (k : ℕ) → slice_get (if t then x ∷ filter p xs else filter p xs) k ≡ Some r → ((i : ℕ) (q : Rule) → i < k → slice_get (if t then x ∷ filter p xs else filter p xs) i ≡ Some q → N q) → FirstAt N (x ∷ xs) r
      at rec true e zero g h = record { place = zero; tried = g; first = λ i q l. absurd (omega (arith, l)) }
      at rec true e (suc k) g h = taken x xs r (h zero x (omega arith) refl) (rec (record { place = k; tried = g; first = λ i q l. h (suc i) q (omega (arith, l)) }))
      at rec false e k g h = taken x xs r (others x e) (rec (record { place = k; tried = g; first = h }))

  pub none_of_all : (xs : List Rule) → ((i : ℕ) (q : Rule) → slice_get (filter p xs) i ≡ Some q → N q) → (i : ℕ) (q : Rule) → slice_get xs i ≡ Some q → N q
  none_of_all [] h i q e = cc
  none_of_all (x ∷ xs) h i q e = at (none_of_all xs) (p x) refl h i e
    where
      at : (((j : ℕ) (r : Rule) → slice_get (filter p xs) j ≡ Some r → N r) → (j : ℕ) (r : Rule) → slice_get xs j ≡ Some r → N r) → (t : Bool) → p x ≡ t → ((j : ℕ) (r : Rule) → slice_get (if t then x ∷ filter p xs else filter p xs) j ≡ Some r → N r) → (j : ℕ) → slice_get (x ∷ xs) j ≡ Some q → N q
      at rec true f g zero k = g zero q k
      at rec true f g (suc j) k = rec (λ n. g (suc n)) j q k
      at rec false f g zero k = let same : x ≡ q = cc in subst N same (others x f)
      at rec false f g (suc j) k = rec g j q k
