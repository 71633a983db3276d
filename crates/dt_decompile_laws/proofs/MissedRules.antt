-- Rules that have no word at a place, by the first bytes there; and what the rule behind them cuts.
use Rattle.std.proofs.Common.{◌≡◌, ℕ, zero, suc, ◌<◌, Bool, true, false, List, [], ◌∷◌, ◌++◌, take, drop, length, Some, ⊎_elim, refl, sym, ◌∙◌, ap, subst, append_assoc, arith}
use Rattle.std.specs.Prelude.{◌==◌, ◌||◌, ◌&&◌, not, slice_get, slice_index, codes}
use Rattle.std.specs.List.{list_all, AllByRecursion}
use Rattle.std.proofs.lemmas.Bool.{eq-eqb, or_cases, not-true, both_ways}
use Rattle.dt_model.proofs.Cases.{all_pass}
use Rattle.dt_lex.specs.declared.byte.Class.TheVariants as class
use Rattle.dt_lex.specs.declared.token.Mode.{Mode}
use Rattle.dt_lex.specs.declared.token.Mark.{Mark}
use Rattle.dt_lex.specs.declared.token.Keyword.{Keyword}
use Rattle.dt_lex.specs.declared.token.TokenKind.TheVariants as kind
use Rattle.dt_lex.specs.declared.rule.Rule.{Rule}
use Rattle.dt_lex.specs.declared.rule.Rule.TheVariants as rule
use Rattle.dt_lex.specs.Bytes.{is_in}
use Rattle.dt_lex.specs.Modes.{mark_bytes, keyword_bytes, mode_behind}
use Rattle.dt_lex.specs.Words.{Each, Word, Then, Stops, IsLongestWord, NoneFits}
use Rattle.dt_lex.specs.Rules.{words, allowed, In, rules, directive_bytes}
use Rattle.dt_lex.specs.Leaders.{leader_of, leads}
use Rattle.dt_lex.specs.Lexing.{IsCut, ends_line}
use Rattle.dt_lex.proofs.LeaderLemmas.{not_led}
use Rattle.dt_lex.proofs.WordLemmas.{each_most}
use Rattle.dt_grammar.specs.Words.{Words}
use Rattle.dt_decompile_laws.specs.Words.{mark_word, keyword_word}
use Rattle.dt_decompile_laws.proofs.CutWords.{Cuts, blank_cut, word_cut}

-- ---- the first bytes of a word

-- whether a text begins with a word
abbrev pub is_front : List ℕ → List ℕ → Bool
is_front [] s = true
is_front (b ∷ k) [] = false
is_front (b ∷ k) (c ∷ s) = (b == c) && is_front k s

-- a word begins what it stands in front of
front_there : (k s : List ℕ) → is_front k (k ++ s) ≡ true
front_there [] s = refl
front_there (b ∷ k) s = rw (eq-eqb b b refl) (front_there k s)

-- the bytes that the words of a rule begin with, where they are a word
abbrev pub opening : Rule → List ℕ
opening rule.BlockComment = codes "/*"
opening rule.OpenComment = codes "/*"
opening rule.LineComment = codes "//"
opening (rule.Keyword k) = keyword_bytes k
opening (rule.Directive d) = directive_bytes d
opening (rule.Mark m) = mark_bytes m
opening _ = []

-- a word that begins with a word opens a text with it
opens_then : (k : List ℕ) (Q : List ℕ → Type 0) (w more : List ℕ) → Then (Word k) Q w → is_front k (w ++ more) ≡ true
opens_then k Q w more (u, v, e, f, g) =
    ap (λ (x : List ℕ). is_front k (x ++ more)) (e ∙ ap (λ (x : List ℕ). x ++ v) f) ∙ ap (is_front k) (append_assoc k v more) ∙ front_there k (v ++ more)

-- and so does the word itself
opens_word : (k w more : List ℕ) → Word k w → is_front k (w ++ more) ≡ true
opens_word k w more f = ap (λ (x : List ℕ). is_front k (x ++ more)) f ∙ front_there k more

-- the words of a rule begin with its opening
opens : (q : Rule) (w more : List ℕ) → words q w → is_front (opening q) (w ++ more) ≡ true
opens rule.BlockComment w more f = opens_then (codes "/*") _ w more f
opens rule.OpenComment w more f = opens_word (codes "/*") w more f
opens rule.LineComment w more f = opens_then (codes "//") _ w more f
opens (rule.Keyword k) w more f = opens_word (keyword_bytes k) w more f
opens (rule.Directive d) w more f = opens_word (directive_bytes d) w more f
opens (rule.Mark m) w more f = opens_word (mark_bytes m) w more f
opens _ w more f = refl

-- whether a rule has no word at the front of a text, by its mode and its first bytes
abbrev pub misses : Mode → Bool → List ℕ → Rule → Bool
misses m fresh s q = not (leads (leader_of (slice_index s 0)) q) || (not (allowed q m fresh) || not (is_front (opening q) s))

-- where the test says so, the rule has no word
pub missed : (m : Mode) (fresh : Bool) (s : List ℕ) (q : Rule) → misses m fresh s q ≡ true → NoneFits (In q m fresh) s
missed m fresh s q h v more e f =
    ⊎_elim
    (λ (a : not (leads (leader_of (slice_index s 0)) q) ≡ true). not_led m fresh s q (not-true _ a) v more e f)
    (λ (b : (not (allowed q m fresh) || not (is_front (opening q) s)) ≡ true).
    ⊎_elim
    (λ (a : not (allowed q m fresh) ≡ true). both_ways _ (not-true _ a) f.0)
    (λ (a : not (is_front (opening q) s) ≡ true). both_ways _ (not-true _ a) (ap (is_front (opening q)) e ∙ opens q v more f.1))
    (or_cases _ _ b))
    (or_cases _ _ h)

-- ---- the rule at a place

-- what is true of the rules in front is true of each by its place
in_front : (P : Rule → Type 0) (xs ys : List Rule) → AllByRecursion P xs → (i : ℕ) (q : Rule) → i < length xs → slice_get (xs ++ ys) i ≡ Some q → P q
in_front P [] ys h i q l e = absurd (omega (arith, l))
in_front P (x ∷ xs) ys h zero q l e = let same : x ≡ q = cc in subst P same h.0
in_front P (x ∷ xs) ys h (suc i) q l e = in_front P xs ys h.1 i q (omega (arith, l)) e

-- the rule behind them stands at their number
behind_front : (xs : List Rule) (r : Rule) (ys : List Rule) → slice_get (xs ++ r ∷ ys) (length xs) ≡ Some r
behind_front [] r ys = refl
behind_front (x ∷ xs) r ys = behind_front xs r ys

-- a rule cuts its longest word where none of those before it has a word
pub cut_by : (m : Mode) (fresh : Bool) (s : List ℕ) (front : List Rule) (r : Rule) (behind : List Rule) (w rest : List ℕ) → rules ≡ front ++ r ∷ behind →
    AllByRecursion (λ q. NoneFits (In q m fresh) s) front → IsLongestWord (In r m fresh) s w rest → 0 < length w → IsCut m fresh s r w rest
cut_by m fresh s front r behind w rest e none l some = record {
  place = length front;
  tried = subst (λ (xs : List Rule). slice_get xs (length front) ≡ Some r) (sym e) (behind_front front r behind);
  longest = l;
  some = some;
  first = λ i q j g. in_front (λ x. NoneFits (In x m fresh) s) front (r ∷ behind) none i q j (subst (λ (xs : List Rule). slice_get xs i ≡ Some q) e g);
}

-- the same by tests that compute
tests_pass : (m : Mode) (fresh : Bool) (s : List ℕ) (front : List Rule) → list_all (misses m fresh s) front ≡ true → AllByRecursion (λ q. NoneFits (In q m fresh) s) front
tests_pass m fresh s [] h = tt
tests_pass m fresh s (q ∷ front) h = let t = all_pass (misses m fresh s) (q ∷ front) h in (missed m fresh s q t.0, each front t.1)
  where
    each : (xs : List Rule) → AllByRecursion (λ q. misses m fresh s q ≡ true) xs → AllByRecursion (λ q. NoneFits (In q m fresh) s) xs
    each [] t = tt
    each (x ∷ xs) t = (missed m fresh s x t.0, each xs t.1)

-- so the rule at place n cuts its longest word where the tests of those before it pass
pub cut_at : (m : Mode) (fresh : Bool) (s : List ℕ) (n : ℕ) (r : Rule) (w rest : List ℕ) → rules ≡ take n rules ++ r ∷ drop (suc n) rules →
    list_all (misses m fresh s) (take n rules) ≡ true → IsLongestWord (In r m fresh) s w rest → 0 < length w → IsCut m fresh s r w rest
cut_at m fresh s n r w rest e h l some = cut_by m fresh s (take n rules) r (drop (suc n) rules) w rest e (tests_pass m fresh s (take n rules) h) l some

-- a word is the longest of itself
longest_word : (P : Type 0) → P → (k t : List ℕ) → IsLongestWord (λ w. P × Word k w) (k ++ t) k t
longest_word P p k t = record { split = refl; fits = (p, refl); longest = λ v more f h. omega (arith, ap length h.1) }

-- ---- marks, keywords and blanks

-- what is left is cut so, be it at the first byte of a line or elsewhere
abbrev pub CutsOn : Mode → List ℕ → Words → Type 0
CutsOn m s ws = (fresh : Bool) → Cuts m fresh s ws

-- a mark, whose rule stands at place n
pub mark_on : (x : Mark) (n : ℕ) (m : Mode) (fresh : Bool) (rest : List ℕ) (ws : Words) → rules ≡ take n rules ++ rule.Mark x ∷ drop (suc n) rules →
    list_all (misses m fresh (mark_bytes x ++ rest)) (take n rules) ≡ true → 0 < length (mark_bytes x) →
    Cuts (mode_behind (kind.Mark x) m) (ends_line (mark_bytes x)) rest ws → Cuts m fresh (mark_bytes x ++ rest) (mark_word x ∷ ws)
mark_on x n m fresh rest ws e h some l =
    word_cut (rule.Mark x) (mark_bytes x) rest (kind.Mark x)
    (cut_at m fresh (mark_bytes x ++ rest) n (rule.Mark x) (mark_bytes x) rest e h (longest_word _ refl (mark_bytes x) rest) some) refl l

-- a keyword, whose rule stands at place n
pub keyword_on : (x : Keyword) (n : ℕ) (m : Mode) (fresh : Bool) (rest : List ℕ) (ws : Words) → rules ≡ take n rules ++ rule.Keyword x ∷ drop (suc n) rules →
    list_all (misses m fresh (keyword_bytes x ++ rest)) (take n rules) ≡ true → 0 < length (keyword_bytes x) →
    Cuts (mode_behind (kind.Keyword x) m) (ends_line (keyword_bytes x)) rest ws → Cuts m fresh (keyword_bytes x ++ rest) (keyword_word x ∷ ws)
keyword_on x n m fresh rest ws e h some l =
    word_cut (rule.Keyword x) (keyword_bytes x) rest (kind.Keyword x)
    (cut_at m fresh (keyword_bytes x ++ rest) n (rule.Keyword x) (keyword_bytes x) rest e h (longest_word _ refl (keyword_bytes x) rest) some) refl l

-- blanks up to a byte that is none
pub blanks_on : (m : Mode) (fresh : Bool) (b : ℕ) (w rest : List ℕ) (ws : Words) → Each (is_in class.Blank) (b ∷ w) → Stops (is_in class.Blank) rest →
    Cuts m (ends_line (b ∷ w)) rest ws → Cuts m fresh ((b ∷ w) ++ rest) ws
blanks_on m fresh b w rest ws a z l =
    blank_cut rule.Blanks (b ∷ w) rest
    (cut_by m fresh ((b ∷ w) ++ rest) [] rule.Blanks (drop 1 rules) (b ∷ w) rest refl tt
    (record { split = refl; fits = (refl, (a.0, a)); longest = λ v more e f. each_most (is_in class.Blank) (b ∷ w) rest v more e a z f.1.1 }) (omega arith)) refl l
