-- Words that their first bytes decide.
use Rattle.std.proofs.Common.{◌≡◌, ◌≢◌, ℕ, zero, suc, ◌<◌, ◌≤◌, Bool, true, false, List, [], ◌∷◌, ◌++◌, length, Option, Some, None, Ok, refl, sym, ◌∙◌, ap, subst, append_assoc, arith, length-append, drop}
use Rattle.std.specs.Prelude.{codes, IfSome, ◌==◌, ◌&&◌, not, if◌then◌else◌, slice_get, slice_index}
use Rattle.std.specs.List.{filter}
use Rattle.std.proofs.lemmas.Bool.{eqb-true}
use Rattle.std.proofs.lemmas.Bool.Decides.{nat_tests}
use Rattle.std.specs.Borrow.{Bor}
use Rattle.dt_lex.specs.declared.byte.Class.{Class}
use Rattle.dt_lex.specs.declared.byte.Class.TheVariants as class
use Rattle.dt_lex.specs.declared.token.Mode.{Mode}
use Rattle.dt_lex.specs.declared.token.Mode.TheVariants as mode
use Rattle.dt_lex.specs.declared.token.Mark.{Mark}
use Rattle.dt_lex.specs.declared.token.Keyword.{Keyword}
use Rattle.dt_lex.specs.declared.token.Keyword.TheVariants as keyword
use Rattle.dt_lex.specs.declared.rule.Directive.TheVariants as directive
use Rattle.dt_lex.specs.declared.token.Mark.TheVariants as mark
use Rattle.dt_lex.specs.declared.token.TokenKind.{TokenKind}
use Rattle.dt_lex.specs.declared.leader.Leader.{Leader}
use Rattle.dt_lex.specs.declared.leader.Leader.TheVariants as leader
use Rattle.dt_lex.specs.declared.piece.Piece.{Piece}
use Rattle.dt_lex.specs.declared.rule.Rule.{Rule}
use Rattle.dt_lex.specs.declared.rule.Rule.TheVariants as rule
use Rattle.dt_lex.specs.Bytes.{is_in}
use Rattle.dt_lex.specs.Modes.{mark_bytes, keyword_bytes}
use Rattle.dt_lex.specs.Words.{Each, Word, One, Begins, Starting, Then, Stops, RunsTo, IsLongestWord, NoneFits}
use Rattle.dt_lex.specs.Numbers.{digit_of, digits, base_of}
use Rattle.dt_lex.specs.Vocabulary.{Digits, IsDigits, IntegerSuffix, Hexadecimal, LabelWord}
use Rattle.dt_lex.specs.Rules.{words, allowed, In, rules}
use Rattle.dt_lex.specs.Outcomes.{outcome}
use Rattle.dt_lex.specs.Leaders.{leaders, leader_in, leader_of, leads}
use Rattle.dt_lex.specs.Lexing.{IsCut, ends_line}
use Rattle.dt_lex.specs.Pieces.{IsPiece, IsDecided, IsSole, ArePairs, BeginsBy, AreApart, IsLedBy}
use Rattle.dt_lex.proofs.Cuts.{cut_here}
use Rattle.dt_lex.proofs.LabelLemmas.{no_label}
use Rattle.dt_lex.proofs.QuotedLemmas.{same_front}
use Rattle.dt_lex.proofs.WordLemmas.{begins_of, word_some, no_first, not_starting, same_tail, starting, then_each, digits_stop, runs_shorter, word_then, word_split}

-- a piece of a cut
pub piece_is : (m : Mode) (fresh : Bool) (s : List ℕ) (r : Rule) (w rest : List ℕ) (k : Option TokenKind) (p : Piece) → IsCut m fresh s r w rest → outcome r w ≡ Ok k → p.kind ≡ k → p.rest.now ≡ rest
    → ((u : List ℕ) → s ≡ u ++ rest → (length u ≡ p.length) × (ends_line u ≡ p.fresh)) → IsPiece m fresh s (Ok p)
piece_is m fresh s r w rest k p cut says kind left word =
    let same = word w cut.longest.split in
    (r, w, subst (λ (x : List ℕ). IsCut m fresh s r w x) (sym left) cut, says ∙ ap Ok (sym kind), same.0, same.1)

pub decided_of : (m : Mode) (s : List ℕ) (r : Rule) (w rest : List ℕ) (k : Option TokenKind) (p : Piece) → ((fresh : Bool) → IsCut m fresh s r w rest) → outcome r w ≡ Ok k → p.kind ≡ k → p.rest.now ≡ rest
    → ((u : List ℕ) → s ≡ u ++ rest → (length u ≡ p.length) × (ends_line u ≡ p.fresh)) → IsDecided m s p
decided_of m s r w rest k p cuts says kind left word fresh = piece_is m fresh s r w rest k p (cuts fresh) says kind left word

-- ---- rules that have no word

abbrev pub NoneOf : Mode → Bool → List ℕ → List Rule → Type 0
NoneOf m fresh s [] = Unit {0}
NoneOf m fresh s (q ∷ qs) = NoneFits (In q m fresh) s × NoneOf m fresh s qs

none_at : (m : Mode) (fresh : Bool) (s : List ℕ) (before : List Rule) (r : Rule) (behind : List Rule) → NoneOf m fresh s before → (i : ℕ) (q : Rule) → i < length before → slice_get (before ++ r ∷ behind) i ≡ Some q → NoneFits (In q m fresh) s
none_at m fresh s [] r behind none i q l e = absurd (omega (arith, l))
none_at m fresh s (x ∷ xs) r behind none zero q l e = let same : x ≡ q = cc in subst (λ (y : Rule). NoneFits (In y m fresh) s) same none.0
none_at m fresh s (x ∷ xs) r behind none (suc i) q l e = none_at m fresh s xs r behind none.1 i q (omega (arith, l)) e

at_end : (before : List Rule) (r : Rule) (behind : List Rule) → slice_get (before ++ r ∷ behind) (length before) ≡ Some r
at_end [] r behind = refl
at_end (x ∷ xs) r behind = at_end xs r behind

-- the rule that has a word behind rules that have none
pub cut_behind : (m : Mode) (fresh : Bool) (s : List ℕ) (before : List Rule) (r : Rule) (behind : List Rule) → before ++ r ∷ behind ≡ filter (leads (leader_of (slice_index s 0))) rules → NoneOf m fresh s before → allowed r m fresh ≡ true
    → (w rest : List ℕ) → IsLongestWord (words r) s w rest → length rest < length s → IsCut m fresh s r w rest
cut_behind m fresh s before r behind kept none may w rest l short =
    cut_here m fresh s (before ++ r ∷ behind) kept (length before) r (at_end before r behind) (none_at m fresh s before r behind none) w rest
    (record { split = l.split; fits = (may, l.fits); longest = λ v more e f. l.longest v more e f.1 }) short

pub not_here : (m : Mode) (fresh : Bool) (s : List ℕ) (q : Rule) → NoneFits (words q) s → NoneFits (In q m fresh) s
not_here m fresh s q none v more e f = none v more e f.1

pub forbidden : (m : Mode) (fresh : Bool) (s : List ℕ) (q : Rule) → allowed q m fresh ≡ false → NoneFits (In q m fresh) s
forbidden m fresh s q never v more e f = absurd (let h : true ≡ false = sym f.0 ∙ never in cc)

-- ---- marks of one byte

pairs_none : (m : Mode) (fresh : Bool) (b c : ℕ) (s rest : List ℕ) → s ≡ b ∷ rest → slice_index rest 0 ≡ c → (qs : List Rule) → ArePairs b c qs → NoneOf m fresh s qs
pairs_none m fresh b c s rest e at [] pairs = tt
pairs_none m fresh b c s rest e at (q ∷ qs) ((n, d, is, bytes, other), pairs) = (subst (λ (x : Rule). NoneFits (In x m fresh) s) (sym is) none, pairs_none m fresh b c s rest e at qs pairs)
  where
    none : NoneFits (In (rule.Mark n) m fresh) s
    none v more f g =
        let whole : b ∷ rest ≡ b ∷ d ∷ more = sym e ∙ f ∙ ap (λ (x : List ℕ). x ++ more) (g.1 ∙ bytes) in
        other (sym at ∙ ap (λ (x : List ℕ). slice_index x 0) (same_tail b b rest (d ∷ more) whole))

pub sole_cut : (m : Mode) (fresh : Bool) (b c : ℕ) (mark : Mark) (s rest : List ℕ) → s ≡ b ∷ rest → slice_index rest 0 ≡ c → IsSole b c mark → IsCut m fresh s (rule.Mark mark) (b ∷ []) rest
sole_cut m fresh b c mark s rest e at sole =
    cut_behind m fresh s sole.before (rule.Mark mark) sole.behind (sole.tried ∙ ap (λ (x : List ℕ). filter (leads (leader_of (slice_index x 0))) rules) (sym e)) (pairs_none m fresh b c s rest e at sole.before sole.pairs) refl (b ∷ []) rest
    (subst (λ (k : List ℕ). IsLongestWord (Word k) s (b ∷ []) rest) (sym sole.bytes) (word_some (b ∷ []) s rest e)) (omega (arith, ap length e))

-- ---- bytes without a leader of their own

abbrev none_pass : (ℕ → Bool) → List (ℕ × Leader) → Bool
none_pass p [] = true
none_pass p (x ∷ xs) = not (p x.0) && none_pass p xs

without_leader : (p : ℕ → Bool) (xs : List (ℕ × Leader)) → none_pass p xs ≡ true → (b : ℕ) → p b ≡ true → leader_in xs b ≡ leader.Other
without_leader p [] none b h = refl
without_leader p (x ∷ xs) none b h = by (λ n. without_leader p xs n b h) (p x.0) refl none (b == x.0) refl
  where
    by : (none_pass p xs ≡ true → leader_in xs b ≡ leader.Other) → (t : Bool) → p x.0 ≡ t → (not t && none_pass p xs) ≡ true → (same : Bool) → (b == x.0) ≡ same → (if same then x.1 else leader_in xs b) ≡ leader.Other
    by rec true e n same f = absurd (let k : false ≡ true = n in cc)
    by rec false e n true f = absurd (let k : true ≡ false = sym h ∙ ap p (eqb-true b x.0 f) ∙ e in cc)
    by rec false e n false f = rec n

pub other_rules : (p : ℕ → Bool) → none_pass p leaders ≡ true → (s : List ℕ) → Begins p s → rule.Blanks ∷ rule.Label ∷ rule.Name ∷ rule.Byte ∷ rule.Decimal ∷ [] ≡ filter (leads (leader_of (slice_index s 0))) rules
other_rules p none [] h = absurd h
other_rules p none (b ∷ s) h = ap (λ (x : Leader). filter (leads x) rules) (sym (without_leader p leaders none b h))

pub begins_apart : (p q : ℕ → Bool) → ((b : ℕ) → p b ≡ true → q b ≡ false) → (s : List ℕ) → Begins p s → Begins q s → ⊥
begins_apart p q apart [] h g = h
begins_apart p q apart (b ∷ s) h g = absurd (let k : true ≡ false = sym g ∙ apart b h in cc)

-- a first byte of one class begins no word of another
pub none_starting : (p q : ℕ → Bool) (P : List ℕ → Type 0) → ((b : ℕ) → p b ≡ true → q b ≡ false) → (s : List ℕ) → Begins p s → NoneFits (Starting q P) s
none_starting p q P apart s h = not_starting q P s (begins_apart p q apart s h)

-- ---- runs

pub each_more : (p q : ℕ → Bool) → ((b : ℕ) → p b ≡ true → q b ≡ true) → (w : List ℕ) → Each p w → Each q w
each_more p q sub [] h = tt
each_more p q sub (b ∷ w) h = (sub b h.0, each_more p q sub w h.1)

each_join : (q : ℕ → Bool) (u v : List ℕ) → Each q u → Each q v → Each q (u ++ v)
each_join q [] v h g = g
each_join q (b ∷ u) v h g = (h.0, each_join q u v h.1 g)

-- a run that goes on with more bytes
pub runs_on : (p q : ℕ → Bool) → ((b : ℕ) → p b ≡ true → q b ≡ true) → (s t rest : List ℕ) → RunsTo p s t → RunsTo q t rest → RunsTo q s rest
runs_on p q sub s t rest (u, e, a, b) (v, f, c, d) =
    (u ++ v, e ∙ ap (λ (x : List ℕ). u ++ x) f ∙ sym (append_assoc u v rest), each_join q u v (each_more p q sub u a) c, d)

pub begins_more : (p q : ℕ → Bool) → ((b : ℕ) → p b ≡ true → q b ≡ true) → (s : List ℕ) → Begins p s → Begins q s
begins_more p q sub [] h = h
begins_more p q sub (b ∷ s) h = sub b h

-- ---- words of two parts

-- the second byte is not that of the first part
pub second_none : (a d : ℕ) (Q : List ℕ → Type 0) (s behind : List ℕ) (first : ℕ) → s ≡ first ∷ behind → (slice_index behind 0 ≡ d → ⊥) → NoneFits (Then (Word (a ∷ d ∷ [])) Q) s
second_none a d Q s behind first e other = no_first s none
  where
    none : NoneFits (Word (a ∷ d ∷ [])) s
    none v more f g =
        let whole : first ∷ behind ≡ a ∷ d ∷ more = sym e ∙ f ∙ ap (λ (x : List ℕ). x ++ more) g in
        other (ap (λ (x : List ℕ). slice_index x 0) (same_tail first a behind (d ∷ more) whole))

-- the first byte of a text that begins with such a word
pub first_of : (a : ℕ) (k : List ℕ) (Q : List ℕ → Type 0) (s w rest : List ℕ) → s ≡ w ++ rest → Then (Word (a ∷ k)) Q w → slice_index s 0 ≡ a
first_of a k Q s w rest e f = ap (λ (x : List ℕ). slice_index x 0) (e ∙ ap (λ (x : List ℕ). x ++ rest) (f.2 ∙ ap (λ (x : List ℕ). x ++ f.1) f.3))

-- ---- classes

pub label_not_blank : (b : ℕ) → is_in class.LabelStart b ≡ true → is_in class.Blank b ≡ false
label_not_blank b h = grind (arith, nat_tests)

pub digit_not_blank : (b : ℕ) → is_in class.Digit b ≡ true → is_in class.Blank b ≡ false
digit_not_blank b h = grind (arith, nat_tests)

pub digit_not_label : (b : ℕ) → is_in class.Digit b ≡ true → is_in class.LabelStart b ≡ false
digit_not_label b h = grind (arith, nat_tests)

pub hex_not_blank : (b : ℕ) → is_in class.Hex b ≡ true → is_in class.Blank b ≡ false
hex_not_blank b h = grind (arith, nat_tests)

pub hex_in_label : (b : ℕ) → is_in class.Hex b ≡ true → is_in class.Label b ≡ true
hex_in_label b h = grind (arith, nat_tests)

pub label_in_name : (b : ℕ) → is_in class.Label b ≡ true → is_in class.Name b ≡ true
label_in_name b h = grind (arith, nat_tests)

-- ---- marks that a byte is by itself

pub lone : (b c : ℕ) (m : Mark) → mark_bytes m ≡ b ∷ [] → rule.Mark m ∷ [] ≡ filter (leads (leader_of b)) rules → (first : ℕ) → first ≡ b → IsSole first c m
lone b c m bytes tried first is = subst (λ (x : ℕ). IsSole x c m) (sym is) (record { bytes = bytes; before = []; behind = []; tried = tried; pairs = tt })

pub less : (c : ℕ) → c ≢ 60 → c ≢ 61 → (first : ℕ) → first ≡ 60 → IsSole first c mark.Less
less c not_shift not_equal first is =
    subst (λ (x : ℕ). IsSole x c mark.Less) (sym is)
    (record {
      bytes = refl;
      before = rule.Mark mark.ShiftLeft ∷ rule.Mark mark.LessOrEqual ∷ [];
      behind = [];
      tried = refl;
      pairs = ((mark.ShiftLeft, 60, refl, refl, not_shift), ((mark.LessOrEqual, 61, refl, refl, not_equal), tt));
    })

pub greater : (c : ℕ) → c ≢ 62 → c ≢ 61 → (first : ℕ) → first ≡ 62 → IsSole first c mark.Greater
greater c not_shift not_equal first is =
    subst (λ (x : ℕ). IsSole x c mark.Greater) (sym is)
    (record {
      bytes = refl;
      before = rule.Mark mark.ShiftRight ∷ rule.Mark mark.GreaterOrEqual ∷ [];
      behind = [];
      tried = refl;
      pairs = ((mark.ShiftRight, 62, refl, refl, not_shift), ((mark.GreaterOrEqual, 61, refl, refl, not_equal), tt));
    })

pub equals : (c : ℕ) → c ≢ 61 → (first : ℕ) → first ≡ 61 → IsSole first c mark.Equals
equals c not_equal first is =
    subst (λ (x : ℕ). IsSole x c mark.Equals) (sym is)
    (record { bytes = refl; before = rule.Mark mark.Equal ∷ []; behind = []; tried = refl; pairs = ((mark.Equal, 61, refl, refl, not_equal), tt) })

-- ---- integers and bytes

both : (p same : Bool) → p ≡ true → same ≡ false → (p && not same) ≡ true
both true true h n = absurd (let k : true ≡ false = n in cc)
both true false h n = refl
both false same h n = absurd (let k : false ≡ true = h in cc)

begins_and : (p q : ℕ → Bool) (s : List ℕ) → Begins p s → q (slice_index s 0) ≡ true → Begins (λ b. p b && q b) s
begins_and p q [] h g = h
begins_and p q (b ∷ s) h g = by (p b) (q b) h g
  where
    by : (x y : Bool) → x ≡ true → y ≡ true → (x && y) ≡ true
    by true y h g = g
    by false y h g = h

two_begin : (p : ℕ → Bool) (w : List ℕ) → Then (One p) (One p) w → Begins p w
two_begin p w (u, v, e, (b, f, g), h) = subst (Begins p) (sym (e ∙ ap (λ (x : List ℕ). x ++ v) f)) g

two_each : (p q : ℕ → Bool) → ((b : ℕ) → p b ≡ true → q b ≡ true) → (w : List ℕ) → Then (One p) (One p) w → Each q w
two_each p q sub w (u, v, e, (b, f, g), (d, h, k)) = subst (Each q) (sym (e ∙ ap (λ (x : List ℕ). x ++ v) f ∙ ap (λ (x : List ℕ). b ∷ x) h)) (sub b g, (sub d k, tt))

stops_unless : (p : ℕ → Bool) (s : List ℕ) → (Begins p s → ⊥) → Stops p s
stops_unless p [] h = tt
stops_unless p (b ∷ s) h = by (p b) h
  where
    by : (t : Bool) → (t ≡ true → ⊥) → t ≡ false
    by true k = absurd (k refl)
    by false k = refl

colon_none : (s : List ℕ) → slice_index s 0 ≢ 58 → NoneFits (Word (58 ∷ [])) s
colon_none s other v more e f = other (ap (λ (x : List ℕ). slice_index x 0) (e ∙ ap (λ (x : List ℕ). x ++ more) f))

-- an integer without a prefix comes behind rules that have no word
pub decimal_cut : (s w behind rest : List ℕ) (first : ℕ) → s ≡ first ∷ behind → slice_index behind 0 ≢ 120 → slice_index behind 0 ≢ 88 → IsLongestWord (words rule.Decimal) s w rest → length rest < length s
    → (fresh : Bool) → IsCut mode.Plain fresh s rule.Decimal w rest
decimal_cut s w behind rest first e small capital l short fresh = by (first == 48) refl
  where
    digit : Begins (is_in class.Digit) s
    digit = begins_of (is_in class.Digit) s w rest l.split l.fits.0

    prefixed : (d : ℕ) → slice_index behind 0 ≢ d → NoneFits (Then (Word (48 ∷ d ∷ [])) (Digits class.Hex)) s
    prefixed d other = second_none 48 d (Digits class.Hex) s behind first e other

    other_digit : first == 48 ≡ false → Begins (λ b. is_in class.Digit b && not (b == 48)) s
    other_digit n = subst (Begins (λ b. is_in class.Digit b && not (b == 48))) (sym e) (both (is_in class.Digit first) (first == 48) (subst (Begins (is_in class.Digit)) e digit) n)

    by : (zero : Bool) → first == 48 ≡ zero → IsCut mode.Plain fresh s rule.Decimal w rest
    by true is =
        cut_behind mode.Plain fresh s (rule.Name ∷ rule.Byte ∷ rule.Hexadecimal ∷ rule.CapitalHexadecimal ∷ []) rule.Decimal _
        (ap (λ (b : ℕ). filter (leads (leader_of b)) rules) (sym (ap (λ (x : List ℕ). slice_index x 0) e ∙ eqb-true first 48 is))) (
          forbidden mode.Plain fresh s rule.Name refl,
          (
            forbidden mode.Plain fresh s rule.Byte refl,
            (not_here mode.Plain fresh s rule.Hexadecimal (prefixed 120 small), (not_here mode.Plain fresh s rule.CapitalHexadecimal (prefixed 88 capital), tt)),
          ),
        ) refl w rest l short
    by false is =
        cut_behind mode.Plain fresh s (rule.Blanks ∷ rule.Label ∷ rule.Name ∷ rule.Byte ∷ []) rule.Decimal _ (other_rules (λ b. is_in class.Digit b && not (b == 48)) refl s (other_digit is)) (
          not_here mode.Plain fresh s rule.Blanks (none_starting (is_in class.Digit) (is_in class.Blank) (Each (is_in class.Blank)) digit_not_blank s digit),
          (
            not_here mode.Plain fresh s rule.Label (no_first s (none_starting (is_in class.Digit) (is_in class.LabelStart) (Each (is_in class.Label)) digit_not_label s digit)),
            (forbidden mode.Plain fresh s rule.Name refl, (forbidden mode.Plain fresh s rule.Byte refl, tt)),
          ),
        ) refl w rest l short

-- two digits of a byte come behind rules that have no word, where no label begins with them
pub byte_cut : (s w rest : List ℕ) → (Begins (is_in class.Label) rest → ⊥) → slice_index rest 0 ≢ 58 → IsLongestWord (words rule.Byte) s w rest → length rest < length s → (fresh : Bool) → IsCut mode.Bytes fresh s rule.Byte w rest
byte_cut s w rest ends no_colon l short fresh = by (slice_index s 0 == 48) refl
  where
    hex : Begins (is_in class.Hex) s
    hex = begins_of (is_in class.Hex) s w rest l.split (two_begin (is_in class.Hex) w l.fits)

    other_hex : slice_index s 0 == 48 ≡ false → Begins (λ b. is_in class.Hex b && not (b == 48)) s
    other_hex n = begins_and (is_in class.Hex) (λ b. not (b == 48)) s hex (ap not n)

    label : NoneFits LabelWord s
    label = subst (NoneFits LabelWord) (sym l.split) (no_label w rest (two_each (is_in class.Hex) (is_in class.Label) hex_in_label w l.fits) (stops_unless (is_in class.Label) rest ends) (colon_none rest no_colon))

    by : (zero : Bool) → slice_index s 0 == 48 ≡ zero → IsCut mode.Bytes fresh s rule.Byte w rest
    by true is =
        cut_behind mode.Bytes fresh s (rule.Name ∷ []) rule.Byte _ (ap (λ (b : ℕ). filter (leads (leader_of b)) rules) (sym (eqb-true (slice_index s 0) 48 is))) (forbidden mode.Bytes fresh s rule.Name refl, tt) refl w rest l short
    by false is =
        cut_behind mode.Bytes fresh s (rule.Blanks ∷ rule.Label ∷ rule.Name ∷ []) rule.Byte _ (other_rules (λ b. is_in class.Hex b && not (b == 48)) refl s (other_hex is))
        (not_here mode.Bytes fresh s rule.Blanks (none_starting (is_in class.Hex) (is_in class.Blank) (Each (is_in class.Blank)) hex_not_blank s hex), (not_here mode.Bytes fresh s rule.Label label, (forbidden mode.Bytes fresh s rule.Name refl, tt))) refl w rest l short

-- ---- the mode of a text

pub decided_here : (m here : Mode) (fresh : Bool) (s : List ℕ) (r : Option Piece) → here ≡ m → IfSome r (IsDecided m s) → IfSome r (λ p. IsPiece here fresh s (Ok p))
decided_here m here fresh s None is h = tt
decided_here m here fresh s (Some p) is h = subst (λ (x : Mode). IsPiece x fresh s (Ok p)) (sym is) (h fresh)

-- ---- the digits of an integer

-- a front of a text is known by the rest
front_is : (s w v rest : List ℕ) → s ≡ w ++ rest → s ≡ v ++ rest → w ≡ v
front_is s w v rest e f = (same_front w v rest rest (sym e ∙ f) (omega (arith, ap length (sym e ∙ f), length-append w rest, length-append v rest))).0

digits_front : (p : ℕ → Bool) (u z : List ℕ) → Each p u → Stops p z → digits p (u ++ z) ≡ digits p u
digits_front p [] [] each stops = refl
digits_front p [] (b ∷ z) each stops = rw stops refl
digits_front p (b ∷ u) z (is, each) stops = rw is (ap (λ (ds : List ℕ). digit_of b ∷ ds) (digits_front p u z each stops))

-- a run of digits and a suffix are an integer's digits, which are those of the text
pub integer_word : (c : Class) → IsDigits c → (s : List ℕ) (suffix rest : Bor (List ℕ)) → Begins (is_in c) s → RunsTo (is_in c) s suffix.now → length rest.now ≤ length suffix.now → (z : List ℕ) × IsLongestWord IntegerSuffix suffix.now z rest.now
    → (w : List ℕ) × IsLongestWord (Digits c) s w rest.now × (digits (is_in c) w ≡ digits (is_in c) s)
integer_word c h s suffix rest b runs within ending =
    let p = is_in c in
    let short = runs_shorter p p (λ x k. k) s suffix.now b runs in
    let less : length rest.now < length s = omega (arith, short, within) in
    let word = starting p (Then (Each p) IntegerSuffix) s b (Some rest) less (then_each p IntegerSuffix (digits_stop c h) s suffix.now runs (Some rest) ending) in
    let same = front_is s word.0 (runs.0 ++ ending.0) rest.now word.1.split (runs.1 ∙ ap (λ (x : List ℕ). runs.0 ++ x) ending.1.split ∙ sym (append_assoc runs.0 ending.0 rest.now)) in
    (word.0, word.1, ap (digits p) same ∙ digits_front p runs.0 ending.0 runs.2 (digits_stop c h ending.0 ending.1.fits) ∙ sym (ap (digits p) runs.1 ∙ digits_front p runs.0 suffix.now runs.2 runs.3))

-- the same behind a prefix of two bytes
pub prefixed_word : (a b : ℕ) (s t : List ℕ) (rest : Bor (List ℕ)) → (k : List ℕ) × IsLongestWord (Word (a ∷ b ∷ [])) s k t → (n : List ℕ) → IsLongestWord (Digits class.Hex) t n rest.now
    → (w : List ℕ) × IsLongestWord (Hexadecimal (a ∷ b ∷ [])) s w rest.now × (drop 2 w ≡ n)
prefixed_word a b s t rest prefix n l =
    let word = word_then (Digits class.Hex) (a ∷ b ∷ []) s t prefix (Some rest) (n, l) in
    let same = front_is s word.0 (a ∷ b ∷ n) rest.now word.1.split (word_split (a ∷ b ∷ []) s t prefix ∙ ap (λ (x : List ℕ). a ∷ b ∷ x) l.split) in
    (word.0, word.1, ap (drop 2) same)

pub base_front : (s w rest : List ℕ) → s ≡ w ++ rest → 0 < length w → base_of w ≡ base_of s
base_front s [] rest e some = absurd (omega (arith, some))
base_front s (b ∷ w) rest e some = sym (ap base_of e)

pub some_digit : (p : ℕ → Bool) (w : List ℕ) → Begins p w → 0 < length w
some_digit p [] h = absurd h
some_digit p (b ∷ w) h = omega arith

pub some_prefixed : (a : ℕ) (k : List ℕ) (Q : List ℕ → Type 0) (w : List ℕ) → Then (Word (a ∷ k)) Q w → 0 < length w
some_prefixed a k Q w (u, v, e, f, g) = omega (arith, ap length e, ap length f, length-append u v)

pub shorter_rest : (s w rest : List ℕ) → s ≡ w ++ rest → 0 < length w → length rest < length s
shorter_rest s w rest e some = omega (arith, some, ap length e, length-append w rest)

-- ---- keywords

block_comment : BeginsBy 42 rule.BlockComment
block_comment w (u, v, e, f, g) = (v, e ∙ ap (λ (x : List ℕ). x ++ v) f)

open_comment : BeginsBy 42 rule.OpenComment
open_comment w f = ([], f)

line_comment : BeginsBy 47 rule.LineComment
line_comment w (u, v, e, f, g) = (v, e ∙ ap (λ (x : List ℕ). x ++ v) f)

by_keyword : (k : Keyword) (d : ℕ) (t : List ℕ) → keyword_bytes k ≡ 47 ∷ d ∷ t → BeginsBy d (rule.Keyword k)
by_keyword k d t bytes w f = (t, f ∙ bytes)

pub memreserve : (c : ℕ) → c ≡ 109 → IsLedBy c keyword.Memreserve
memreserve c is = record {
  before = rule.BlockComment ∷ rule.OpenComment ∷ rule.LineComment ∷ rule.Keyword keyword.Version ∷ rule.Keyword keyword.Plugin ∷ [];
  behind = rule.Keyword keyword.Bits ∷ rule.Keyword keyword.DeleteNode ∷ rule.Keyword keyword.DeleteProperty ∷ rule.Directive directive.Include ∷ rule.Directive directive.Incbin ∷ rule.Directive directive.OmitIfNoRef ∷ rule.Mark mark.Slash ∷ [];
  tried = refl;
  apart = (
    (42, block_comment, λ e. omega (arith, is, e)),
    (
      (42, open_comment, λ e. omega (arith, is, e)),
      (
        (47, line_comment, λ e. omega (arith, is, e)),
        ((100, by_keyword keyword.Version 100 (codes "ts-v1/") refl, λ e. omega (arith, is, e)), ((112, by_keyword keyword.Plugin 112 (codes "lugin/") refl, λ e. omega (arith, is, e)), tt)),
      ),
    ),
  );
}

pub bits : (c : ℕ) → c ≡ 98 → IsLedBy c keyword.Bits
bits c is = record {
  before = rule.BlockComment ∷ rule.OpenComment ∷ rule.LineComment ∷ rule.Keyword keyword.Version ∷ rule.Keyword keyword.Plugin ∷ rule.Keyword keyword.Memreserve ∷ [];
  behind = rule.Keyword keyword.DeleteNode ∷ rule.Keyword keyword.DeleteProperty ∷ rule.Directive directive.Include ∷ rule.Directive directive.Incbin ∷ rule.Directive directive.OmitIfNoRef ∷ rule.Mark mark.Slash ∷ [];
  tried = refl;
  apart = (
    (42, block_comment, λ e. omega (arith, is, e)),
    (
      (42, open_comment, λ e. omega (arith, is, e)),
      (
        (47, line_comment, λ e. omega (arith, is, e)),
        (
          (100, by_keyword keyword.Version 100 (codes "ts-v1/") refl, λ e. omega (arith, is, e)),
          (
            (112, by_keyword keyword.Plugin 112 (codes "lugin/") refl, λ e. omega (arith, is, e)),
            ((109, by_keyword keyword.Memreserve 109 (codes "emreserve/") refl, λ e. omega (arith, is, e)), tt),
          ),
        ),
      ),
    ),
  );
}

none_apart : (m : Mode) (fresh : Bool) (s behind : List ℕ) (c : ℕ) → s ≡ 47 ∷ behind → slice_index behind 0 ≡ c → (qs : List Rule) → AreApart c qs → NoneOf m fresh s qs
none_apart m fresh s behind c e at [] apart = tt
none_apart m fresh s behind c e at (q ∷ qs) ((d, begins, other), apart) = (not_here m fresh s q none, none_apart m fresh s behind c e at qs apart)
  where
    none : NoneFits (words q) s
    none v more f g =
        let front = begins v g in
        let whole : 47 ∷ behind ≡ 47 ∷ d ∷ (front.0 ++ more) = sym e ∙ f ∙ ap (λ (x : List ℕ). x ++ more) front.1 in
        other (sym at ∙ ap (λ (x : List ℕ). slice_index x 0) (same_tail 47 47 behind (d ∷ (front.0 ++ more)) whole))

pub keyword_cut : (m : Mode) (fresh : Bool) (s behind : List ℕ) (first c : ℕ) (k : Keyword) → s ≡ first ∷ behind → first ≡ 47 → slice_index behind 0 ≡ c → IsLedBy c k → (w rest : List ℕ) → IsLongestWord (words (rule.Keyword k)) s w rest → length rest < length s
    → IsCut m fresh s (rule.Keyword k) w rest
keyword_cut m fresh s behind first c k e slash at led w rest l short =
    let starts = e ∙ ap (λ (b : ℕ). b ∷ behind) slash in
    cut_behind m fresh s led.before (rule.Keyword k) led.behind (led.tried ∙ ap (λ (x : List ℕ). filter (leads (leader_of (slice_index x 0))) rules) (sym starts)) (none_apart m fresh s behind c starts at led.before led.apart) refl w rest l short
