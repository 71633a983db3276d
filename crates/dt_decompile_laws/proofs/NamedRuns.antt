-- Runs of the bytes of names: names, bytes and integers, by the mode.
use Rattle.std.proofs.Common.{◌≡◌, ℕ, ◌+◌, ◌*◌, Bool, true, false, List, [], ◌∷◌, ◌++◌, take, drop, Some, None, inl, inr, ⊎_elim, refl, sym, ◌∙◌, ap, subst, arith}
use Rattle.std.specs.Prelude.{◌==◌, ◌||◌, ◌&&◌, not, codes, if◌then◌else◌}
use Rattle.std.specs.List.{list_all, AllByRecursion}
use Rattle.std.proofs.lemmas.Bool.{eqb-true, or_cases, or_parts, not-true, both_ways, and_parts}
use Rattle.std.proofs.lemmas.Bool.Decides.{nat_tests}
use Rattle.std.proofs.lemmas.List.{append-nil}
use Rattle.dt_model.proofs.Tests.{each_append}
use Rattle.dt_lex.specs.declared.byte.Class.TheVariants as class
use Rattle.dt_lex.specs.declared.leader.Leader.{Leader}
use Rattle.dt_lex.specs.declared.leader.Leader.TheVariants as leader
use Rattle.dt_lex.specs.declared.token.Mode.{Mode}
use Rattle.dt_lex.specs.declared.token.Mode.TheVariants as mode
use Rattle.dt_lex.specs.declared.token.TokenKind.TheVariants as kind
use Rattle.dt_lex.specs.declared.rule.Rule.{Rule}
use Rattle.dt_lex.specs.declared.rule.Rule.TheVariants as rule
use Rattle.dt_lex.specs.Bytes.{is_in}
use Rattle.dt_lex.specs.Numbers.{digit_of, digits, integer_of}
use Rattle.dt_lex.specs.Words.{Each, Word, AnyOf, Stops, NoneFits}
use Rattle.dt_lex.specs.Vocabulary.{suffixes, Hexadecimal}
use Rattle.dt_lex.specs.Rules.{allowed, In, rules}
use Rattle.dt_lex.specs.Leaders.{leaders, leader_in, leads}
use Rattle.dt_lex.specs.Outcomes.{of_integer}
use Rattle.dt_lex.specs.Lexing.{ends_line}
use Rattle.dt_lex.proofs.LeaderLemmas.{not_led}
use Rattle.dt_lex.proofs.WordLemmas.{each_most, same_head, then_each, stops_word, two_some}
use Rattle.dt_grammar.specs.Words.{Words}
use Rattle.dt_decompile_laws.specs.Words.{name_word}
use Rattle.dt_decompile_laws.proofs.CutWords.{Cuts, word_cut}
use Rattle.dt_decompile_laws.proofs.MissedRules.{cut_by, CutsOn}

-- ---- rules that the first byte of a name doesn't leave

-- whether no byte of a table that passes the test, and none outside it, has a leader that leaves the rule
abbrev never : (ℕ → Bool) → Rule → List (ℕ × Leader) → Bool
never p q [] = not (leads leader.Other q)
never p q (x ∷ xs) = (not (p x.0) || not (leads x.1 q)) && never p q xs

-- so no byte that passes the test leaves the rule
never_leads : (p : ℕ → Bool) (q : Rule) (xs : List (ℕ × Leader)) → never p q xs ≡ true → (b : ℕ) → p b ≡ true → leads (leader_in xs b) q ≡ false
never_leads p q [] h b f = not-true _ h
never_leads p q (x ∷ xs) h b f = let k = and_parts _ _ h in at (never_leads p q xs k.1 b f) k.0 (b == x.0) refl
  where
    at : leads (leader_in xs b) q ≡ false → (not (p x.0) || not (leads x.1 q)) ≡ true → (t : Bool) → (b == x.0) ≡ t → leads (if t then x.1 else leader_in xs b) q ≡ false
    at rec k true e =
        ⊎_elim
        (λ (l : not (p x.0) ≡ true). absurd (both_ways _ (not-true _ l) (subst (λ (n : ℕ). p n ≡ true) (eqb-true b x.0 e) f)))
        (λ (r : not (leads x.1 q) ≡ true). not-true _ r)
        (or_cases _ _ k)
    at rec k false e = rec

-- ---- what ends a run

-- the text doesn't begin with a byte of names or a colon
abbrev pub Ended : List ℕ → Type 0
Ended s = Stops (λ b. is_in class.Name b || b == 58) s

-- no byte of names follows
ended_name : (s : List ℕ) → Ended s → Stops (is_in class.Name) s
ended_name [] z = tt
ended_name (b ∷ s) z = (or_parts _ _ z).0

-- and no colon
ended_colon : (s : List ℕ) → Ended s → NoneFits (Word (58 ∷ [])) s
ended_colon s z [] more e f = cc
ended_colon [] z (c ∷ v) more e f = cc
ended_colon (b ∷ s) z (c ∷ v) more e f =
    let same : b ≡ c = cc in
    let colon : c ≡ 58 = cc in
    absurd (both_ways _ (or_parts _ _ z).1 (ap (λ (n : ℕ). n == 58) (same ∙ colon)))

-- bytes of names are no blanks
pub name_not_blank : (b : ℕ) → is_in class.Name b ≡ true → is_in class.Blank b ≡ true → ⊥
name_not_blank b h i = grind (arith, nat_tests)

-- bytes of labels are bytes of names
label_named : (b : ℕ) → is_in class.Label b ≡ true → is_in class.Name b ≡ true
label_named b h = grind (arith, nat_tests)

-- and so are hexadecimal digits
pub hex_named : (b : ℕ) → is_in class.Hex b ≡ true → is_in class.Name b ≡ true
hex_named b h = grind (arith, nat_tests)

-- a weaker test
each_more : (p q : ℕ → Bool) → ((b : ℕ) → p b ≡ true → q b ≡ true) → (w : List ℕ) → Each p w → Each q w
each_more p q h [] a = tt
each_more p q h (b ∷ w) a = (h b a.0, each_more p q h w a.1)

-- two parts
each_both : (p : ℕ → Bool) (u v : List ℕ) → Each p u → Each p v → Each p (u ++ v)
each_both p [] v a c = c
each_both p (b ∷ u) v a c = (a.0, each_both p u v a.1 c)

-- ---- the rules before names

module _ (m : Mode) (b : ℕ) (w rest : List ℕ) (a : Each (is_in class.Name) (b ∷ w)) (z : Ended rest) where
  -- whether a rule has no word by the mode or the first byte
  fails : Rule → Bool
  fails q = not (allowed q m false) || never (is_in class.Name) q leaders

  -- such a rule has none
  other : (q : Rule) → fails q ≡ true → NoneFits (In q m false) ((b ∷ w) ++ rest)
  unfolding fails
  other q h v more e f =
      ⊎_elim
      (λ (l : not (allowed q m false) ≡ true). both_ways _ (not-true _ l) f.0)
      (λ (r : never (is_in class.Name) q leaders ≡ true). not_led m false ((b ∷ w) ++ rest) q (never_leads (is_in class.Name) q leaders r b a.0) v more e f)
      (or_cases _ _ h)

  -- the rule of blanks has none
  no_blanks : NoneFits (In rule.Blanks m false) ((b ∷ w) ++ rest)
  no_blanks [] more e f = f.1.0
  no_blanks (c ∷ v) more e f =
      let same : c ≡ b = sym (same_head b c (w ++ rest) (v ++ more) e) in
      name_not_blank b a.0 (subst (λ (n : ℕ). is_in class.Blank n ≡ true) same f.1.0)

  -- no label: no colon stands behind the run
  no_label : NoneFits (In rule.Label m false) ((b ∷ w) ++ rest)
  no_label v more e (i, (u, x, g, h, k)) =
      then_each (is_in class.Name) (Word (58 ∷ [])) (stops_word (is_in class.Name) (58 ∷ []) refl) ((b ∷ w) ++ rest) rest
      (b ∷ w, refl, a, ended_name rest z) None (ended_colon rest z) v more e (u, x, g, each_more (is_in class.Label) (is_in class.Name) label_named u h.1, k)

  -- a list of such rules
  others : (qs : List Rule) → list_all fails qs ≡ true → AllByRecursion (λ q. NoneFits (In q m false) ((b ∷ w) ++ rest)) qs
  others [] h = tt
  others (q ∷ qs) h = let k = and_parts _ _ h in (other q k.0, others qs k.1)

  -- none of the rules before names has a word
  before_names : AllByRecursion (λ q. NoneFits (In q m false) ((b ∷ w) ++ rest)) (take 18 rules)
  unfolding fails
  before_names = (
    no_blanks,
    each_append (λ q. NoneFits (In q m false) ((b ∷ w) ++ rest)) (take 5 (drop 1 rules)) (take 12 (drop 6 rules))
        (others (take 5 (drop 1 rules)) refl)
        (no_label, others (take 11 (drop 7 rules)) refl),
  )

  -- and rules that the mode doesn't allow behind them
  before_run : (n : ℕ) → list_all (λ q. not (allowed q m false)) (take n (drop 18 rules)) ≡ true →
      AllByRecursion (λ q. NoneFits (In q m false) ((b ∷ w) ++ rest)) (take 18 rules ++ take n (drop 18 rules))
  before_run n h =
      each_append (λ q. NoneFits (In q m false) ((b ∷ w) ++ rest)) (take 18 rules) (take n (drop 18 rules)) before_names (at (take n (drop 18 rules)) h)
    where
      at : (qs : List Rule) → list_all (λ q. not (allowed q m false)) qs ≡ true → AllByRecursion (λ q. NoneFits (In q m false) ((b ∷ w) ++ rest)) qs
      at [] h = tt
      at (q ∷ qs) h = let k = and_parts _ _ h in (λ v more e f. both_ways _ (not-true _ k.0) f.0, at qs k.1)

-- ---- names

-- a name
pub name_on : (b : ℕ) (w rest : List ℕ) (ws : Words) → Each (is_in class.Name) (b ∷ w) → Ended rest → CutsOn mode.Plain rest ws →
    Cuts mode.Name false ((b ∷ w) ++ rest) (name_word (b ∷ w) ∷ ws)
name_on b w rest ws a z l =
    word_cut rule.Name (b ∷ w) rest kind.Name
    (cut_by mode.Name false ((b ∷ w) ++ rest) (take 18 rules) rule.Name (drop 19 rules) (b ∷ w) rest refl (before_names mode.Name b w rest a z)
    (record { split = refl; fits = (refl, (a.0, a)); longest = λ v more e f. each_most (is_in class.Name) (b ∷ w) rest v more e a (ended_name rest z) f.1.1 })
    (omega arith)) refl (l (ends_line (b ∷ w)))

-- ---- bytes

-- two hexadecimal digits between brackets
pub byte_on : (b c : ℕ) (rest : List ℕ) (ws : Words) → is_in class.Hex b ≡ true → is_in class.Hex c ≡ true → Ended rest → CutsOn mode.Bytes rest ws →
    Cuts mode.Bytes false (b ∷ c ∷ rest) (record { kind = kind.Byte (16 * digit_of b + digit_of c); bytes = b ∷ c ∷ [] } ∷ ws)
byte_on b c rest ws h i z l =
    let two = two_some (is_in class.Hex) (b ∷ c ∷ rest) b c rest refl h i in
    word_cut rule.Byte (b ∷ c ∷ []) rest (kind.Byte (16 * digit_of b + digit_of c))
    (cut_by mode.Bytes false (b ∷ c ∷ rest) (take 19 rules) rule.Byte (drop 20 rules) (b ∷ c ∷ []) rest refl
    (before_run mode.Bytes b (c ∷ []) rest (hex_named b h, (hex_named c i, tt)) z 1 refl)
    (record { split = refl; fits = (refl, two.fits); longest = λ v more e f. two.longest v more e f.1 })
    (omega arith)) refl (l (ends_line (b ∷ c ∷ [])))

-- ---- integers

-- a word of a list of words of such bytes is one
any_named : (ks : List (List ℕ)) → AllByRecursion (Each (is_in class.Name)) ks → (w : List ℕ) → AnyOf ks w → Each (is_in class.Name) w
any_named [] h w f = absurd f
any_named (k ∷ ks) h w (inl f) = subst (Each (is_in class.Name)) (sym f) h.0
any_named (k ∷ ks) h w (inr f) = any_named ks h.1 w f

-- suffixes are letters
suffixes_named : AllByRecursion (Each (is_in class.Name)) suffixes
suffixes_named = ((refl, (refl, (refl, tt))), ((refl, (refl, tt)), ((refl, (refl, tt)), ((refl, tt), ((refl, tt), (tt, tt))))))

-- a hexadecimal integer is a run of the bytes of names
hexadecimal_named : (w : List ℕ) → Hexadecimal (codes "0x") w → Each (is_in class.Name) w
hexadecimal_named w (u, x, e, f, (g, (y, v, h, i, j))) =
    subst (Each (is_in class.Name)) (sym (e ∙ (λ n. f n ++ h n)))
    (refl, (refl, each_both (is_in class.Name) y v (each_more (is_in class.Hex) (is_in class.Name) hex_named y i) (any_named suffixes suffixes_named v j)))

-- `0x` and hexadecimal digits, outside names and brackets
pub integer_on : (d : ℕ) (ds rest : List ℕ) (ws : Words) (n : ℕ) → Each (is_in class.Hex) (d ∷ ds) → Ended rest → integer_of 16 (digits (is_in class.Hex) (d ∷ ds)) ≡ Some n →
    CutsOn mode.Plain rest ws → Cuts mode.Plain false (48 ∷ 120 ∷ ((d ∷ ds) ++ rest)) (record { kind = kind.Integer n; bytes = codes "0x" ++ d ∷ ds } ∷ ws)
integer_on d ds rest ws n a z e l =
    let named : Each (is_in class.Name) (48 ∷ 120 ∷ d ∷ ds) = (refl, (refl, each_more (is_in class.Hex) (is_in class.Name) hex_named (d ∷ ds) a)) in
    word_cut rule.Hexadecimal (48 ∷ 120 ∷ d ∷ ds) rest (kind.Integer n)
    (cut_by mode.Plain false (48 ∷ 120 ∷ ((d ∷ ds) ++ rest)) (take 20 rules) rule.Hexadecimal (drop 21 rules) (48 ∷ 120 ∷ d ∷ ds) rest refl
    (before_run mode.Plain 48 (120 ∷ d ∷ ds) rest named z 2 refl)
    (record {
      split = refl;
      fits = (refl, (codes "0x", d ∷ ds, refl, refl, (a.0, (d ∷ ds, [], sym (append-nil (d ∷ ds)), a, inr (inr (inr (inr (inr (inl refl)))))))));
      longest = λ v more g f. each_most (is_in class.Name) (48 ∷ 120 ∷ d ∷ ds) rest v more g named (ended_name rest z) (hexadecimal_named v f.1);
    })
    (omega arith)) (ap of_integer e) (l (ends_line (48 ∷ 120 ∷ d ∷ ds)))

-- the same, where it is known that there are digits
pub integer_at : (ds rest : List ℕ) (ws : Words) (n : ℕ) → (d : ℕ) × (t : List ℕ) × (ds ≡ d ∷ t) → Each (is_in class.Hex) ds → Ended rest →
    integer_of 16 (digits (is_in class.Hex) ds) ≡ Some n → CutsOn mode.Plain rest ws →
    Cuts mode.Plain false (48 ∷ 120 ∷ (ds ++ rest)) (record { kind = kind.Integer n; bytes = codes "0x" ++ ds } ∷ ws)
integer_at [] rest ws n (d, t, f) a z e l = cc
integer_at (c ∷ ds) rest ws n some a z e l = integer_on c ds rest ws n a z e l
