-- Where tokens break is a place among them; and what a source that was read says is spelled by its tokens.
use Rattle.std.proofs.Common.{◌≡◌, ◌≤◌, ℕ, ◌-◌, Bool, true, false, List, [], ◌∷◌, ◌++◌, length, map, take, drop, Some, None, Ok, refl, sym, ◌∙◌, ap, subst, append_assoc, arith, length-append}
use Rattle.std.specs.List.{AllByRecursion}
use Rattle.std.proofs.lemmas.List.{take-append-drop, drop-map, length-map}
use Rattle.std.proofs.Math.Seq.{drop-append_seam}
use Rattle.dt_model.specs.Limits.{most_bytes}
use Rattle.dt_names.specs.declared.fault.Fault.{Fault}
use Rattle.dt_names.specs.declared.fault.FaultKind.{FaultKind}
use Rattle.dt_names.specs.declared.fault.FaultKind.TheVariants as fault
use Rattle.dt_lex.specs.declared.token.Token.{Token}
use Rattle.dt_lex.specs.Lexing.{IsLexed, WhyNotLexed, no_memory, too_long as text_too_long, bad_token, bad_integer}
use Rattle.dt_lex.specs.Spans.{AreSpans}
use Rattle.dt_parse.specs.declared.stop.Stop.{Stop}
use Rattle.dt_grammar.specs.Words.{Words, word_of, words_of}
use Rattle.dt_grammar.specs.Grammar.{SpellsSource}
use Rattle.dt_grammar.specs.Unchecked.{RawPlace, RawReserve, RawSource, place_meant as said_at, reserve_of, says_of}
use Rattle.dt_source_items.specs.declared.source.Reservation.{Reservation}
use Rattle.dt_model.specs.Source.{Place}
use Rattle.dt_source_items.specs.Said.{reservation_said, said}
use Rattle.dt_grammar.specs.Moves.{source_with}
use Rattle.dt_grammar.specs.Strict.{IsReserve, IsStrict}
use Rattle.dt_grammar.specs.Wanted.{Made, made_places, made_behind, made_source, Wanted, SomeCells, AfterMemberLabels, AfterName, Prim, StatementThen, Top, AfterAddress, Whole}
use Rattle.dt_grammar.specs.Descent.{after, found, stuck, Descends}
use Rattle.dt_grammar.specs.Faults.{Around, outside, Shows, unwanted, unnamed, unplaced, misplaced, NumberBreaks, cut_off, unended, too_long, valueless, too_large, Breaks, shows, in_number, in_part, behind_part}
use Rattle.dt_parse.specs.Reading.{IsRead, IsBroken, IsInside, IsGrammarFault, IsSourceFault}
use Rattle.dt_grammar.specs.Parsed.{IsTagged, token_place, told_at, WhyNotParsed}
use Rattle.dt_parse.specs.Reading as reading
use Rattle.dt_grammar.specs.Parsed as grammar
use Rattle.dt_grammar.proofs.Descent.{local}
use Rattle.dt_grammar.proofs.Sound.{source_read}
use Rattle.dt_grammar.proofs.CheckedSources.{source_back}

-- ---- what is read

pub source_spelled : (ws : Words) (r : RawSource) → Descends Whole ws (found (made_source r) []) → IsStrict r → SpellsSource ws (says_of r)
source_spelled ws r d h = source_back ws r (source_read ws (made_source r) d) h

pub whole_read : (ws top then : Words) (plugin : Bool) (rs : List RawReserve) (ls : List (List ℕ)) (ps : List RawPlace) →
    ((m : Made) (left : Words) → Descends Top top (found m left) → Descends Whole ws (found (source_with plugin m) left)) →
    ((qs : List RawPlace) (left : Words) → Descends (StatementThen ls) then (found (made_places qs) left) → Descends Top top (found (made_behind rs qs) left)) →
    AllByRecursion IsReserve rs → IsRead outside (StatementThen ls) then (made_places ps) [] →
    IsRead outside Whole ws (made_source (record { plugin = plugin; reserves = rs; places = ps })) []
whole_read ws top then plugin rs ls ps f g h s = record {
  read = f (made_behind rs ps) [] (g ps [] s.read);
  fine = record { reserves = h; places = s.fine.0; ordered = s.fine.1 };
}

pub whole_says : (plugin : Bool) (reservations : List Reservation) (places : List Place) (rs : List RawReserve) (ps : List RawPlace) →
    map reservation_said reservations ≡ map reserve_of rs → places ≡ map said_at ps →
    said plugin reservations places ≡ says_of (record { plugin = plugin; reserves = rs; places = ps })
whole_says plugin reservations places rs ps e f = cc

pub whole_spelled : (ws : Words) (plugin : Bool) (reservations : List Reservation) (places : List Place) (rs : List RawReserve) (ps : List RawPlace) →
    map reservation_said reservations ≡ map reserve_of rs → places ≡ map said_at ps →
    IsRead outside Whole ws (made_source (record { plugin = plugin; reserves = rs; places = ps })) [] →
    SpellsSource ws (said plugin reservations places)
whole_spelled ws plugin reservations places rs ps e f r =
    subst (SpellsSource ws) (sym (whole_says plugin reservations places rs ps e f)) (source_spelled ws _ r.read r.fine)

-- ---- where tokens break

-- the tokens that are left stand behind some others
pub record IsBehind (ws left : Words) : Type 0 where
  pub front : Words
  pub split : ws ≡ front ++ left

nothing_before : (ws : Words) → IsBehind ws ws
nothing_before ws = record { front = []; split = refl }

over : (ws rest left : Words) → IsBehind ws rest → IsBehind rest left → IsBehind ws left
over ws rest left a b = record { front = a.front ++ b.front; split = a.split ∙ ap (λ (x : Words). a.front ++ x) b.split ∙ sym (append_assoc a.front b.front left) }

over_token : (taken : Bool) (ws left : Words) → IsBehind (after taken ws) left → IsBehind ws left
over_token false ws left b = b
over_token true [] left b = b
over_token true (w ∷ ws) left b = record { front = w ∷ b.front; split = ap (λ (x : Words). w ∷ x) b.split }

behind_found : (g : Wanted) (ws left : Words) (m : Made) → Descends g ws (found m left) → IsBehind ws left
behind_found g ws left m d = let l = local d in record { front = l.front; split = l.split }

behind_stuck : (g : Wanted) (ws left : Words) → Descends g ws (stuck left) → IsBehind ws left
behind_stuck g ws left d = let l = local d in record { front = l.front; split = l.split }

behind_drop : (n : ℕ) (ws : Words) → IsBehind ws (drop n ws)
behind_drop n ws = record { front = take n ws; split = sym (take-append-drop n ws) }

number_behind : {bits : ℕ} {ws left : Words} {k : FaultKind} → NumberBreaks bits ws k left → IsBehind ws left
number_behind {ws = ws} (cut_off left d h) = behind_stuck Prim ws left d
number_behind {ws = ws} (unended left d h) = behind_drop 1024 ws
number_behind {ws = ws} (too_long m left d h) = behind_drop 1024 ws
number_behind {ws = ws} (valueless m left d h e) = nothing_before ws
number_behind {ws = ws} (too_large m left d h e) = nothing_before ws

pub broken_behind : {a : Around} {g : Wanted} {ws left : Words} {k : FaultKind} → Breaks a g ws k left → IsBehind ws left
broken_behind (shows a g ws k h) = nothing_before ws
broken_behind (in_number a ws left k h) = number_behind h
broken_behind (in_part a g ws left k taken part whole n e p b) = over_token taken ws left (broken_behind b)
broken_behind (behind_part a g ws rest left k taken part whole made n e p d f b) =
    over_token taken ws left (over (after taken ws) rest left (behind_found part (after taken ws) rest made d) (broken_behind b))

-- ---- which faults

misplaced_shown : (g : Wanted) → IsGrammarFault (misplaced g)
misplaced_shown SomeCells = tt
misplaced_shown (AfterName ls n) = tt
misplaced_shown (AfterMemberLabels ls) = tt
misplaced_shown (AfterAddress ls x) = tt
misplaced_shown _ = tt

shows_shown : {a : Around} {g : Wanted} {ws : Words} {k : FaultKind} → Shows a g ws k → IsGrammarFault k
shows_shown (unwanted e) = tt
shows_shown (unnamed n) = tt
shows_shown {g = g} (unplaced n p) = misplaced_shown g

number_shown : {bits : ℕ} {ws left : Words} {k : FaultKind} → NumberBreaks bits ws k left → IsGrammarFault k
number_shown (cut_off left d h) = tt
number_shown (unended left d h) = tt
number_shown (too_long m left d h) = tt
number_shown (valueless m left d h e) = tt
number_shown (too_large m left d h e) = tt

broken_shown : {a : Around} {g : Wanted} {ws left : Words} {k : FaultKind} → Breaks a g ws k left → IsGrammarFault k
broken_shown (shows a g ws k h) = shows_shown h
broken_shown (in_number a ws left k h) = number_shown h
broken_shown (in_part a g ws left k taken part whole n e p b) = broken_shown b
broken_shown (behind_part a g ws rest left k taken part whole made n e p d f b) = broken_shown b

-- tokens never break for want of memory
pub never_memory : {a : Around} {g : Wanted} {ws left : Words} {k : FaultKind} → Breaks a g ws k left → ¬ k ≡ fault.NoMemory
never_memory b e = subst IsGrammarFault e (broken_shown b)

-- ---- what is told

pub all_inside : (from to : ℕ) (ts : List Token) → AreSpans from to ts → AllByRecursion (IsInside to) ts
all_inside from to [] h = tt
all_inside from to (t ∷ ts) h = (record { start = omega (arith, h.1); inside = h.2 }, all_inside t.«end» to ts h.3)

-- words that stand behind others are those of the last tokens
last_words : (text : List ℕ) (tokens : List Token) (front left : Words) → words_of text tokens ≡ front ++ left → words_of text (drop (length tokens - length left) tokens) ≡ left
last_words text tokens front left e =
    let few : length tokens - length left ≡ length front = omega (arith, sym (length-map tokens (word_of text)), ap length e, length-append front left) in
    ap (λ (n : ℕ). words_of text (drop n tokens)) few ∙ sym (drop-map (word_of text) (length front) tokens) ∙ ap (λ (x : Words). drop (length front) x) e ∙ drop-append_seam front left

-- the fault that is told of a stop
pub record Tells (text : List ℕ) (tokens : List Token) (stop : Stop) (e : Fault) : Type 0 where
  pub memory : stop.kind ≡ fault.NoMemory → e ≡ record { kind = fault.NoMemory; at = None }
  pub told : ¬ stop.kind ≡ fault.NoMemory → e ≡ record { kind = stop.kind; at = told_at stop.kind (token_place text (drop (length tokens - stop.left) tokens)) }

pub why_broken : (text : List ℕ) (tokens : List Token) (stop : Stop) (e : Fault) → length text ≤ most_bytes → IsLexed text (Ok tokens) → IsTagged (words_of text tokens) →
    IsBroken outside Whole (words_of text tokens) stop → Tells text tokens stop e → WhyNotParsed text e
why_broken text tokens stop e size lexed tagged (reading.no_memory k) tells = subst (WhyNotParsed text) (sym (tells.memory k)) (grammar.unlexed _ no_memory)
why_broken text tokens stop e size lexed tagged (reading.broken left many b) tells =
    let n = length tokens - stop.left in
    let split = (broken_behind b).split in
    let same : words_of text (drop n tokens) ≡ left = ap (λ (m : ℕ). words_of text (drop (length tokens - m) tokens)) (sym many) ∙ last_words text tokens (broken_behind b).front left split in
    subst (WhyNotParsed text) (sym (tells.told (never_memory b)))
    (grammar.broken tokens (take n tokens) (drop n tokens) stop.kind size lexed tagged (sym (take-append-drop n tokens))
    (subst (λ (x : Words). Breaks outside Whole (words_of text tokens) stop.kind x) (sym same) b))

pub why_untagged : (text : List ℕ) (tokens : List Token) (e : Fault) → length text ≤ most_bytes → IsLexed text (Ok tokens) → ¬ IsTagged (words_of text tokens) →
    e.kind ≡ fault.BadVersionTag → e.at ≡ Some 0 → WhyNotParsed text e
why_untagged text tokens e size lexed h k a =
    let same : e ≡ record { kind = fault.BadVersionTag; at = Some 0 } = λ i. record { kind = k i; at = a i } in
    subst (WhyNotParsed text) (sym same) (grammar.untagged tokens size lexed h)

-- ---- kinds of faults

grammar_of_source : (k : FaultKind) → IsGrammarFault k → IsSourceFault k
grammar_of_source fault.Syntax h = tt
grammar_of_source fault.BadName h = tt
grammar_of_source fault.PropertyAfterNode h = tt
grammar_of_source fault.BadReferenceWidth h = tt
grammar_of_source fault.DivideByZero h = tt
grammar_of_source fault.OutOfRange h = tt
grammar_of_source fault.Limit h = tt
grammar_of_source _ h = absurd h

lexer_kind : (text : List ℕ) (e : Fault) → WhyNotLexed text e → IsSourceFault e.kind
lexer_kind text _ no_memory = tt
lexer_kind text _ (text_too_long h) = tt
lexer_kind text _ (bad_token at h l) = tt
lexer_kind text _ (bad_integer at h l) = tt

pub source_kind : (text : List ℕ) (e : Fault) → WhyNotParsed text e → IsSourceFault e.kind
source_kind text _ (grammar.unlexed e w) = lexer_kind text e w
source_kind text _ (grammar.untagged tokens size l n) = tt
source_kind text _ (grammar.broken tokens before left k size l t split b) = grammar_of_source k (broken_shown b)
