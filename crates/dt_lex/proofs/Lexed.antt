-- A text has one token list or one first fault, and what a word adds to it.
use Rattle.std.proofs.Common.{◌≡◌, ℕ, ◌+◌, ◌-◌, ◌<◌, ◌≤◌, Bool, true, List, [], ◌∷◌, ◌++◌, length, Option, Some, None, Ok, Err, ◌⊎◌, inl, inr, ⊎_elim, refl, sym, ◌∙◌, ap, subst, append_assoc, arith, length-append}
use Rattle.std.specs.Prelude.{slice_get}
use Rattle.std.proofs.str.Laws.{order}
use Rattle.dt_model.specs.Limits.{most_bytes}
use Rattle.dt_lex.specs.declared.token.Mode.{Mode}
use Rattle.dt_lex.specs.declared.token.Mode.TheVariants as mode
use Rattle.dt_lex.specs.declared.token.TokenKind.{TokenKind}
use Rattle.dt_lex.specs.declared.token.Token.{Token}
use Rattle.dt_lex.specs.declared.token.Flaw.{Flaw}
use Rattle.dt_lex.specs.declared.token.Flaw.TheVariants.{BadToken, BadInteger}
use Rattle.dt_lex.specs.declared.rule.Rule.{Rule}
use Rattle.dt_lex.specs.Modes.{mode_behind}
use Rattle.dt_lex.specs.Words.{IsLongestWord}
use Rattle.dt_lex.specs.Rules.{In, rules}
use Rattle.dt_lex.specs.Outcomes.{Outcome, outcome}
use Rattle.dt_lex.specs.Lexing.{IsCut, HasNoCut, Lexed, FirstFlaw, with_tokens, ends_line, token, Lexes, done, no_rule, faulty, skipped, given, IsLexed, WhyNotLexed, no_memory, too_long, bad_token, bad_integer}
use Rattle.dt_lex.specs.Pieces.{tokens_of, mode_after}
use Rattle.dt_lex.specs.Spans.{AreSpans, fault_of}
use Rattle.dt_lex.specs.Spans as spans
use Rattle.dt_names.specs.declared.fault.Fault.{Fault}
use Rattle.dt_names.specs.declared.fault.FaultKind.TheVariants as fault
use Rattle.dt_lex.proofs.QuotedLemmas.{same_front}

record SameCut (r r' : Rule) (w w' rest rest' : List ℕ) : Type 0 where
  rule : r ≡ r'
  word : w ≡ w'
  left : rest ≡ rest'

module _ {m : Mode} {fresh : Bool} {s : List ℕ} where
  -- the first rule that has a word, and its longest word, are determined
  same_rule : {r r' : Rule} {w w' rest rest' : List ℕ} → IsCut m fresh s r w rest → IsCut m fresh s r' w' rest' → r ≡ r'
  same_rule {r = r} {r' = r'} {w = w} {w' = w'} {rest = rest} {rest' = rest'} c d =
      ⊎_elim
      (λ (below : c.place < d.place). absurd (d.first c.place r below c.tried w rest c.longest.split c.longest.fits))
      (λ (above : d.place ≤ c.place).
      ⊎_elim
      (λ (less : d.place < c.place). absurd (c.first d.place r' less d.tried w' rest' d.longest.split d.longest.fits))
      (λ (more : c.place ≤ d.place).
      let same : c.place ≡ d.place = omega arith in
      let at : slice_get rules d.place ≡ Some r = subst (λ (i : ℕ). slice_get rules i ≡ Some r) same c.tried in
      let there = d.tried in
      cc)
      (order d.place c.place))
      (order c.place d.place)

  same_cut : {r r' : Rule} {w w' rest rest' : List ℕ} → IsCut m fresh s r w rest → IsCut m fresh s r' w' rest' → SameCut r r' w w' rest rest'
  same_cut {r = r} {r' = r'} {w = w} {w' = w'} {rest = rest} {rest' = rest'} c d =
      let rule = same_rule c d in
      let l : IsLongestWord (In r m fresh) s w' rest' = subst (λ (q : Rule). IsLongestWord (In q m fresh) s w' rest') (sym rule) d.longest in
      let up = c.longest.longest w' rest' l.split l.fits in
      let down = l.longest w rest c.longest.split c.longest.fits in
      let front = same_front w w' rest rest' (sym c.longest.split ∙ l.split) (omega (arith, up, down)) in
      record { rule = rule; word = front.0; left = front.1 }

  no_cut : {r : Rule} {w rest : List ℕ} → HasNoCut m fresh s → IsCut m fresh s r w rest → ⊥
  no_cut {r = r} {w = w} {rest = rest} h c = h c.place r c.tried w rest c.longest.split c.longest.fits

  same_outcome : {r r' : Rule} {w w' rest rest' : List ℕ} {o o' : Outcome} → IsCut m fresh s r w rest → IsCut m fresh s r' w' rest' → outcome r w ≡ o → outcome r' w' ≡ o' → o ≡ o'
  same_outcome c d e f = let h = same_cut c d in sym e ∙ (λ i. outcome (h.rule i) (h.word i)) ∙ f

empty_cut : {m : Mode} {fresh : Bool} {r : Rule} {w rest : List ℕ} → IsCut m fresh [] r w rest → ⊥
empty_cut {w = w} {rest = rest} c = omega (arith, c.some, ap length c.longest.split, length-append w rest)

pub later : {m m' : Mode} {fresh fresh' : Bool} {at at' : ℕ} {s s' : List ℕ} {a : Lexed} → m ≡ m' → fresh ≡ fresh' → at ≡ at' → s ≡ s' → Lexes m fresh at s a → Lexes m' fresh' at' s' a
later {a = a} e f g h l = subst (λ (x : Mode × Bool × ℕ × List ℕ). Lexes x.0 x.1 x.2 x.3 a) (λ i. (e i, f i, g i, h i)) l

pub unique : {m : Mode} {fresh : Bool} {at : ℕ} {s : List ℕ} {a b : Lexed} → Lexes m fresh at s a → Lexes m fresh at s b → a ≡ b
unique done done = refl
unique done (faulty r w rest c e) = absurd (empty_cut c)
unique done (skipped r w rest c e l) = absurd (empty_cut c)
unique done (given r w rest k c e l) = absurd (empty_cut c)
unique (no_rule h) (no_rule h') = refl
unique (no_rule h) (faulty r w rest c e) = absurd (no_cut h c)
unique (no_rule h) (skipped r w rest c e l) = absurd (no_cut h c)
unique (no_rule h) (given r w rest k c e l) = absurd (no_cut h c)
unique (faulty r w rest c e) done = absurd (empty_cut c)
unique (faulty r w rest c e) (no_rule h) = absurd (no_cut h c)
unique (faulty r w rest c e) (faulty r' w' rest' c' e') = let o = same_outcome c c' e e' in cc
unique (faulty r w rest c e) (skipped r' w' rest' c' e' l) = let o = same_outcome c c' e e' in cc
unique (faulty r w rest c e) (given r' w' rest' k c' e' l) = let o = same_outcome c c' e e' in cc
unique (skipped r w rest c e l) done = absurd (empty_cut c)
unique (skipped r w rest c e l) (no_rule h) = absurd (no_cut h c)
unique (skipped r w rest c e l) (faulty r' w' rest' c' e') = let o = same_outcome c c' e e' in cc
unique (skipped {at = at} r w rest c e l) (skipped r' w' rest' c' e' l') =
    let h = same_cut c c' in
    unique l (later refl (sym (ap ends_line h.word)) (sym (ap (λ (x : List ℕ). at + length x) h.word)) (sym h.left) l')
unique (skipped r w rest c e l) (given r' w' rest' k c' e' l') = let o = same_outcome c c' e e' in cc
unique (given r w rest k c e l) done = absurd (empty_cut c)
unique (given r w rest k c e l) (no_rule h) = absurd (no_cut h c)
unique (given r w rest k c e l) (faulty r' w' rest' c' e') = let o = same_outcome c c' e e' in cc
unique (given r w rest k c e l) (skipped r' w' rest' c' e' l') = let o = same_outcome c c' e e' in cc
unique (given {m = m} {at = at} r w rest k c e l) (given r' w' rest' k' c' e' l') =
    let h = same_cut c c' in
    let o = same_outcome c c' e e' in
    let kinds : k ≡ k' = cc in
    let rests = unique l (later (ap (λ (x : TokenKind). mode_behind x m) (sym kinds)) (sym (ap ends_line h.word)) (sym (ap (λ (x : List ℕ). at + length x) h.word)) (sym h.left) l') in
    λ i. with_tokens (token (kinds i) at (h.word i) ∷ []) (rests i)

-- tokens in front of tokens
pub with_none : (a : Lexed) → with_tokens [] a ≡ a
with_none (Ok ts) = refl
with_none (Err f) = refl

pub with_more : (ts us : List Token) (a : Lexed) → with_tokens (ts ++ us) a ≡ with_tokens ts (with_tokens us a)
with_more ts us (Ok vs) = ap (λ (x : List Token). Ok x) (append_assoc ts us vs)
with_more ts us (Err f) = refl

-- a word that is no fault
pub goes_on : {m : Mode} {fresh : Bool} {at : ℕ} {s : List ℕ} {a : Lexed} (r : Rule) (w rest : List ℕ) (k : Option TokenKind) → IsCut m fresh s r w rest → outcome r w ≡ Ok k → Lexes (mode_after k m) (ends_line w) (at + length w) rest a → Lexes m fresh at s (with_tokens (tokens_of k at (length w)) a)
goes_on {m = m} {fresh = fresh} {at = at} {s = s} {a = a} r w rest None c e l = subst (Lexes m fresh at s) (sym (with_none a)) (skipped r w rest c e l)
goes_on r w rest (Some k) c e l = given r w rest k c e l

pub fault_here : (m : Mode) (fresh : Bool) (at : ℕ) (s : List ℕ) (f : Flaw) → (s ≡ [] → ⊥) → (HasNoCut m fresh s × (f ≡ BadToken)) ⊎ ((r : Rule) × (w rest : List ℕ) × IsCut m fresh s r w rest × (outcome r w ≡ Err f)) → Lexes m fresh at s (Err (record { flaw = f; at = at }))
fault_here m fresh at [] f e h = absurd (e refl)
fault_here m fresh at (b ∷ s) f e (inl h) = subst (λ (x : Flaw). Lexes m fresh at (b ∷ s) (Err (record { flaw = x; at = at }))) (sym h.1) (no_rule h.0)
fault_here m fresh at (b ∷ s) f e (inr h) = faulty h.0 h.1 h.2 h.3 h.4

pub end_here : (m : Mode) (fresh : Bool) (at : ℕ) (s : List ℕ) → length s ≡ 0 → Lexes m fresh at s (Ok [])
end_here m fresh at [] e = done
end_here m fresh at (b ∷ s) e = absurd (omega arith)

-- what holds behind blanks holds of the text
pub behind : (m : Mode) {fresh before : Bool} (text rest front : List ℕ) (ts : List Token) → length rest ≤ length text → length front ≤ length rest
    → ((a : Lexed) → Lexes m before (length text - length rest) rest a → Lexes mode.Name true 0 text (with_tokens ts a))
    → ((n : Mode) (a : Lexed) (at to : ℕ) → at + length rest ≡ to + length front → Lexes n fresh to front a → Lexes n before at rest a)
    → (a : Lexed) → Lexes m fresh (length text - length front) front a → Lexes mode.Name true 0 text (with_tokens ts a)
behind m text rest front ts within shorter follows goes a d =
    follows a (goes m a (length text - length rest) (length text - length front) (omega (arith, within, shorter)) d)

-- ---- the places of tokens

widen : (ts : List Token) (from front to : ℕ) → from ≤ front → AreSpans front to ts → AreSpans from to ts
widen [] from front to l h = tt
widen (t ∷ ts) from front to l h = (omega (arith, l, h.0), h.1, h.2, h.3)

given_spans : (k : TokenKind) (at : ℕ) (w : List ℕ) (to : ℕ) (a : Lexed) → 0 < length w → at + length w ≤ to → ((us : List Token) → a ≡ Ok us → AreSpans (at + length w) to us) → (ts : List Token) → with_tokens (token k at w ∷ []) a ≡ Ok ts → AreSpans at to ts
given_spans k at w to (Ok us) some within h ts e =
    let same : token k at w ∷ us ≡ ts = cc in
    subst (AreSpans at to) same (omega arith, omega (arith, some), within, h us refl)
given_spans k at w to (Err f) some within h ts e = absurd (cc)

pub are_spans : {m : Mode} {fresh : Bool} {at : ℕ} {s : List ℕ} {a : Lexed} → Lexes m fresh at s a → (to : ℕ) → at + length s ≤ to → (ts : List Token) → a ≡ Ok ts → AreSpans at to ts
are_spans {at = at} done to l ts e = let same : [] ≡ ts = cc in subst (AreSpans at to) same tt
are_spans (no_rule h) to l ts e = absurd (cc)
are_spans (faulty r w rest c e) to l ts f = absurd (cc)
are_spans {at = at} (skipped r w rest c e d) to l ts f =
    widen ts at (at + length w) to (omega arith) (are_spans d to (omega (arith, l, ap length c.longest.split, length-append w rest)) ts f)
are_spans {at = at} (given {result = a} r w rest k c e d) to l ts f =
    let within : at + length w + length rest ≤ to = omega (arith, l, ap length c.longest.split, length-append w rest) in
    given_spans k at w to a c.some (omega (arith, within)) (are_spans d to within) ts f

-- ---- faults

pub out_of_memory : (text : List ℕ) (e : Fault) → e ≡ spans.no_memory → WhyNotLexed text e
out_of_memory text e h = subst (WhyNotLexed text) (sym h) no_memory

pub longer : (text : List ℕ) (e : Fault) → e.kind ≡ fault.Limit → e.at ≡ None → most_bytes < length text → WhyNotLexed text e
longer text e h i l = subst (WhyNotLexed text) (λ j. record { kind = sym h j; at = sym i j }) (too_long l)

pub flaw_reported : (text : List ℕ) (f : FirstFlaw) → length text ≤ most_bytes → IsLexed text (Err f) → WhyNotLexed text (fault_of f)
flaw_reported text f l h = at f.flaw f.at h
  where
    at : (x : Flaw) (place : ℕ) → IsLexed text (Err (record { flaw = x; at = place })) → WhyNotLexed text (fault_of (record { flaw = x; at = place }))
    at BadToken place i = bad_token place l i
    at BadInteger place i = bad_integer place l i
