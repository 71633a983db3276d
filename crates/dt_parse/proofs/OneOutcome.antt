-- A text says one thing, or has one fault, and not both.
use Rattle.std.proofs.Common.{◌≡◌, ℕ, Bool, List, ◌++◌, length, drop, Some, Ok, refl, sym, ◌∙◌, ap, subst, append_assoc, arith, length-append}
use Rattle.std.proofs.lemmas.List.{length-map}
use Rattle.std.proofs.Math.Seq.{drop-append_seam}
use Rattle.dt_names.specs.declared.fault.Fault.{Fault}
use Rattle.dt_names.specs.declared.fault.FaultKind.TheVariants as fault
use Rattle.dt_lex.specs.declared.token.Token.{Token}
use Rattle.dt_lex.specs.Lexing.{Lexed, IsLexed}
use Rattle.dt_grammar.specs.Words.{Words, word_of, words_of}
use Rattle.dt_grammar.specs.Wanted.{Whole}
use Rattle.dt_grammar.specs.Faults.{outside, Breaks}
use Rattle.dt_grammar.specs.Grammar.{Says, SpellsSource, SpellsHeaders, base_header, plugin_header, more_headers}
use Rattle.dt_grammar.specs.Parsed.{IsTagged, token_place, told_at, IsParsed, WhyNotParsed, unlexed, untagged, broken}
use Rattle.dt_lex.proofs.OneOutcome.{lexed_or_not, one_fault}
use Rattle.dt_grammar.proofs.OneSource.{one_source}
use Rattle.dt_grammar.proofs.UnbrokenSources.{no_fault}
use Rattle.dt_grammar.proofs.OneFault.{one as one_break}

-- a text has one token list or one first flaw
abbrev pub OneAnswer : Type 0
OneAnswer = (text : List ℕ) (a b : Lexed) → IsLexed text a → IsLexed text b → a ≡ b

pub one_list : OneAnswer → (text : List ℕ) (a b : List Token) → IsLexed text (Ok a) → IsLexed text (Ok b) → a ≡ b
one_list one text a b l m = let same = one text (Ok a) (Ok b) l m in cc

headers_tagged : {plugin : Bool} {us : Words} → SpellsHeaders plugin us → (rest : Words) → IsTagged (us ++ rest)
headers_tagged (base_header k s e f) rest = (ap Some e, ap Some f)
headers_tagged (plugin_header k s p t e f g h) rest = (ap Some e, ap Some f)
headers_tagged (more_headers plugin us ws h l) rest = subst IsTagged (sym (append_assoc us ws rest)) (headers_tagged h (ws ++ rest))

pub source_tagged : (ws : Words) (s : Says) → SpellsSource ws s → IsTagged ws
source_tagged ws s h = subst IsTagged (sym h.together) (headers_tagged h.spelled_headers (h.reserves ++ h.statements))

pub not_both : OneAnswer → (text : List ℕ) (s : Says) (e : Fault) → IsParsed text s → WhyNotParsed text e → e.kind ≡ fault.NoMemory
not_both one text s e p (unlexed _ w) = lexed_or_not text p.tokens e p.size p.lexed w
not_both one text s e p (untagged tokens size l n) =
    absurd (n (subst (λ (ts : List Token). IsTagged (words_of text ts)) (one_list one text p.tokens tokens p.lexed l) (source_tagged (words_of text p.tokens) s p.spelled)))
not_both one text s e p (broken tokens before left k size l t split b) =
    absurd (no_fault (words_of text tokens) _ s k (subst (λ (ts : List Token). SpellsSource (words_of text ts) s) (one_list one text p.tokens tokens p.lexed l) p.spelled) b)

pub one_said : OneAnswer → (text : List ℕ) (s t : Says) → IsParsed text s → IsParsed text t → s ≡ t
one_said one text s t p q =
    one_source (words_of text q.tokens) s t (subst (λ (ts : List Token). SpellsSource (words_of text ts) s) (one_list one text p.tokens q.tokens p.lexed q.lexed) p.spelled) q.spelled

-- ---- one fault

-- the tokens that are left are the last ones
same_end : (xs ys us vs : List Token) → xs ++ us ≡ ys ++ vs → length us ≡ length vs → us ≡ vs
same_end xs ys us vs e h =
    let many : length xs ≡ length ys = omega (arith, sym (length-append xs us), ap length e, length-append ys vs, h) in
    sym (drop-append_seam xs us) ∙ ap (λ (n : ℕ). drop n (xs ++ us)) many ∙ ap (λ (ts : List Token). drop (length ys) ts) e ∙ drop-append_seam ys vs

pub one_why : OneAnswer → (text : List ℕ) (e f : Fault) → WhyNotParsed text e → WhyNotParsed text f → ¬ e.kind ≡ fault.NoMemory → ¬ f.kind ≡ fault.NoMemory → e ≡ f
one_why one text _ _ (unlexed e w) (unlexed f v) n m = one_fault text e f w v n m
one_why one text _ _ (unlexed e w) (untagged ts size l t) n m = absurd (n (lexed_or_not text ts e size l w))
one_why one text _ _ (unlexed e w) (broken ts before left k size l t split b) n m = absurd (n (lexed_or_not text ts e size l w))
one_why one text _ _ (untagged ts size l t) (unlexed e w) n m = absurd (m (lexed_or_not text ts e size l w))
one_why one text _ _ (untagged ts size l t) (untagged ts' size' l' t') n m = refl
one_why one text _ _ (untagged ts size l t) (broken ts' before left k size' l' t' split b) n m =
    absurd (t (subst (λ (x : List Token). IsTagged (words_of text x)) (one_list one text ts' ts l' l) t'))
one_why one text _ _ (broken ts before left k size l t split b) (unlexed e w) n m = absurd (m (lexed_or_not text ts e size l w))
one_why one text _ _ (broken ts before left k size l t split b) (untagged ts' size' l' t') n m =
    absurd (t' (subst (λ (x : List Token). IsTagged (words_of text x)) (one_list one text ts ts' l l') t))
one_why one text _ _ (broken ts before left k size l t split b) (broken ts' before' left' j size' l' t' split' b') n m =
    let same = one_list one text ts' ts l' l in
    let r = one_break refl b (subst (λ (x : List Token). Breaks outside Whole (words_of text x) j (words_of text left')) same b') in
    let ends : left ≡ left' = same_end before before' left left' (sym split ∙ sym same ∙ split') (sym (length-map left (word_of text)) ∙ ap length r.1 ∙ length-map left' (word_of text)) in
    λ i. record { kind = r.0 i; at = told_at (r.0 i) (token_place text (ends i)) }
