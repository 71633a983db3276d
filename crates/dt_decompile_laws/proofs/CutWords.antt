-- Texts that are cut into words: what the tokens of a text are, with their bytes in place of their places.
use Rattle.std.proofs.Common.{◌≡◌, ℕ, ◌+◌, ◌-◌, Bool, List, [], ◌∷◌, ◌++◌, take, drop, length, Some, None, Ok, refl, sym, ◌∙◌, ap, append_assoc, arith, length-append}
use Rattle.std.specs.Prelude.{slice_range}
use Rattle.std.proofs.lemmas.List.{take_at}
use Rattle.dt_lex.specs.declared.token.Mode.{Mode}
use Rattle.dt_lex.specs.declared.token.TokenKind.{TokenKind}
use Rattle.dt_lex.specs.declared.token.Token.{Token}
use Rattle.dt_lex.specs.declared.rule.Rule.{Rule}
use Rattle.dt_lex.specs.Modes.{mode_behind}
use Rattle.dt_lex.specs.Outcomes.{outcome}
use Rattle.dt_lex.specs.Lexing.{IsCut, ends_line, token, Lexes, done, skipped, given}
use Rattle.dt_grammar.specs.Words.{Words, words_of}

-- the rest of a text, in a mode, at the first byte of a line or elsewhere, is cut into these words
pub data Cuts : Mode → Bool → List ℕ → Words → Type 0 where
  end_cut : {m : Mode} {fresh : Bool} → Cuts m fresh [] []
  blank_cut : {m : Mode} {fresh : Bool} {s : List ℕ} {ws : Words} (r : Rule) (w rest : List ℕ) →
      IsCut m fresh s r w rest → outcome r w ≡ Ok None → Cuts m (ends_line w) rest ws → Cuts m fresh s ws
  word_cut : {m : Mode} {fresh : Bool} {s : List ℕ} {ws : Words} (r : Rule) (w rest : List ℕ) (k : TokenKind) →
      IsCut m fresh s r w rest → outcome r w ≡ Ok (Some k) → Cuts (mode_behind k m) (ends_line w) rest ws →
      Cuts m fresh s (record { kind = k; bytes = w } ∷ ws)

-- what stands behind a front
drop_front : (u v : List ℕ) → drop (length u) (u ++ v) ≡ v
drop_front [] v = refl
drop_front (b ∷ u) v = drop_front u v

-- a part of a text, by its place
part_at : (before w rest : List ℕ) → slice_range (before ++ (w ++ rest)) (length before) (length before + length w) ≡ w
part_at before w rest =
    ap (take (length before + length w - length before)) (drop_front before (w ++ rest))
    ∙ take_at w rest (length before + length w - length before) (omega arith)

-- tokens of a text's rest, and their words
pub record HasTokens (text : List ℕ) (m : Mode) (fresh : Bool) (at : ℕ) (s : List ℕ) (ws : Words) : Type 0 where
  pub tokens : List Token
  pub lexed : Lexes m fresh at s (Ok tokens)
  pub spelled : words_of text tokens ≡ ws

-- so a text that is cut into words has tokens
pub cut_tokens : {m : Mode} {fresh : Bool} {s : List ℕ} {ws : Words} → Cuts m fresh s ws → (before text : List ℕ) (at : ℕ) → at ≡ length before → text ≡ before ++ s → HasTokens text m fresh at s ws
cut_tokens end_cut before text at e f = record { tokens = []; lexed = done; spelled = refl }
cut_tokens (blank_cut r w rest c o l) before text at e f =
    let split = f ∙ ap (λ (x : List ℕ). before ++ x) c.longest.split in
    let h = cut_tokens l (before ++ w) text (at + length w) (omega (arith, e, length-append before w)) (split ∙ sym (append_assoc before w rest)) in
    record { tokens = h.tokens; lexed = skipped r w rest c o h.lexed; spelled = h.spelled }
cut_tokens (word_cut r w rest k c o l) before text at e f =
    let split = f ∙ ap (λ (x : List ℕ). before ++ x) c.longest.split in
    let h = cut_tokens l (before ++ w) text (at + length w) (omega (arith, e, length-append before w)) (split ∙ sym (append_assoc before w rest)) in
    let here : slice_range text at (at + length w) ≡ w = (λ i. slice_range (split i) (e i) (e i + length w)) ∙ part_at before w rest in
    record {
      tokens = token k at w ∷ h.tokens;
      lexed = given r w rest k c o h.lexed;
      spelled = λ i. record { kind = k; bytes = here i } ∷ h.spelled i;
    }
