use Rattle.std.proofs.Common.{ℕ, List, [], ◌∷◌, sym, ◌∙◌, ap, subst, arith}
use Rattle.dt_lex.specs.declared.byte.Class.TheVariants as class
use Rattle.dt_lex.specs.Bytes.{is_in}
use Rattle.dt_lex.specs.Words.{Skips}
use Rattle.dt_lex.specs.Vocabulary.{Escape}
use Rattle.dt_lex.proofs.WordLemmas.{word_split}
use Rattle.dt_lex.proofs.QuotedLemmas.{no_backslash, nothing_behind, no_hex_digit, octal_longest, hex_longest, simple_longest, some_digits, first_fails, other_byte}
use Rattle.dt_lex.proofs.quoted.after_escape.Goals as goal

pub returns-in_err-behind : goal.returns-in_err-behind
returns-in_err-behind c =
    let s = c.args.text.now in
    record { exact = subst (Skips Escape s) (sym c.from_residual.ensures) (no_backslash s c.in_err-behind.ensures.exact) }

pub returns-then-begins : goal.returns-then-begins
returns-then-begins c =
    let s = c.args.text.now in
    let t = c.in_ok-behind.behind.now in
    let rest = c.after_up_to.result.now in
    let run = c.after_up_to.ensures in
    let octal = is_in class.Octal in
    let ds = some_digits octal 3 t rest (omega arith) (c.begins.ensures.0 c.if-begins.true) run.exact in
    let whole = word_split (92 ∷ []) s t c.in_ok-behind.ensures.exact ∙ ap (λ (x : List ℕ). 92 ∷ x) run.exact.1 in
    record { exact = (92 ∷ run.exact.0, octal_longest run.exact.0 rest ds run.exact.4 s whole) }

pub returns-in_err-first : goal.returns-in_err-first
returns-in_err-first c =
    let s = c.args.text.now in
    let t = c.in_ok-behind.behind.now in
    let whole = word_split (92 ∷ []) s t c.in_ok-behind.ensures.exact ∙ ap (λ (x : List ℕ). 92 ∷ x) c.in_err-first.ensures.none in
    record { exact = subst (Skips Escape s) (sym c.from_residual-in_err-first.ensures) (nothing_behind s whole) }

pub returns-then-first-ne120 : goal.returns-then-first-ne120
returns-then-first-ne120 c =
    let s = c.args.text.now in
    let t = c.in_ok-behind.behind.now in
    let first = c.in_ok-first.first in
    let digits = c.in_ok-first.digits.now in
    let octal = is_in class.Octal in
    let whole = word_split (92 ∷ []) s t c.in_ok-behind.ensures.exact ∙ ap (λ (x : List ℕ). 92 ∷ x) c.in_ok-first.ensures.some in
    let no_octal = first_fails octal first digits t c.in_ok-first.ensures.some (λ b. let q = c.begins.ensures.1 b in let r = c.if-begins.false in cc) in
    record { exact = (92 ∷ first ∷ [], simple_longest first digits (no_octal, other_byte first 120 c.if-first-ne120.true) s whole) }

pub returns-then-not-begins : goal.returns-then-not-begins
returns-then-not-begins c =
    let s = c.args.text.now in
    let t = c.in_ok-behind.behind.now in
    let digits = c.in_ok-first.digits.now in
    let whole = word_split (92 ∷ []) s t c.in_ok-behind.ensures.exact ∙ ap (λ (x : List ℕ). 92 ∷ x) (c.in_ok-first.ensures.some ∙ ap (λ (x : ℕ). x ∷ digits) c.if-first-ne120.false) in
    record { exact = no_hex_digit s digits whole (λ b. let q = c.begins-2.ensures.1 b in let r = c.if-not-begins.true in cc) }

pub returns : goal.returns
returns c =
    let s = c.args.text.now in
    let t = c.in_ok-behind.behind.now in
    let digits = c.in_ok-first.digits.now in
    let rest = c.after_up_to-2.result.now in
    let run = c.after_up_to-2.ensures in
    let hex = is_in class.Hex in
    let ds = some_digits hex 2 digits rest (omega arith) (c.begins-2.ensures.0 c.if-not-begins.false) run.exact in
    let whole = word_split (92 ∷ []) s t c.in_ok-behind.ensures.exact ∙ ap (λ (x : List ℕ). 92 ∷ x) (c.in_ok-first.ensures.some ∙ (λ i. c.if-first-ne120.false i ∷ run.exact.1 i)) in
    record { exact = (92 ∷ 120 ∷ run.exact.0, hex_longest run.exact.0 rest ds run.exact.4 s whole) }
