use Rattle.std.proofs.Common.{◌≡◌, ◌∙◌, sym, ap, ℕ, Some, ◌<◌, length}
use Rattle.dt_lex.specs.declared.byte.Class.TheVariants as class
use Rattle.dt_lex.specs.declared.token.Mode.TheVariants as mode
use Rattle.dt_lex.specs.declared.rule.Rule.TheVariants as rule
use Rattle.dt_lex.specs.Bytes.{is_in}
use Rattle.dt_lex.specs.Numbers.{digits, integer_of, base_of}
use Rattle.dt_lex.specs.Outcomes.{of_integer}
use Rattle.dt_lex.proofs.Decided.{decided_of, decimal_cut, integer_word, base_front, some_digit, shorter_rest}
use Rattle.dt_lex.proofs.piece.decimal.Goals as goal

pub returns-clause-exact : goal.returns-clause-exact
returns-clause-exact c =
    let s = c.args.text.now in
    let rest = c.in_ok-rest.rest in
    let p = is_in class.Digit in
    let word = integer_word class.Digit tt s c.in_ok-value.suffix rest (c.begins.ensures.0 c.if-not-begins.false) c.in_ok-value.ensures.rest c.in_ok-rest.ensures.shorter c.in_ok-rest.ensures.exact in
    let base = base_front s word.0 rest.now word.1.split (some_digit p word.0 word.1.fits.0) ∙ sym c.base_of.ensures.value in
    let value : integer_of (base_of word.0) (digits p word.0) ≡ Some c.in_ok-value.value = ap (λ (b : ℕ). integer_of b (digits p word.0)) base ∙ ap (integer_of c.base_of.result) word.2 ∙ sym c.in_ok-value.ensures.value in
    let short : length rest.now < length s = shorter_rest s word.0 rest.now word.1.split (some_digit p word.0 word.1.fits.0) in
    decided_of mode.Plain s rule.Decimal word.0 rest.now _ c.piece_of.result
    (decimal_cut s word.0 c.in_ok-behind.behind.now rest.now c.in_ok-behind.field-0-0 c.in_ok-behind.ensures.some (λ e. c.if-second-eq120.false (c.byte_at-second.ensures ∙ e)) (λ e. c.if-second-eq88.false (c.byte_at-second.ensures ∙ e)) word.1 short)
    (ap of_integer value) c.piece_of.ensures.kind c.piece_of.ensures.rest c.piece_of.ensures.word
