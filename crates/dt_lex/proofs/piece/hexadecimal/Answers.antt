use Rattle.std.proofs.Common.{◌≡◌, [], ◌∷◌, ◌∙◌, sym, ap, ℕ, List, drop, Some, refl, ◌<◌, length}
use Rattle.std.specs.List.{filter}
use Rattle.dt_lex.specs.declared.byte.Class.TheVariants as class
use Rattle.dt_lex.specs.declared.token.Mode.TheVariants as mode
use Rattle.dt_lex.specs.declared.rule.Rule.TheVariants as rule
use Rattle.dt_lex.specs.Bytes.{is_in}
use Rattle.dt_lex.specs.Leaders.{leader_of, leads}
use Rattle.dt_lex.specs.Numbers.{digits, integer_of}
use Rattle.dt_lex.specs.Outcomes.{of_integer}
use Rattle.dt_lex.specs.Rules.{rules}
use Rattle.dt_lex.specs.Vocabulary.{Digits}
use Rattle.dt_lex.proofs.Decided.{decided_of, cut_behind, forbidden, first_of, integer_word, prefixed_word, some_prefixed, shorter_rest}
use Rattle.dt_lex.proofs.piece.hexadecimal.Goals as goal

pub returns-clause-exact : goal.returns-clause-exact
returns-clause-exact c =
    let s = c.args.text.now in
    let t = c.in_ok-digits.digits.now in
    let rest = c.in_ok-rest.rest in
    let suffix = c.in_ok-value.suffix in
    let number = integer_word class.Hex tt t suffix rest (c.begins.ensures.0 c.if-not-begins.false) c.in_ok-value.ensures.rest c.in_ok-rest.ensures.shorter c.in_ok-rest.ensures.exact in
    let word = prefixed_word 48 120 s t rest c.in_ok-digits.ensures.exact number.0 number.1 in
    let first = first_of 48 (120 ∷ []) (Digits class.Hex) s word.0 rest.now word.1.split word.1.fits in
    let value : integer_of 16 (digits (is_in class.Hex) (drop 2 word.0)) ≡ Some c.in_ok-value.value = ap (λ (w : List ℕ). integer_of 16 (digits (is_in class.Hex) w)) word.2 ∙ ap (integer_of 16) number.2 ∙ sym c.in_ok-value.ensures.value in
    let short : length rest.now < length s = shorter_rest s word.0 rest.now word.1.split (some_prefixed 48 (120 ∷ []) (Digits class.Hex) word.0 word.1.fits) in
    decided_of mode.Plain s rule.Hexadecimal word.0 rest.now _ c.piece_of.result
    (λ fresh.
    cut_behind mode.Plain fresh s (rule.Name ∷ rule.Byte ∷ []) rule.Hexadecimal (rule.CapitalHexadecimal ∷ rule.Decimal ∷ []) (ap (λ (b : ℕ). filter (leads (leader_of b)) rules) (sym first))
    (forbidden mode.Plain fresh s rule.Name refl, (forbidden mode.Plain fresh s rule.Byte refl, tt)) refl word.0 rest.now word.1 short)
    (ap of_integer value) c.piece_of.ensures.kind c.piece_of.ensures.rest c.piece_of.ensures.word
