use Rattle.std.proofs.Common.{◌≡◌, ◌+◌, ◌*◌, ◌∙◌, sym, ap, ℕ, List, Ok, Some}
use Rattle.std.specs.Prelude.{slice_index}
use Rattle.dt_lex.specs.declared.token.Mode.TheVariants as mode
use Rattle.dt_lex.specs.declared.token.TokenKind.TheVariants as kind
use Rattle.dt_lex.specs.declared.rule.Rule.TheVariants as rule
use Rattle.dt_lex.specs.Numbers.{digit_of}
use Rattle.dt_lex.proofs.Cuts.{front_of}
use Rattle.dt_lex.proofs.Decided.{decided_of, byte_cut}
use Rattle.dt_lex.proofs.piece.byte.Goals as goal

pub returns-clause-exact : goal.returns-clause-exact
returns-clause-exact c =
    let s = c.args.text.now in
    let rest = c.in_ok-rest.rest.now in
    let word = c.in_ok-rest.ensures.exact in
    let value : 16 * digit_of (slice_index word.0 0) + digit_of (slice_index word.0 1) ≡ c.byte_of-value.result =
    ap (λ (w : List ℕ). 16 * digit_of (slice_index w 0) + digit_of (slice_index w 1)) (sym (front_of s word.0 rest word.1.split)) ∙ sym c.byte_of-value.ensures in
    decided_of mode.Bytes s rule.Byte word.0 rest _ c.piece_of.result
    (byte_cut s word.0 rest (λ b. let q = c.begins.ensures.1 b in let r = c.if-begins.false in cc) (λ e. c.if-byte_at-eq58.false (c.byte_at.ensures ∙ e)) word.1 c.in_ok-rest.ensures.shorter)
    (ap (λ (n : ℕ). Ok (Some (kind.Byte n))) value) c.piece_of.ensures.kind c.piece_of.ensures.rest c.piece_of.ensures.word
