use Rattle.std.proofs.Common.{◌≡◌, ℕ, ◌+◌, ◌-◌, List, [], ◌++◌, length, true, Ok, Err, refl, sym, ◌∙◌, ap, subst, arith, false-eqb}
use Rattle.std.proofs.lemmas.List.{append-nil}
use Rattle.std.proofs.lemmas.Result.{err_from_is_err_and}
use Rattle.std.proofs.lemmas.Bool.{eqb-true}
use Rattle.dt_lex.specs.declared.token.Mode.TheVariants as mode
use Rattle.dt_lex.specs.declared.token.Token.{Token}
use Rattle.dt_lex.specs.Lexing.{Lexed, Lexes, FirstFlaw, IsLexed, WhyNotLexed, with_tokens}
use Rattle.dt_lex.specs.Pieces.{tokens_of}
use Rattle.dt_lex.proofs.Lexed.{behind, later, with_more, goes_on, fault_here, end_here, longer, out_of_memory, flaw_reported, are_spans}
use Rattle.dt_lex.specs.Labels.{IsUnlabelled}
use Rattle.dt_lex.proofs.LabelLemmas.{unlabelled_behind}
use Rattle.dt_lex.proofs.lexer.tokens.Goals.{Then-is_empty}
use Rattle.dt_lex.proofs.lexer.tokens.Goals as goal

pub returns-then-text-gt-MOST_BYTES-clause-err : goal.returns-then-text-gt-MOST_BYTES-clause-err
returns-then-text-gt-MOST_BYTES-clause-err c = longer c.args.text.now c.of.result c.of.ensures.kind c.of.ensures.at (omega (arith, c.if-text-gt-MOST_BYTES.true))

pub returns-in_err-mode-clause-err : goal.returns-in_err-mode-clause-err
returns-in_err-mode-clause-err c =
    let e = err_from_is_err_and c.from_residual.result c.from_residual.ensures.1 in
    rw e.1 (out_of_memory c.args.text.now e.0 (e.2 ∙ c.in_err-mode.ensures.err))

pub returns-in-Err-clause-err : goal.returns-in-Err-clause-err
returns-in-Err-clause-err c =
    let l = c.loop-rest in
    let rest = c.behind_blanks.result.1.now in
    let place = length c.args.text.now - length rest in
    let flaw : FirstFlaw = record { flaw = c.in-Err.flaw; at = place } in
    let lexed = behind l.mode c.args.text.now l.rest.now rest l.out.items l.invariant.within c.behind_blanks.ensures.shorter l.invariant.follows c.behind_blanks.ensures.goes_on (Err flaw)
    (fault_here l.mode c.behind_blanks.result.0 place rest c.in-Err.flaw (λ e. omega (arith, ap length e, false-eqb _ 0 c.if-is_empty.ensures)) c.in-Err.ensures.exact) in
    subst (WhyNotLexed c.args.text.now) (sym c.fault_at.ensures) (flaw_reported c.args.text.now flaw l.invariant.short lexed)

pub loop-rest-preserved : goal.loop-rest-preserved
loop-rest-preserved c =
    let kept = c.loop-rest.invariant in
    let l = c.loop-rest in
    let whole = length c.args.text.now in
    let rest = c.behind_blanks.result.1.now in
    let start = whole - length rest in
    let next = c.in-Ok.next in
    let cut = c.in-Ok.ensures.exact in
    let given = c.in_ok-mode.ensures in
    let front = c.in-Ok.ensures.front.0 in
    let shorter = c.behind_blanks.ensures.shorter in
    let place : start + next.length ≡ whole - length next.rest.now = omega (arith, kept.within, shorter, front) in
    let left : length rest - c.next_piece.new.unknown - next.length ≡ length next.rest.now - c.next_piece.new.unknown = omega (arith, front) in
    record {
      short = kept.short;
      within = omega (arith, kept.within, shorter, front);
      free = subst (λ (n : ℕ). IsUnlabelled n next.rest.now) left (unlabelled_behind _ rest cut.1 next.rest.now next.length cut.2.longest.split cut.4 c.in-Ok.ensures.labels);
      follows = λ a d.
          let word = later given.mode (sym cut.5) (sym place ∙ ap (λ (n : ℕ). start + n) (sym cut.4)) refl d in
          let one = goes_on cut.0 cut.1 next.rest.now next.kind cut.2 cut.3 word in
          let all = behind l.mode c.args.text.now l.rest.now rest l.out.items l.invariant.within c.behind_blanks.ensures.shorter l.invariant.follows c.behind_blanks.ensures.goes_on (with_tokens (tokens_of next.kind start (length cut.1)) a) one in
          let items : l.out.items ++ tokens_of next.kind start (length cut.1) ≡ c.give.new.out.items = ap (λ (n : ℕ). l.out.items ++ tokens_of next.kind start n) cut.4 ∙ sym given.tokens in
          subst (λ (x : Lexed). Lexes mode.Name true 0 c.args.text.now x) (sym (with_more l.out.items (tokens_of next.kind start (length cut.1)) a) ∙ ap (λ (x : List Token). with_tokens x a) items) all;
    }

whole_list : (c : Then-is_empty) → IsLexed c.args.text.now (Ok c.loop-rest.out.items)
whole_list c =
    let l = c.loop-rest in
    let rest = c.behind_blanks.result.1.now in
    subst (λ (x : List Token). IsLexed c.args.text.now (Ok x)) (append-nil l.out.items)
    (behind l.mode c.args.text.now l.rest.now rest l.out.items l.invariant.within c.behind_blanks.ensures.shorter l.invariant.follows c.behind_blanks.ensures.goes_on (Ok [])
    (end_here l.mode c.behind_blanks.result.0 (length c.args.text.now - length rest) rest (eqb-true _ _ (sym c.if-is_empty.ensures))))

pub returns-then-is_empty-clause-ok : goal.returns-then-is_empty-clause-ok
returns-then-is_empty-clause-ok c = (c.loop-rest.invariant.short, whole_list c)

pub returns-then-is_empty-clause-spans : goal.returns-then-is_empty-clause-spans
returns-then-is_empty-clause-spans c = are_spans (whole_list c) (length c.args.text.now) (omega arith) c.loop-rest.out.items refl
