use Rattle.std.proofs.Common.{◌≡◌, length, ℕ, List, [], ◌∷◌, ◌++◌, inl, inr, sym, ap, ◌∙◌, append_assoc, arith, length-append}
use Rattle.dt_lex.specs.Bytes.{is_in}
use Rattle.dt_lex.proofs.WordLemmas.{each_push}
use Rattle.dt_lex.proofs.quoted.after_up_to.Goals as goal

pub returns-in_default : goal.returns-in_default
returns-in_default c =
    let kept = c.loop-taken.invariant in
    record { exact = (kept.0, kept.1, kept.2, omega (arith, kept.3, c.loop-taken-test.true), inr c.in_default.ensures.none) }

pub loop-taken-preserved : goal.loop-taken-preserved
loop-taken-preserved c =
    let kept = c.loop-taken.invariant in
    let found = c.in-Some.ensures.some in (
      kept.0 ++ found.0 ∷ [],
      kept.1 ∙ ap (λ (x : List ℕ). kept.0 ++ x) found.1 ∙ sym (append_assoc kept.0 (found.0 ∷ []) c.in-Some.later.now),
      each_push (is_in c.args.class) kept.0 found.0 kept.2 found.2,
      omega (arith, kept.3, length-append kept.0 (found.0 ∷ [])),
    )

pub returns : goal.returns
returns c =
    let kept = c.loop-taken.invariant in
    let all : length kept.0 ≡ c.args.count = omega (arith, c.loop-taken-test.false, c.loop-taken.auto._taken-end, kept.3) in
    record { exact = (kept.0, kept.1, kept.2, omega (arith, c.loop-taken.auto._taken-end, kept.3), inl all) }
