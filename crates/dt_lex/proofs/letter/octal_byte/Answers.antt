use Rattle.std.proofs.Common.{◌+◌, ◌*◌, ℕ, inl, inr, sym, ◌∙◌, ap, length, arith}
use Rattle.dt_lex.specs.Texts as texts
use Rattle.dt_lex.specs.Texts.{unescaped}
use Rattle.dt_lex.proofs.ValueLemmas.{octal_here, octal_more, octal_grows, octal_most}
use Rattle.dt_lex.proofs.letter.octal_byte.Goals as goal

pub returns-in_default-clause-value : goal.returns-in_default-clause-value
returns-in_default-clause-value c =
    let l = c.loop-taken in
    l.invariant.same ∙ octal_here l.value l._taken l.rest.now (inr c.in_default.ensures.none)

pub loop-taken-preserved : goal.loop-taken-preserved
loop-taken-preserved c =
    let l = c.loop-taken in
    let found = c.in-Some.ensures.some in
    let rest = c.in-Some.later.now in
    record {
      same = l.invariant.same ∙ octal_more l.value l._taken found.0 l.rest.now rest found.1 (omega (arith, c.loop-taken-test.true)) found.2 ∙ ap (λ (d : ℕ). unescaped (texts.octal (l.value * 8 + d) (l._taken + 1)) rest) (sym found.3);
      below = octal_grows l.value c.in-Some.digit l._taken (omega (arith, c.loop-taken-test.true)) c.in-Some.ensures.below l.invariant.below;
      shorter = omega (arith, l.invariant.shorter, ap length found.1);
    }

pub returns-clause-value : goal.returns-clause-value
returns-clause-value c =
    let l = c.loop-taken in
    l.invariant.same ∙ octal_here l.value l._taken l.rest.now (inl (omega (arith, c.loop-taken-test.false, c.loop-taken.auto._taken-end)))

pub overflow_mul-value : goal.overflow_mul-value
overflow_mul-value c = omega (arith, octal_most c.loop-taken.value c.loop-taken._taken c.loop-taken.invariant.below)

pub overflow_add-value : goal.overflow_add-value
overflow_add-value c = omega (arith, octal_most c.loop-taken.value c.loop-taken._taken c.loop-taken.invariant.below, c.in-Some.ensures.below)
