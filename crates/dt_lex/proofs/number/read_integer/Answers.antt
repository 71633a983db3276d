use Rattle.std.proofs.Common.{ℕ, ◌<◌, ◌≤◌, List, [], ◌∷◌, ◌++◌, append_assoc, sym, ◌∙◌, ap, subst, arith}
use Rattle.dt_lex.specs.Bytes.{is_in}
use Rattle.dt_lex.specs.Numbers.{digits, digit_of}
use Rattle.dt_lex.proofs.NumberLemmas.{value_at, value_is_integer, digits_end, digits_more, value_bad, value_large, value_next, scaled_none, scaled_some, digit_is, digit_below, is_hexadecimal}
use Rattle.dt_lex.proofs.WordLemmas.{each_push}
use Rattle.dt_lex.proofs.number.read_integer.Goals as goal

pub returns-then-digit-base-clause-value : goal.returns-then-digit-base-clause-value
returns-then-digit-base-clause-value c =
    let p = is_in c.args.class in
    let b = c.args.base in
    let positive : 0 < c.args.base = omega (arith, c.requires.base.0) in
    let end_of = digits_end p c.loop-first.rest.now c.in-Some.first c.in-Some.later.now c.in-Some.ensures.some (sym c.is_in.ensures ∙ c.if-is_in.false) in
    sym (ap (value_at b c.loop-first.value) end_of) ∙ c.loop-first.invariant.value ∙ value_is_integer b (digits p c.args.text.now) positive

pub returns-then-is_in-clause-value : goal.returns-then-is_in-clause-value
returns-then-is_in-clause-value c =
    let p = is_in c.args.class in
    let b = c.args.base in
    let positive : 0 < c.args.base = omega (arith, c.requires.base.0) in
    let of_class = sym c.is_in.ensures ∙ c.if-is_in.true in
    let more = digits_more p c.loop-first.rest.now c.in-Some.first c.in-Some.later.now c.in-Some.ensures.some of_class in
    let digit = c.digit_or_none-digit.ensures ∙ digit_is c.in-Some.first (is_hexadecimal c.args.class c.requires.class c.in-Some.first of_class) in
    let bad = value_bad b c.loop-first.value (digit_of c.in-Some.first) (digits p c.in-Some.later.now) (subst (λ (d : ℕ). b ≤ d) digit c.if-digit-base.true) in
    sym bad ∙ sym (ap (value_at b c.loop-first.value) more) ∙ c.loop-first.invariant.value ∙ value_is_integer b (digits p c.args.text.now) positive

pub returns-in_default-scaled-clause-value : goal.returns-in_default-scaled-clause-value
returns-in_default-scaled-clause-value c =
    let p = is_in c.args.class in
    let b = c.args.base in
    let positive : 0 < c.args.base = omega (arith, c.requires.base.0) in
    let is = digit_below c.in-Some.first c.args.base c.digit_or_none-digit.result c.requires.base.1 c.digit_or_none-digit.ensures c.if-digit-base.false in
    let digit = c.requires.digits c.in-Some.first is.0 (subst (λ (d : ℕ). d < b) is.1 c.if-digit-base.false) in
    let more = digits_more p c.loop-first.rest.now c.in-Some.first c.in-Some.later.now c.in-Some.ensures.some digit in
    let large = value_large b c.loop-first.value (digit_of c.in-Some.first) (digits p c.in-Some.later.now) (subst (λ (d : ℕ). d < b) is.1 c.if-digit-base.false) (scaled_none c.loop-first.value b c.digit_or_none-digit.result (digit_of c.in-Some.first) is.1 c.in_default-scaled.ensures) in
    sym large ∙ sym (ap (value_at b c.loop-first.value) more) ∙ c.loop-first.invariant.value ∙ value_is_integer b (digits p c.args.text.now) positive

pub returns-clause-value : goal.returns-clause-value
returns-clause-value c =
    let p = is_in c.args.class in
    let b = c.args.base in
    let positive : 0 < c.args.base = omega (arith, c.requires.base.0) in
    let empty = c.in_default.ensures.none in
    sym (ap (λ (s : List ℕ). value_at b c.loop-first.value (digits p s)) empty) ∙ c.loop-first.invariant.value ∙ value_is_integer b (digits p c.args.text.now) positive

pub loop-first-preserved : goal.loop-first-preserved
loop-first-preserved c =
    let p = is_in c.args.class in
    let kept = c.loop-first.invariant in
    let b = c.in-Some.first in
    let is = digit_below b c.args.base c.digit_or_none-digit.result c.requires.base.1 c.digit_or_none-digit.ensures c.if-digit-base.false in
    let digit = c.requires.digits b is.0 (subst (λ (d : ℕ). d < c.args.base) is.1 c.if-digit-base.false) in
    let more = digits_more p c.loop-first.rest.now b c.in-Some.later.now c.in-Some.ensures.some digit in
    let next = value_next c.args.base c.loop-first.value (digit_of b) c.in-Some-scaled.more (digits p c.in-Some.later.now) (subst (λ (d : ℕ). d < c.args.base) is.1 c.if-digit-base.false)
    (scaled_some c.loop-first.value c.args.base c.digit_or_none-digit.result (digit_of b) c.in-Some-scaled.more is.1 c.in-Some-scaled.ensures) in
    record {
      value = sym next ∙ sym (ap (value_at c.args.base c.loop-first.value) more) ∙ kept.value;
      front = (kept.front.0 ++ b ∷ [], kept.front.1 ∙ ap (λ (x : List ℕ). kept.front.0 ++ x) c.in-Some.ensures.some ∙ sym (append_assoc kept.front.0 (b ∷ []) c.in-Some.later.now), each_push p kept.front.0 b kept.front.2 digit);
    }
