use Rattle.std.proofs.Common.{◌+◌, length, drop, refl, sym, ap, ◌∙◌}
use Rattle.std.proofs.lemmas.List.{take_rest}
use Rattle.dt_read.specs.Parsing.{lexed}
use Rattle.dt_read.specs.View.{view}
use Rattle.dt_read.proofs.Cursors.{next_from, nothing_left, few_marks, kept, skipped}
use Rattle.dt_read.proofs.Lying.{later_still, later_first}
use Rattle.dt_read.proofs.Passing.{passes_none, passes_nop}
use Rattle.dt_read.proofs.cursor.next_token.Goals as goal

pub loop-token-init : goal.loop-token-init
loop-token-init c = (c.requires, refl, later_first c.args.at c.args.bytes.now, passes_none c.args.strings.now c.args.at c.args.bytes.now)

pub loop-token-preserved : goal.loop-token-preserved
loop-token-preserved c =
    let rest = c.loop-token.rest.now in
    let next = next_from c.args.strings.now c.loop-token.here rest (view c.in-Some.token) c.in-Some.len c.loop-token.invariant.0 (sym c.in-Some.ensures.token) c.in-Some.ensures.takes in
    let later = lexed (length (drop c.in-Some.len rest)) c.args.strings.now (c.loop-token.here + c.in-Some.len) (drop c.in-Some.len rest) in
    rw (take_rest rest c.in-Some.len) (
      next.tokens,
      sym (next.marks ∙ skipped c.loop-token.here c.in-Some.token later c.in-Nop.is) ∙ c.loop-token.invariant.1,
      later_still c.args.at c.args.bytes.now c.loop-token.here rest c.in-Some.len c.loop-token.invariant.2 c.in-Some.ensures.takes.within,
      passes_nop c.args.strings.now c.args.at c.args.bytes.now c.loop-token.here rest (view c.in-Some.token) c.in-Some.len (ap view c.in-Nop.is) c.loop-token.invariant.3 c.loop-token.invariant.2 c.in-Some.ensures.takes,
    )

pub returns-in-Some : goal.returns-in-Some
returns-in-Some c =
    let rest = c.loop-token.rest.now in
    let next = next_from c.args.strings.now c.loop-token.here rest (view c.in-Some.token) c.in-Some.len c.loop-token.invariant.0 (sym c.in-Some.ensures.token) c.in-Some.ensures.takes in
    let later = lexed (length (drop c.in-Some.len rest)) c.args.strings.now (c.loop-token.here + c.in-Some.len) (drop c.in-Some.len rest) in
    rw (take_rest rest c.in-Some.len) (record {
      next = sym c.loop-token.invariant.1 ∙ next.marks ∙ kept c.loop-token.here c.in-Some.token later c.in_default-token.not-Nop;
      no_nop = c.in_default-token.not-Nop;
      few = few_marks c.args.strings.now c.args.at c.args.bytes.now c.requires;
      lies = record { own = rest; later = c.loop-token.invariant.2; size = c.in-Some.len; takes = c.in-Some.ensures.takes; behind = refl; left = refl };
      tokens = next.tokens;
      nops = c.loop-token.invariant.3;
    })

pub returns-clause-next : goal.returns-clause-next
returns-clause-next c = sym c.loop-token.invariant.1 ∙ nothing_left c.args.strings.now c.loop-token.here c.loop-token.rest.now c.loop-token.invariant.0 (sym c.in_default.ensures.token)

pub returns-clause-few : goal.returns-clause-few
returns-clause-few c = few_marks c.args.strings.now c.args.at c.args.bytes.now c.requires
