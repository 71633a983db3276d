use Rattle.std.proofs.Common.{◌+◌, length, drop, sym, ◌∙◌, arith}
use Rattle.std.proofs.lemmas.List.{take_rest, length-drop}
use Rattle.dt_read.specs.Parsing.{lexed}
use Rattle.dt_read.proofs.Cursors.{next_tag_from, no_tag, kept_tag, skipped_tag}
use Rattle.dt_read.proofs.cursor.next_tag.Goals as goal

pub loop-tag-preserved : goal.loop-tag-preserved
loop-tag-preserved c =
    let rest = c.loop-tag.rest.now in
    let within = c.in-Some.ensures.within in
    let small = c.loop-tag.invariant.0 in
    rw (take_rest rest c.in-Some.len) (
      omega (arith, length-drop c.in-Some.len rest),
      λ strings a.
          let own = c.loop-tag.invariant.1 strings a in
          let found = next_tag_from strings c.loop-tag.here rest c.in-Some.tag c.in-Some.len own.0 (c.in-Some.ensures.is strings) within c.in-Some.ensures.front in
          let later = lexed (length (drop c.in-Some.len rest)) strings (c.loop-tag.here + c.in-Some.len) (drop c.in-Some.len rest) in
          (found.next.tokens, sym (found.next.marks ∙ skipped_tag c.loop-tag.here c.in-Some.tag found.p later c.in-Nop.is) ∙ own.1),
    )

pub returns-in-Some : goal.returns-in-Some
returns-in-Some c =
    let rest = c.loop-tag.rest.now in
    let within = c.in-Some.ensures.within in
    rw (take_rest rest c.in-Some.len) (record {
      next = λ strings a.
          let own = c.loop-tag.invariant.1 strings a in
          let found = next_tag_from strings c.loop-tag.here rest c.in-Some.tag c.in-Some.len own.0 (c.in-Some.ensures.is strings) within c.in-Some.ensures.front in
          let later = lexed (length (drop c.in-Some.len rest)) strings (c.loop-tag.here + c.in-Some.len) (drop c.in-Some.len rest) in
          (found.p, sym own.1 ∙ found.next.marks ∙ kept_tag c.loop-tag.here c.in-Some.tag found.p later c.in_default-tag.not-Nop, found.own);
      no_nop = c.in_default-tag.not-Nop;
      tokens = λ strings a. (next_tag_from strings c.loop-tag.here rest c.in-Some.tag c.in-Some.len (c.loop-tag.invariant.1 strings a).0 (c.in-Some.ensures.is strings) within c.in-Some.ensures.front).next.tokens;
    })

pub returns-clause-next : goal.returns-clause-next
returns-clause-next c = λ strings a.
    let own = c.loop-tag.invariant.1 strings a in
    sym own.1 ∙ no_tag strings c.loop-tag.here c.loop-tag.rest.now own.0 (c.in_default.ensures.is strings)
