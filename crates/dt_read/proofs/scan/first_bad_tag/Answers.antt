use Rattle.std.proofs.Common.{◌∙◌, arith}
use Rattle.std.proofs.lemmas.List.{take_rest}
use Rattle.dt_model.specs.Checks.{token_fault}
use Rattle.dt_read.specs.Kinds.{kind_of}
use Rattle.dt_read.specs.View.{position_of}
use Rattle.dt_read.proofs.Scanning.{none_made, some_made, reaches_more, stops, ended, over}
use Rattle.dt_read.proofs.scan.first_bad_tag.Goals as goal

pub loop-next-preserved : goal.loop-next-preserved
loop-next-preserved c =
    rw (take_rest c.loop-next.rest.now c.in-Some.len) (
      reaches_more c.args.strings.now c.args.block.now c.loop-next.offset c.loop-next.rest.now (position_of c.loop-next.place) (position_of c.in-Some.next) c.in-Some.len c.in-Some.ensures.moves c.loop-next.invariant.0,
      c.in-Some.ensures.names ∙ c.loop-next.invariant.1,
    )

pub returns-in-None-clause-tree : goal.returns-in-None-clause-tree
returns-in-None-clause-tree c = λ _ at.
    let strings = c.args.strings.now in
    let rest = c.loop-next.rest.now in
    let p = position_of c.loop-next.place in
    let last = ended strings p rest (none_made kind_of (token_fault strings p rest) c.in-None.ensures) c.in_default.ensures.moves in
    over strings c.args.block.now at c.loop-next.offset rest p (λ i. omega (arith, c.type_inv.block i)) c.loop-next.invariant.0 last

pub returns-in-Some-fault_at-clause-first : goal.returns-in-Some-fault_at-clause-first
returns-in-Some-fault_at-clause-first c =
    let strings = c.args.strings.now in
    let rest = c.loop-next.rest.now in
    let p = position_of c.loop-next.place in
    let f = some_made kind_of (token_fault strings p rest) c.in-Some-fault_at.kind c.in-Some-fault_at.ensures in
    (f.0, f.2, stops strings c.args.block.now c.loop-next.offset rest p f.0 c.loop-next.invariant.0 f.1)
