use Rattle.std.proofs.Common.{suc, ◌-◌, refl, arith}
use Rattle.std.proofs.lemmas.Bool.{false≢true}
use Rattle.dt_read.specs.Keys.{said}
use Rattle.dt_read.proofs.Novelty.{among_here, among_further, among_none, among_end}
use Rattle.dt_read.proofs.distinct.is_among.Goals as goal

pub returns-in-Some : goal.returns-in-Some
returns-in-Some c =
    let left = c.args.count - suc c.loop.counter in
    among_here (said c.args.key.now) (said c.in-Some.other) c.loop.keys c.next.new.self left _ c.in-Some.ensures.steps
    (c.if-same.ensures.0 refl) (c.loop.invariant (suc left) (omega arith))

pub returns-in-None : goal.returns-in-None
returns-in-None c =
    let left = c.args.count - c.loop.counter in
    among_none (said c.args.key.now) c.loop.keys left _ c.in-None.ensures.steps.0 (c.loop.invariant left (omega arith))

pub loop-preserved : goal.loop-preserved
loop-preserved c = λ j e.
    among_further (said c.args.key.now) (said c.in-Some.other) c.loop.keys c.next.new.self j _ c.in-Some.ensures.steps
    (λ same. false≢true (c.if-same.ensures.1 same)) (c.loop.invariant (suc j) (omega arith))

pub returns : goal.returns
returns c = among_end (said c.args.key.now) c.loop.keys _ (c.loop.invariant 0 (omega arith))
