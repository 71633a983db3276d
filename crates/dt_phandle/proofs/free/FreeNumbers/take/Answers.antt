use Rattle.std.proofs.Common.{sym, arith}
use Rattle.dt_phandle.proofs.Least.{passed_over, next_is_least, next_is_given}
use Rattle.dt_phandle.proofs.free.FreeNumbers.take.Goals as goal

pub loop-self-preserved : goal.loop-self-preserved
loop-self-preserved c =
    let n = c.loop-self.self.next in
    let old = c.loop-self.self.written in
    let e = c.loop-self-test.ensures in
    record {
      left = λ taken l. passed_over taken old c.remove.new.self n (c.loop-self.invariant.left taken l) (sym e.test) e.updates.2;
      size = omega (arith, e.len);
    }

pub returns-clause-least : goal.returns-clause-least
returns-clause-least c = λ taken l.
    next_is_least taken c.loop-self.self.written c.loop-self.self.next (c.loop-self.invariant.left taken l) (sym c.loop-self-test.ensures.test)

pub returns-clause-left : goal.returns-clause-left
returns-clause-left c = λ taken l.
    next_is_given taken c.loop-self.self.written c.remove.new.self c.loop-self.self.next (c.loop-self.invariant.left taken l) c.loop-self-test.ensures.unchanged
