use Rattle.std.proofs.Common.{sym, ap, subst}
use Rattle.dt_text_writer.specs.Written.{Written, IsWritten, state}
use Rattle.dt_text_writer.proofs.Writing.{puts_then, puts_through, cut_through, on_false, on_true}
use Rattle.dt_text_writer.proofs.writer.Writer.put.Goals as goal

pub returns-then-hold-2-clause-written : goal.returns-then-hold-2-clause-written
returns-then-hold-2-clause-written g c =
    subst (λ (w : Written). IsWritten c.args.bytes.now w (state g.S.Sink.taken c.hold-2.new.self)) (on_false _ _ c.if-hold.false c.hold.ensures.full)
    (puts_then c.in_ok-flush.ensures.written (on_true _ _ c.if-hold-2.true c.hold-2.ensures.held))

pub returns-clause-written : goal.returns-clause-written
returns-clause-written g c =
    puts_through _ _ _ _ _ _ (on_false _ _ c.if-hold.false c.hold.ensures.full) c.in_ok-flush.ensures.written c.in_ok-flush.ensures.empty
    (sym (on_false _ _ c.if-hold-2.false c.hold-2.ensures.full)) c.put_all.ensures.written

pub returns-clause-refused : goal.returns-clause-refused
returns-clause-refused g c =
    cut_through _ _ _ _ _ _ (on_false _ _ c.if-hold.false c.hold.ensures.full) c.in_ok-flush.ensures.written c.in_ok-flush.ensures.empty
    (sym (on_false _ _ c.if-hold-2.false c.hold-2.ensures.full)) c.put_all.ensures.refused
