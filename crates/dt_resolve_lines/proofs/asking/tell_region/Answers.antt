use Rattle.std.proofs.Common.{ap, rules}
use Rattle.dt_text_writer.proofs.Writing.{text_written, text_refused, text_cut_off}
use Rattle.dt_resolve_lines.proofs.asking.tell_region.Goals as goal

pub returns-clause-written : goal.returns-clause-written
returns-clause-written g c =
    text_written _ _ _ _ _ c.new-writer.ensures (λ e. ap g.S.Sink.taken (search rules)) c.in_ok-put_region.ensures.written c.flush.ensures.written c.flush.ensures.empty

pub returns-in_err-put_region-clause-refused : goal.returns-in_err-put_region-clause-refused
returns-in_err-put_region-clause-refused g c =
    text_cut_off _ _ _ _ _ c.from_residual.ensures.1 c.new-writer.ensures (λ e. ap g.S.Sink.taken (search rules)) c.in_err-put_region.ensures.refused

pub returns-clause-refused : goal.returns-clause-refused
returns-clause-refused g c =
    text_refused _ _ _ _ _ c.new-writer.ensures (λ e. ap g.S.Sink.taken (search rules)) c.in_ok-put_region.ensures.written c.flush.ensures.refused
