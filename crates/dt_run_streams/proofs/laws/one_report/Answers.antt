use Rattle.std.proofs.Common.{ap, sym, ◌∙◌}
use Rattle.dt_model.specs.Printed.{printed}
use Rattle.dt_read.specs.Kinds.{kind_of}
use Rattle.dt_run_streams.specs.Told.{counts_line}
use Rattle.dt_run_streams.proofs.laws.one_report.Goals as goal

pub returns-clause-text : goal.returns-clause-text
returns-clause-text c bytes text other a b = a.is ∙ ap printed (c.one_answer.ensures.read bytes a.tree b.tree a.reads b.reads) ∙ sym b.is

pub returns-clause-line : goal.returns-clause-line
returns-clause-line c bytes line other a b = a.line ∙ ap counts_line (c.one_answer.ensures.read bytes a.tree b.tree a.reads b.reads) ∙ sym b.line

pub returns-clause-printed : goal.returns-clause-printed
returns-clause-printed c bytes text kind at is (f, same, first) = c.one_answer.ensures.only bytes is.tree f at is.reads is.within first

pub returns-clause-counted : goal.returns-clause-counted
returns-clause-counted c bytes line kind at is (f, same, first) = c.one_answer.ensures.only bytes is.tree f at is.reads is.within first

pub returns-clause-fault : goal.returns-clause-fault
returns-clause-fault c bytes kind other at place (f, is, first) (g, is', first') =
    let (one, same) = c.one_answer.ensures.fault bytes f g at place first first' in
    (is ∙ ap kind_of one ∙ sym is', same)
