use Rattle.dt_run.proofs.Outcomes.{one_refused, one_written, refused_as, written_as, written_only}
use Rattle.dt_run.proofs.laws.one_outcome.Goals as goal

pub returns-clause-written : goal.returns-clause-written
returns-clause-written c job hex inputs bytes other (t, is, w) (u, also, v) =
    one_written c.one_making.ensures c.one_reporting.ensures u hex inputs bytes other (written_as hex inputs bytes job t u is also w) v

pub returns-clause-only : goal.returns-clause-only
returns-clause-only c job hex inputs bytes k e (t, is, w) (u, also, why) =
    written_only c.one_making.ensures c.one_reporting.ensures u hex inputs bytes k e (written_as hex inputs bytes job t u is also w) why

pub returns-clause-refused : goal.returns-clause-refused
returns-clause-refused c job inputs k j e f (t, is, why) (u, also, its) wanted besides =
    one_refused c.one_making.ensures c.one_reporting.ensures u inputs k j e f (refused_as k e inputs job t u is also why) its wanted besides
