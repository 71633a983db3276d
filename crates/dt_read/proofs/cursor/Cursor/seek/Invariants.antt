use Rattle.std.proofs.Common.{◌≡◌, ◌≤◌, length}
use Rattle.dt_read.specs.TreeTokens.{AreTokens, marks_in, past_others}
use Rattle.dt_read.proofs.cursor.Cursor.seek.Given as goal

abbrev pub invariant-loop-found : goal.invariant-loop-found
invariant-loop-found l =
    AreTokens l.self-inside.strings.now l.self-inside.at l.self-inside.rest.now
    × (past_others l.name (marks_in l.self-inside.strings.now l.self-inside.at l.self-inside.rest.now)
    ≡ past_others l.name (marks_in l.initial.self-inside.strings.now l.initial.self-inside.at l.initial.self-inside.rest.now))
    × (length (marks_in l.self-inside.strings.now l.self-inside.at l.self-inside.rest.now)
    ≤ length (marks_in l.initial.self-inside.strings.now l.initial.self-inside.at l.initial.self-inside.rest.now))

abbrev pub decreases-loop-found : goal.decreases-loop-found
decreases-loop-found l = length (marks_in l.self-inside.strings.now l.self-inside.at l.self-inside.rest.now)
