-- The properties before were noted, and `phandle` is found among all where it was found among them or is found among the others.
use Rattle.std.proofs.Common.{◌≡◌, codes, length}
use Rattle.std.specs.Option.{option_copied}
use Rattle.dt_model.specs.Tree.{value_of}
use Rattle.dt_read.specs.Walked.{leading, past_leading}
use Rattle.dt_view.specs.Tables.{first_found}
use Rattle.dt_view.proofs.Kinded.{AreKeeping}
use Rattle.dt_view.proofs.Valued.{AreNoting}
use Rattle.dt_view.proofs.tables.note_values.Given as goal

abbrev pub invariant-loop-name : goal.invariant-loop-name
invariant-loop-name l =
    AreNoting l.initial.values.items l.values.items (leading l.steps) (leading l.initial.steps)
    × AreKeeping l.node (leading l.initial.steps) (leading l.steps) l.initial.kinds.entries l.kinds.entries
    × (first_found (option_copied l.phandle) (value_of (leading l.steps) (codes "phandle")) ≡ value_of (leading l.initial.steps) (codes "phandle"))
    × (past_leading l.steps ≡ past_leading l.initial.steps)

abbrev pub decreases-loop-name : goal.decreases-loop-name
decreases-loop-name l = length l.steps
