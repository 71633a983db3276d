-- What is left decides as the whole does.
use Rattle.std.proofs.Common.{◌≡◌, map, drop}
use Rattle.dt_model.specs.Tree.{value_of}
use Rattle.dt_view.specs.Tables.{asked_said}
use Rattle.dt_view.proofs.tables.value_among.Given as goal

abbrev pub invariant-loop-property : goal.invariant-loop-property
invariant-loop-property l = value_of (map asked_said (drop l.property-index l.asked)) l.name ≡ value_of (map asked_said l.asked) l.name
