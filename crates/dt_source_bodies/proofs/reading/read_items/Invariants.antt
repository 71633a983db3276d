-- What was read of the items is what the definition reads of as many.
use Rattle.std.proofs.Common.{take}
use Rattle.dt_model.specs.Source.{read_all, nothing}
use Rattle.dt_source_bodies.specs.Reading.{IsWhole, GoesOn}
use Rattle.dt_source_bodies.specs.Refusals.{mode_said}
use Rattle.dt_source_bodies.proofs.reading.read_items.Given as goal

abbrev pub invariant-loop-item : goal.invariant-loop-item
invariant-loop-item l = record {
  whole : IsWhole l.reading;
  goes : GoesOn (read_all (mode_said l.mode) nothing (take l.item l.items.places)) l.reading l.item;
}
