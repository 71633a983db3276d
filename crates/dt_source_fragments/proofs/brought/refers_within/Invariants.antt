-- What is left decides as the whole value does.
use Rattle.std.proofs.Common.{◌≡◌, ◌++◌, map, drop}
use Rattle.std.specs.Cow.{cow_slice_items}
use Rattle.dt_model.specs.Meaning.{byte}
use Rattle.dt_model_laws.specs.OverlayChecks as checks
use Rattle.dt_source_named_tree.specs.Said.{pieces_said, value_said}
use Rattle.dt_source_fragments.proofs.brought.refers_within.Given as goal

abbrev pub invariant-loop-piece : goal.invariant-loop-piece
invariant-loop-piece l = checks.refers_within l.marks (pieces_said (drop l.piece-index l.value.pieces.items) ++ map byte (cow_slice_items l.value.bytes)) ≡ checks.refers_within l.marks (value_said l.value)
