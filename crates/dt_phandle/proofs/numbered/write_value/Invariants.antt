-- The bytes so far, and those of what is left, are the value's.
use Rattle.std.proofs.Common.{◌≡◌, ◌++◌, map, drop}
use Rattle.std.specs.Cow.{cow_slice_items}
use Rattle.dt_model.specs.Instance.{number_for}
use Rattle.dt_model.specs.Meaning.{byte, value_bytes}
use Rattle.dt_source_named_tree.specs.Said.{pieces_said, value_said}
use Rattle.dt_phandle.proofs.numbered.write_value.Given as goal

abbrev pub invariant-loop-piece : goal.invariant-loop-piece
invariant-loop-piece l =
    l.bytes.items ++ value_bytes (number_for l.numbering) (pieces_said (drop l.piece-index l.value.pieces.items) ++ map byte (cow_slice_items l.value.bytes))
    ≡ value_bytes (number_for l.numbering) (value_said l.value)
