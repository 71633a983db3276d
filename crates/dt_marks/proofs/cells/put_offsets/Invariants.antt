-- The offsets of the references that are left make up all.
use Rattle.std.proofs.Common.{◌≡◌, ◌++◌, drop}
use Rattle.std.specs.List.{flat_map}
use Rattle.std.specs.Cow.{cow_slice_items}
use Rattle.dt_model.specs.Fixups.{inside_offset}
use Rattle.dt_model.specs.Object.{references_from}
use Rattle.dt_source_named_tree.specs.Said.{value_said}
use Rattle.dt_marks.proofs.Listing.{references_left}
use Rattle.dt_marks.proofs.cells.put_offsets.Given as goal

abbrev pub invariant-loop-piece : goal.invariant-loop-piece
invariant-loop-piece l =
    l.out.items ++ flat_map inside_offset (references_left l.offset (drop l.piece-index l.piece-items) (cow_slice_items l.value.bytes))
    ≡ flat_map inside_offset (references_from 0 (value_said l.value))
