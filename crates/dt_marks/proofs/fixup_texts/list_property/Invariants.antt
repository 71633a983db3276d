-- The references that are left give the table all.
use Rattle.std.proofs.Common.{◌≡◌, drop}
use Rattle.std.specs.List.{flat_map}
use Rattle.std.specs.Cow.{cow_slice_items}
use Rattle.dt_source_named_tree.specs.Said.{property_said}
use Rattle.dt_marks.specs.Waiting.{with_texts, reference_text, property_texts}
use Rattle.dt_marks.proofs.Listing.{references_left}
use Rattle.dt_marks.proofs.fixup_texts.list_property.Given as goal

abbrev pub invariant-loop-piece : goal.invariant-loop-piece
invariant-loop-piece l =
    with_texts l.table
    (flat_map (reference_text l.path l.property.name.now) (references_left l.offset (drop l.piece-index l.piece-items) (cow_slice_items l.property.value.bytes)))
    ≡ with_texts l.fn.table (property_texts l.path (property_said l.property))
