-- What is left of the value keys as the whole does.
use Rattle.std.proofs.Common.{◌≡◌, ◌++◌, length, map, drop}
use Rattle.std.specs.Cow.{cow_slice_items}
use Rattle.dt_model.specs.NamedOf.{IsBelow}
use Rattle.dt_model.specs.Meaning.{byte, EachReference}
use Rattle.dt_source_named_tree.specs.Said.{pieces_said, value_said}
use Rattle.dt_phandle.specs.Asking.{asked_said, keyed_too, is_in_value}
use Rattle.dt_phandle.proofs.asked.key_value.Given as goal

abbrev pub invariant-loop-piece : goal.invariant-loop-piece
invariant-loop-piece l = record {
  referred : EachReference (IsBelow (length l.fn.asked)) (pieces_said (drop l.piece-index l.value.pieces.items) ++ map byte (cow_slice_items l.value.bytes));
  same : keyed_too (is_in_value (pieces_said (drop l.piece-index l.value.pieces.items) ++ map byte (cow_slice_items l.value.bytes))) 0 (map asked_said l.asked)
      ≡ keyed_too (is_in_value (value_said l.value)) 0 (map asked_said l.fn.asked);
}
