use Rattle.std.proofs.Common.{rules, ◌≡◌, ◌<◌, length, sym}
use Rattle.std.specs.Cow.{cow_slice_items}
use Rattle.dt_phandle.proofs.Asking.{no_number_behind, number_alone}
use Rattle.dt_phandle.proofs.asked.number_of.Goals as goal

pub returns-then-not-is_empty : goal.returns-then-not-is_empty
returns-then-not-is_empty c =
    let v = c.args.value.now in
    let some : 0 < length v.pieces.items = search rules in
    sym (no_number_behind v.pieces.items (cow_slice_items v.bytes) some)

pub returns : goal.returns
returns c =
    let v = c.args.value.now in
    let none : length v.pieces.items ≡ 0 = search rules in
    number_alone v c.deref.result.now c.phandle_of.result none c.deref.ensures.value c.phandle_of.ensures.valid c.phandle_of.ensures.number
