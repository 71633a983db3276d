use Rattle.std.proofs.Common.{◌≡◌, ℕ, ◌+◌, ◌<◌, ◌≤◌, List, ◌++◌, length, map, drop, get_or, arith, ap, ◌∙◌}
use Rattle.std.specs.Cow.{cow_slice_items}
use Rattle.dt_model.specs.Instance.{number_for}
use Rattle.dt_model.specs.Meaning.{byte, cell, value_bytes}
use Rattle.dt_model.specs.Named.{NodeReference}
use Rattle.dt_source_named_tree.specs.Said.{reference_said, pieces_said, value_said}
use Rattle.dt_source_named_tree.specs.declared.named.NamedPiece.{NamedPiece}
use Rattle.dt_phandle.proofs.Asking.{next_item, piece_next}
use Rattle.dt_phandle.proofs.Cells.{piece_written, last_written}
use Rattle.dt_phandle.proofs.numbered.write_value.Goals as goal

pub loop-piece-preserved : goal.loop-piece-preserved
loop-piece-preserved c =
    let items = c.args.value.now.pieces.items in
    let bytes = cow_slice_items c.args.value.now.bytes in
    let number : NodeReference → ℕ = number_for c.args.numbering.now in
    let i = c.loop-piece.piece-index in
    let p = c.piece-item.result in
    let lt : i < length items = omega (arith, ap length c.deref-piece-items.ensures.value) in
    let next = next_item items i p lt (c.piece-item.is ∙ ap (λ (xs : List NamedPiece). get_or xs i p) c.deref-piece-items.ensures.value) in
    let before = c.loop-piece.bytes.items in
    let middle = c.in_ok-extend_from_slice.ensures.items ∙ ap (λ (bs : List ℕ). before ++ bs) c.deref.ensures.value in
    let r = reference_said p.reference in
    let written : c.to_be_bytes.result ≡ cell (number r) = c.to_be_bytes.ensures ∙ ap cell c.number_for-number.ensures in
    let last = c.in_ok-extend_from_slice-2.ensures.items ∙ ap (λ (bs : List ℕ). c.extend_from_slice.new.self.items ++ bs) written in
    piece_written number (pieces_said (drop i items) ++ map byte bytes) (pieces_said (drop (i + 1) items) ++ map byte bytes) (cow_slice_items p.before) r
    before c.extend_from_slice.new.self.items c.extend_from_slice-in-loop-piece.new.self.items (piece_next items bytes i p next) middle last
    ∙ c.loop-piece.invariant

pub returns : goal.returns
returns c =
    let items = c.args.value.now.pieces.items in
    let bytes = cow_slice_items c.args.value.now.bytes in
    let number : NodeReference → ℕ = number_for c.args.numbering.now in
    let past : length items ≤ c.loop-piece.piece-index = omega (arith, ap length c.deref-piece-items.ensures.value) in
    last_written number items bytes c.loop-piece.piece-index c.loop-piece.bytes.items c.extend_from_slice-2.new.self.items (value_bytes number (value_said c.args.value.now))
    past (c.in_ok-extend_from_slice-3.ensures.items ∙ ap (λ (bs : List ℕ). c.loop-piece.bytes.items ++ bs) c.deref-2.ensures.value) c.loop-piece.invariant
