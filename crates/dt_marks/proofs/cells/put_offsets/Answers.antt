use Rattle.std.proofs.Common.{◌≡◌, ◌+◌, ◌++◌, ℕ, List, [], ◌∙◌, sym, ap, drop, length, arith}
use Rattle.std.specs.List.{flat_map}
use Rattle.std.proofs.lemmas.List.{drop_all, append-nil}
use Rattle.std.specs.Cow.{cow_slice_items}
use Rattle.dt_model.specs.Fixups.{inside_offset}
use Rattle.dt_model.specs.Named.{NodeReference}
use Rattle.dt_source_named_tree.specs.declared.named.NamedPiece.{NamedPiece}
use Rattle.dt_marks.proofs.Listing.{references_left, none_left, offset_turn}
use Rattle.dt_marks.proofs.cells.put_offsets.Goals as goal

pub loop-piece-preserved : goal.loop-piece-preserved
loop-piece-preserved c =
    let p = c.piece-item.result in
    let at : c.in_ok-cell.cell ≡ c.loop-piece.offset + length (cow_slice_items p.before) = omega (arith, c.in_ok-cell.ensures, c.len.ensures) in
    offset_turn c.loop-piece.out.items c.put_offset.new.out.items c.loop-piece.offset c.in_ok-cell.cell c.in_ok-offset.offset
    c.deref-piece-items.result.now (cow_slice_items c.args.value.now.bytes) c.loop-piece.piece-index p _ (omega arith) c.piece-item.is at c.in_ok-offset.ensures
    c.in_ok-put_offset.ensures c.loop-piece.invariant

pub returns : goal.returns
returns c =
    let pieces = c.deref-piece-items.result.now in
    let bytes = cow_slice_items c.args.value.now.bytes in
    let k = c.loop-piece.offset in
    let all : drop c.loop-piece.piece-index pieces ≡ [] = drop_all c.loop-piece.piece-index pieces (omega arith) in
    let none : references_left k (drop c.loop-piece.piece-index pieces) bytes ≡ [] = ap (λ (ps : List NamedPiece). references_left k ps bytes) all ∙ none_left k bytes in
    sym (append-nil c.loop-piece.out.items)
    ∙ ap (λ (rs : List (ℕ × NodeReference)). c.loop-piece.out.items ++ flat_map inside_offset rs) (sym none) ∙ c.loop-piece.invariant
