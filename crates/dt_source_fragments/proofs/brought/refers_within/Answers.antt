use Rattle.std.proofs.Common.{◌≡◌, ◌+◌, ◌&&◌, [], ◌++◌, true, false, List, map, drop, length, get_or, sym, ap, ◌∙◌, arith}
use Rattle.std.proofs.lemmas.List.{drop_all}
use Rattle.std.specs.Cow.{cow_slice_items}
use Rattle.dt_model.specs.Meaning.{byte}
use Rattle.dt_model_laws.specs.OverlayChecks as checks
use Rattle.dt_source_named_tree.specs.Said.{reference_said, pieces_said}
use Rattle.dt_source_named_tree.specs.declared.named.NamedPiece.{NamedPiece}
use Rattle.dt_source_fragments.proofs.FragmentSteps.{left_within, bytes_within}
use Rattle.dt_source_fragments.proofs.brought.refers_within.Goals as goal

pub returns-then-not-is_within : goal.returns-then-not-is_within
returns-then-not-is_within c =
    let v = c.args.value.now in
    let marks = c.args.marks.now in
    let i = c.loop-piece.piece-index in
    let p = c.piece-item.result in
    let items : c.deref-piece-items.result.now ≡ v.pieces.items = c.deref-piece-items.ensures.value in
    let at : p ≡ get_or v.pieces.items i p = c.piece-item.is ∙ ap (λ (qs : List NamedPiece). get_or qs i p) items in
    let size : length c.deref-piece-items.result.now ≡ length v.pieces.items = ap (λ (qs : List NamedPiece). length qs) items in
    let bad : checks.is_within marks (reference_said p.reference) ≡ false = sym c.if-not-is_within.ensures in
    sym (ap (λ b. b && checks.refers_within marks (pieces_said (drop (i + 1) v.pieces.items) ++ map byte (cow_slice_items v.bytes))) bad) ∙ sym (left_within marks v i p (omega (arith, size, c.loop-piece-test.true)) at) ∙ c.loop-piece.invariant

pub loop-piece-preserved : goal.loop-piece-preserved
loop-piece-preserved c =
    let v = c.args.value.now in
    let marks = c.args.marks.now in
    let i = c.loop-piece.piece-index in
    let p = c.piece-item.result in
    let items : c.deref-piece-items.result.now ≡ v.pieces.items = c.deref-piece-items.ensures.value in
    let at : p ≡ get_or v.pieces.items i p = c.piece-item.is ∙ ap (λ (qs : List NamedPiece). get_or qs i p) items in
    let size : length c.deref-piece-items.result.now ≡ length v.pieces.items = ap (λ (qs : List NamedPiece). length qs) items in
    let good : checks.is_within marks (reference_said p.reference) ≡ true = sym c.if-not-is_within.ensures in
    sym (ap (λ b. b && checks.refers_within marks (pieces_said (drop (i + 1) v.pieces.items) ++ map byte (cow_slice_items v.bytes))) good) ∙ sym (left_within marks v i p (omega (arith, size, c.loop-piece-test.true)) at) ∙ c.loop-piece.invariant

pub returns : goal.returns
returns c =
    let v = c.args.value.now in
    let marks = c.args.marks.now in
    let i = c.loop-piece.piece-index in
    let items : c.deref-piece-items.result.now ≡ v.pieces.items = c.deref-piece-items.ensures.value in
    let size : length c.deref-piece-items.result.now ≡ length v.pieces.items = ap (λ (qs : List NamedPiece). length qs) items in
    let none : drop i v.pieces.items ≡ [] = drop_all i v.pieces.items (omega (arith, size, c.loop-piece-test.false)) in
    sym (bytes_within marks (cow_slice_items v.bytes)) ∙ ap (λ (qs : List NamedPiece). checks.refers_within marks (pieces_said qs ++ map byte (cow_slice_items v.bytes))) (sym none) ∙ c.loop-piece.invariant
