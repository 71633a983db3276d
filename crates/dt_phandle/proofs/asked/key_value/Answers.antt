use Rattle.std.proofs.Common.{◌≡◌, ◌∷◌, ◌+◌, ◌<◌, ◌≤◌, ◌++◌, ℕ, List, length, map, drop, get_or, sym, ap, ◌∙◌, subst, arith}
use Rattle.std.specs.Cow.{cow_slice_items}
use Rattle.dt_model.specs.Meaning.{Item, byte, reference, EachReference}
use Rattle.dt_model.specs.Named.{NodeReference}
use Rattle.dt_model.specs.NamedOf.{IsBelow}
use Rattle.dt_source_named_tree.specs.Said.{reference_said, pieces_said, value_said}
use Rattle.dt_source_named_tree.specs.declared.named.NamedPiece.{NamedPiece}
use Rattle.dt_phandle.specs.Asking.{asked_said, keyed_too, is_to, is_in_value}
use Rattle.dt_phandle.proofs.Asking.{next_item, piece_next, each_behind, in_value_behind, several_turn, value_over}
use Rattle.dt_phandle.proofs.asked.key_value.Goals as goal
use Rattle.dt_phandle.proofs.asked.key_value.Goals.{After-piece-item}

-- the value that is left, and the one behind its next piece
left : (c : After-piece-item) →
    let items = c.args.value.now.pieces.items in
    let bytes = cow_slice_items c.args.value.now.bytes in
    let i = c.loop-piece.piece-index in
    pieces_said (drop i items) ++ map byte bytes
    ≡ map byte (cow_slice_items c.piece-item.result.before) ++ reference (reference_said c.piece-item.result.reference) ∷ (pieces_said (drop (i + 1) items) ++ map byte bytes)
left c =
    let items = c.args.value.now.pieces.items in
    let i = c.loop-piece.piece-index in
    let p = c.piece-item.result in
    let lt : i < length items = omega (arith, ap length c.deref-piece-items.ensures.value) in
    piece_next items (cow_slice_items c.args.value.now.bytes) i p
    (next_item items i p lt (c.piece-item.is ∙ ap (λ (xs : List NamedPiece). get_or xs i p) c.deref-piece-items.ensures.value))

-- its reference, and those behind it, are to nodes
below : (c : After-piece-item) →
    let rest = pieces_said (drop (c.loop-piece.piece-index + 1) c.args.value.now.pieces.items) ++ map byte (cow_slice_items c.args.value.now.bytes) in
    IsBelow (length c.args.asked.now) (reference_said c.piece-item.result.reference) × EachReference (IsBelow (length c.args.asked.now)) rest
below c =
    let rest = pieces_said (drop (c.loop-piece.piece-index + 1) c.args.value.now.pieces.items) ++ map byte (cow_slice_items c.args.value.now.bytes) in
    let P = IsBelow (length c.args.asked.now) in
    each_behind P (cow_slice_items c.piece-item.result.before) (reference_said c.piece-item.result.reference) rest (subst (EachReference P) (left c) c.loop-piece.invariant.referred)

pub key-requires : goal.key-requires
key-requires c =
    let now = (goal.at.key-requires c).After-piece-item in
    subst (λ (n : ℕ). IsBelow n (reference_said now.piece-item.result.reference)) (sym now.loop-piece.auto.asked) (below now).0

pub loop-piece-preserved : goal.loop-piece-preserved
loop-piece-preserved c =
    let now = (goal.at.loop-piece-preserved c).After-piece-item in
    let items = c.args.value.now.pieces.items in
    let bytes = cow_slice_items c.args.value.now.bytes in
    let i = c.loop-piece.piece-index in
    let r = reference_said c.piece-item.result.reference in
    let rest = pieces_said (drop (i + 1) items) ++ map byte bytes in
    record {
      referred = (below now).1;
      same = several_turn (is_to r) (is_in_value rest) (is_in_value (pieces_said (drop i items) ++ map byte bytes)) c.loop-piece.asked c.key.new.asked
          (keyed_too (is_in_value (value_said c.args.value.now)) 0 (map asked_said c.args.asked.now))
          (λ k. ap (λ (u : List (Item NodeReference)). is_in_value u k) (left now) ∙ in_value_behind (cow_slice_items c.piece-item.result.before) r rest k)
          c.key.ensures c.loop-piece.invariant.same;
    }

pub returns : goal.returns
returns c =
    let items = c.args.value.now.pieces.items in
    let past : length items ≤ c.loop-piece.piece-index = omega (arith, ap length c.deref-piece-items.ensures.value) in
    value_over (cow_slice_items c.args.value.now.bytes) items c.loop-piece.piece-index (map asked_said c.loop-piece.asked)
    (keyed_too (is_in_value (value_said c.args.value.now)) 0 (map asked_said c.args.asked.now)) past c.loop-piece.invariant.same
