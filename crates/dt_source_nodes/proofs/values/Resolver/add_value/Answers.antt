use Rattle.std.proofs.Common.{◌≡◌, ◌++◌, ◌+◌, [], ℕ, List, Some, drop, take, length, min, refl, ap, sym, ◌∙◌, append_assoc}
use Rattle.std.proofs.lemmas.List.{drop_all, drop_min, take_min}
use Rattle.std.proofs.lemmas.Result.{err_from_is_err_and}
use Rattle.dt_model.specs.Source.{Part}
use Rattle.dt_source_items.specs.declared.source.Piece.{Piece}
use Rattle.dt_source_items.specs.Said.{parts_said}
use Rattle.dt_source_named_tree.specs.Said.{value_said}
use Rattle.dt_source_nodes.specs.Contents.{piece_parts}
use Rattle.dt_source_nodes.proofs.ValueSteps.{unread_value, piece_split, pieces_more, value_read}
use Rattle.dt_source_nodes.proofs.values.Resolver.add_value.Goals as goal

-- what comes before the reference of a piece
cut : (front rest : List ℕ) (p : Piece) (k : ℕ) → k ≡ min p.before (length rest) → front ≡ take k rest → front ≡ take p.before rest
cut front rest p k e f = f ∙ ap (λ (n : ℕ). take n rest) e ∙ take_min p.before rest

cut_behind : (back rest : List ℕ) (p : Piece) (k : ℕ) → k ≡ min p.before (length rest) → back ≡ drop k rest → back ≡ drop p.before rest
cut_behind back rest p k e f = f ∙ ap (λ (n : ℕ). drop n rest) e ∙ drop_min p.before rest

pub loop-piece-init : goal.loop-piece-init
loop-piece-init c = ([], refl, λ es place limit of by. ap Some (sym c.requires.empty))

pub returns-in_err-add_piece : goal.returns-in_err-add_piece
returns-in_err-add_piece c =
    let ps = c.args.source.pieces.now in
    let i = c.loop-piece.piece-index in
    let p = c.piece-item.result in
    let rest = c.loop-piece.rest.now in
    let read = c.loop-piece.invariant.0 in
    let whole = c.loop-piece.invariant.1 ∙ ap (λ (xs : List Part). read ++ xs) (piece_split ps i p rest c.loop-piece-test.true c.piece-item.is) in
    let e = err_from_is_err_and c.from_residual.result c.from_residual.ensures.1 in
    let fault = c.in_err-add_piece.field-0.0 in
    let why = rw (cut c.split_at.result.0.now rest p c.min.result c.min.ensures c.split_at.ensures.front) at c.in_err-add_piece.ensures in
    rw (e.1, e.2)
    (unread_value c.args.self.now.unnamed c.args.self.now.growing.now _ read (piece_parts (take p.before rest) p) (parts_said (drop (i + 1) ps) (drop p.before rest)) fault whole why)

pub loop-piece-preserved : goal.loop-piece-preserved
loop-piece-preserved c =
    let ps = c.args.source.pieces.now in
    let i = c.loop-piece.piece-index in
    let p = c.piece-item.result in
    let rest = c.loop-piece.rest.now in
    let g = c.args.self.now.growing.now in
    let places = c.args.self.now.belongings.now.places.items in
    let read = c.loop-piece.invariant.0 in
    let old = value_said c.loop-piece.value in
    let new = value_said c.add_piece.new.value in
    let here = piece_parts (take p.before rest) p in
    let left = parts_said (drop (i + 1) ps) (drop p.before rest) in
    let whole = c.loop-piece.invariant.1 ∙ ap (λ (xs : List Part). read ++ xs) (piece_split ps i p rest c.loop-piece-test.true c.piece-item.is) ∙ sym (append_assoc read here left) in
    let added = rw (cut c.split_at.result.0.now rest p c.min.result c.min.ensures c.split_at.ensures.front) at c.in_ok-add_piece.ensures in (
      read ++ here,
      rw (cut_behind c.split_at.result.1.now rest p c.min.result c.min.ensures c.split_at.ensures.back) whole,
      pieces_more c.args.self.now.unnamed g places read here old new c.loop-piece.invariant.2 added,
    )

pub returns : goal.returns
returns c =
    let ps = c.args.source.pieces.now in
    let i = c.loop-piece.piece-index in
    let rest = c.loop-piece.rest.now in
    let read = c.loop-piece.invariant.0 in
    let none : drop i ps ≡ [] = drop_all i ps c.loop-piece-test.false in
    let whole = c.loop-piece.invariant.1 ∙ ap (λ (qs : List Piece). read ++ parts_said qs rest) none in
    value_read c.args.self.now.unnamed c.args.self.now.growing.now c.args.self.now.belongings.now.places.items _ read rest (value_said c.loop-piece.value) (value_said c.add_bytes.new.value)
    whole c.loop-piece.invariant.2 c.in_ok-add_bytes.ensures
