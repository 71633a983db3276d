use Rattle.std.proofs.Common.{◌≡◌, ◌<◌, ◌+◌, ◌∷◌, [], ◌||◌, ℕ, true, false, not, List, drop, length, get_or, sym, ap, ◌∙◌}
use Rattle.std.specs.List.{list_any}
use Rattle.std.proofs.lemmas.List.{drop_more, drop_all}
use Rattle.dt_source_items.specs.declared.source.Piece.{Piece}
use Rattle.dt_source_bodies.proofs.OverlaySteps.{by_pieces, is_refused}
use Rattle.dt_source_bodies.proofs.overlaying.is_overlay_value.Goals as goal

-- what is left decides by its first piece
left : (ps : List Piece) (i : ℕ) (p : Piece) → i < length ps → p ≡ get_or ps i p → list_any is_refused (drop i ps) ≡ (is_refused p || list_any is_refused (drop (i + 1) ps))
left ps i p near is = ap (list_any is_refused) (drop_more ps i p near ∙ ap (λ (q : Piece). q ∷ drop (i + 1) ps) (sym is))

pub returns-then-not-is_overlay_piece : goal.returns-then-not-is_overlay_piece
returns-then-not-is_overlay_piece c =
    let v = c.args.value in
    let ps = v.pieces.now in
    let i = c.loop-piece.piece-index in
    let p = c.piece-item.result in
    let bad : is_refused p ≡ true = sym (ap not c.if-not-is_overlay_piece.ensures) in
    let all : list_any is_refused ps ≡ true =
    sym c.loop-piece.invariant ∙ left ps i p c.loop-piece-test.true c.piece-item.is ∙ ap (λ b. b || list_any is_refused (drop (i + 1) ps)) bad in
    sym (ap not (by_pieces ps v.bytes.now ∙ all))

pub loop-piece-preserved : goal.loop-piece-preserved
loop-piece-preserved c =
    let ps = c.args.value.pieces.now in
    let i = c.loop-piece.piece-index in
    let p = c.piece-item.result in
    let good : is_refused p ≡ false = sym (ap not c.if-not-is_overlay_piece.ensures) in
    sym (left ps i p c.loop-piece-test.true c.piece-item.is ∙ ap (λ b. b || list_any is_refused (drop (i + 1) ps)) good) ∙ c.loop-piece.invariant

pub returns : goal.returns
returns c =
    let v = c.args.value in
    let ps = v.pieces.now in
    let i = c.loop-piece.piece-index in
    let none : drop i ps ≡ [] = drop_all i ps c.loop-piece-test.false in
    sym (ap not (by_pieces ps v.bytes.now ∙ (sym c.loop-piece.invariant ∙ ap (list_any is_refused) none)))
