use Rattle.std.proofs.Common.{◌++◌, ◌∙◌, ◌+◌, List, ℕ, drop, ap}
use Rattle.std.proofs.lemmas.List.{at_drop_more}
use Rattle.dt_text_writer.proofs.Writing.{puts_then, exits_at, turned}
use Rattle.dt_names.specs.Sink.{joined}
use Rattle.dt_text_writer.proofs.writer.Writer.put_pieces.Goals as goal

pub returns-in_err-put-clause-refused : goal.returns-in_err-put-clause-refused
returns-in_err-put-clause-refused g c =
    let (front, split, passed) = c.loop-piece.invariant in
    exits_at _ _ _ _ _ c.from_residual.ensures.1
    (split ∙ ap (λ (l : List ℕ). front ++ l) (at_drop_more joined c.args.pieces.now c.loop-piece.piece-index _ c.loop-piece-test.true)) passed c.in_err-put.ensures.refused

pub loop-piece-preserved : goal.loop-piece-preserved
loop-piece-preserved g c =
    let (front, split, passed) = c.loop-piece.invariant in (
      front ++ _,
      turned front _ (joined (drop (c.loop-piece.piece-index + 1) c.args.pieces.now))
          (split ∙ ap (λ (l : List ℕ). front ++ l) (at_drop_more joined c.args.pieces.now c.loop-piece.piece-index _ c.loop-piece-test.true)),
      puts_then passed c.in_ok-put.ensures.written,
    )
