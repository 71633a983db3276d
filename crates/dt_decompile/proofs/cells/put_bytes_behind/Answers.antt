use Rattle.std.proofs.Common.{◌++◌, ◌∙◌, ◌+◌, [], ◌∷◌, List, ℕ, get_or, drop, ap}
use Rattle.std.specs.Prelude.{codes}
use Rattle.std.proofs.lemmas.List.{at_drop_more}
use Rattle.dt_model.specs.Printed.{hexadecimal}
use Rattle.dt_decompile.specs.Pieces.{bytes_behind}
use Rattle.dt_text_writer.proofs.Writing.{puts_then, exits_at, turned}
use Rattle.dt_decompile.proofs.cells.put_bytes_behind.Goals as goal

pub returns-in_err-put_byte-clause-refused : goal.returns-in_err-put_byte-clause-refused
returns-in_err-put_byte-clause-refused g c =
    let (front, split, passed) = c.loop-byte.invariant in
    exits_at _ _ _ _ _ c.from_residual.ensures.1
    (split ∙ ap (λ (l : List ℕ). front ++ l) (at_drop_more bytes_behind c.args.bytes.now c.loop-byte.byte-index 0 c.loop-byte-test.true)) passed c.in_err-put_byte.ensures.refused

pub loop-byte-preserved : goal.loop-byte-preserved
loop-byte-preserved g c =
    let (front, split, passed) = c.loop-byte.invariant in
    let piece = codes " " ++ hexadecimal (get_or c.args.bytes.now c.loop-byte.byte-index 0 ∷ []) in (
      front ++ piece,
      turned front piece (bytes_behind (drop (c.loop-byte.byte-index + 1) c.args.bytes.now))
          (split ∙ ap (λ (l : List ℕ). front ++ l) (at_drop_more bytes_behind c.args.bytes.now c.loop-byte.byte-index 0 c.loop-byte-test.true)),
      puts_then passed c.in_ok-put_byte.ensures.written,
    )
