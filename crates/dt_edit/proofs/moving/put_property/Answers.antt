use Rattle.std.proofs.Common.{◌≡◌, ◌+◌, ◌-◌, ◌%◌, List, ℕ, length, refl, ap, ◌∙◌, arith}
use Rattle.std.specs.Prelude.{replicate}
use Rattle.std.proofs.lemmas.List.{length-replicate}
use Rattle.dt_model.specs.Format.{word}
use Rattle.dt_edit.specs.Moving.{put}
use Rattle.dt_edit.proofs.Putting.{put_parts}
use Rattle.dt_edit.proofs.moving.put_property.Goals as goal

pub returns : goal.returns
returns c =
    let at = c.args.at in
    let value = c.args.value.now in
    let len : ℕ = length value in
    let count : at + c.padded_len-size.result - (at + 12 + len) ≡ (4 - len % 4) % 4 = omega (arith, c.padded_len-size.ensures) in
    let zeros : List ℕ = replicate ((4 - len % 4) % 4) 0 in
    let size : length zeros ≡ (4 - len % 4) % 4 = length-replicate ((4 - len % 4) % 4) 0 in
    let room = c.requires.room in
    c.put_zeros.ensures ∙ ap (λ (n : ℕ). put (at + 12 + len) (replicate n 0) c.put_bytes.new.bytes) count
    ∙ ap (put (at + 12 + len) zeros) (c.put_bytes.ensures ∙ ap (put (at + 12) value) (c.put_word-3.ensures ∙ ap (put (at + 8) (word c.args.offset)) (c.put_word-2.ensures ∙ ap (put (at + 4) (word len)) c.put_word.ensures)))
    ∙ put_parts at (word 3) (word len) (word c.args.offset) value zeros c.args.bytes.now refl refl refl (omega arith)
