use Rattle.std.proofs.Common.{◌≡◌, ◌+◌, ◌-◌, ◌%◌, ◌∷◌, [], List, ℕ, length, ap, ◌∙◌, arith}
use Rattle.std.specs.Prelude.{replicate}
use Rattle.std.proofs.lemmas.List.{length-append, length-replicate}
use Rattle.dt_model.specs.Format.{word}
use Rattle.dt_model_format.specs.Strings.{terminated}
use Rattle.dt_edit.specs.Moving.{put}
use Rattle.dt_edit.proofs.Putting.{put_four}
use Rattle.dt_edit.proofs.moving.put_node.Goals as goal

pub returns : goal.returns
returns c =
    let at = c.args.at in
    let name = c.args.name.now in
    let len : ℕ = length name in
    let text : List ℕ = terminated name in
    let long : length text ≡ len + 1 = length-append name (0 ∷ []) in
    let count : at + c.padded_len-size.result - (at + 5 + len) ≡ (4 - (len + 1) % 4) % 4 = omega (arith, c.padded_len-size.ensures) in
    let zeros : List ℕ = replicate ((4 - (len + 1) % 4) % 4) 0 in
    let size : length zeros ≡ (4 - (len + 1) % 4) % 4 = length-replicate ((4 - (len + 1) % 4) % 4) 0 in
    let room = c.requires.room in
    let second : at + 5 + len ≡ at + 4 + length text = omega arith in
    let third : at + c.padded_len-size.result ≡ at + 4 + length text + length zeros = omega (arith, c.padded_len-size.ensures) in
    let first : c.put_name.new.bytes ≡ put (at + 4) text (put at (word 1) c.args.bytes.now) = c.put_name.ensures ∙ ap (put (at + 4) text) c.put_word.ensures in
    let padded_now : c.put_zeros.new.bytes ≡ put (at + 4 + length text) zeros c.put_name.new.bytes = c.put_zeros.ensures ∙ (λ i. put (second i) (replicate (count i) 0) c.put_name.new.bytes) in
    c.put_word-2.ensures ∙ (λ i. put (third i) (word 2) c.put_zeros.new.bytes)
    ∙ ap (put (at + 4 + length text + length zeros) (word 2)) (padded_now ∙ ap (put (at + 4 + length text) zeros) first)
    ∙ put_four at (word 1) text zeros (word 2) c.args.bytes.now (omega (arith, c.padded_len-size.ensures))
