use Rattle.std.proofs.Common.{◌+◌, ◌*◌, ◌≤◌, length, get_or, refl, arith}
use Rattle.dt_write.proofs.WordLemmas.{word_set, was_true}
use Rattle.dt_write.proofs.words.set_words.Goals as goal

pub loop-place-preserved : goal.loop-place-preserved
loop-place-preserved c =
    let i = c.loop-place.place in
    let room : 4 * i + 4 ≤ length c.loop-place.bytes = omega (arith, c.loop-place-test.true, c.requires, c.loop-place.auto.bytes) in
    word_set c.args.numbers.now i (get_or c.args.numbers.now i 0) c.args.bytes.now c.loop-place.bytes c.put32.new.bytes c.loop-place-test.true refl c.loop-place.invariant
    (was_true c.put32.result (c.put32.ensures.written.1 room) c.put32.ensures.number)
