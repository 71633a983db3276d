use Rattle.std.proofs.Common.{◌≡◌, ◌*◌, ◌++◌, take, drop}
use Rattle.std.specs.List.{flat_map}
use Rattle.dt_model.specs.Format.{word}
use Rattle.dt_write.proofs.words.set_words.Given as goal

abbrev pub invariant-loop-place : goal.invariant-loop-place
invariant-loop-place l = l.bytes ≡ flat_map word (take l.place l.numbers) ++ drop (4 * l.place) l.initial.bytes
