-- The bytes from the index on decide as all do.
use Rattle.std.proofs.Common.{◌≡◌, drop}
use Rattle.dt_model.specs.Printed.{are_texts as are_texts_of, ends_texts}
use Rattle.dt_decompile.proofs.texts.are_texts.Given as goal

abbrev pub invariant-loop-byte : goal.invariant-loop-byte
invariant-loop-byte l = are_texts_of l.value ≡ ends_texts l.begins (drop l.byte-index l.value)
