use Rattle.std.proofs.lemmas.List.{get_or-replicate}
use Rattle.dt_read.proofs.known.KnownNames.new.Goals as goal

pub invariant_of-result : goal.invariant_of-result
invariant_of-result c = λ i lt other. absurd (other (get_or-replicate 256 i 4294967295 0 lt))
