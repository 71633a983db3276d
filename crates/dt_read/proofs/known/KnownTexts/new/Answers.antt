use Rattle.std.proofs.Common.{ap}
use Rattle.std.proofs.lemmas.List.{get_or-replicate}
use Rattle.dt_read.specs.declared.known.KnownText.{KnownText}
use Rattle.dt_read.proofs.known.KnownTexts.new.Goals as goal

pub invariant_of-result : goal.invariant_of-result
invariant_of-result c = λ i lt other.
    absurd (other (ap (λ (t : KnownText). t.offset) (get_or-replicate 256 i (record { offset = 4294967295; len = 0 }) (record { offset = 4294967295; len = 0 }) lt)))
