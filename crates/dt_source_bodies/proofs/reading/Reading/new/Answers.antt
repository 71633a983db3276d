use Rattle.std.proofs.Common.{ap}
use Rattle.dt_source_growing.specs.Growing.{item_of}
use Rattle.dt_source_bodies.specs.declared.reading.Reading.{Reading}
use Rattle.dt_source_bodies.proofs.Wholes.{holds_nothing}
use Rattle.dt_source_bodies.proofs.reading.Reading.new.Goals as goal

pub returns-clause-meaning : goal.returns-clause-meaning
returns-clause-meaning c =
    let r : Reading = record { growing = c.in_ok-growing.growing; bodies = c.new-2.result } in
    holds_nothing r c.in_ok-growing.ensures.nodes c.new-2.ensures.items (λ i x. ap (λ es. item_of es i x) c.in_ok-growing.ensures.children) (λ i x. ap (λ es. item_of es i x) c.in_ok-growing.ensures.indices)
