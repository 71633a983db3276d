use Rattle.std.proofs.Common.{ap, length, List, arith}
use Rattle.dt_flat.specs.Arena.{Slot}
use Rattle.dt_flat.specs.Rows.{owned}
use Rattle.dt_flat.proofs.PlaceLemmas.{length-slots}
use Rattle.dt_flat.proofs.places.Places.len.Goals as goal

pub returns : goal.returns
returns c =
    omega (arith, c.len.ensures.len, length-slots c.self.inside.names (owned c.self.inside.names c.self.inside.properties) c.self.inside.nodes, ap (λ (slots : List Slot). length slots) c.self.view_is)
