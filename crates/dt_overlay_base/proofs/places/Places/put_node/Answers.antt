use Rattle.std.proofs.Common.{sym, subst}
use Rattle.dt_overlay_base.specs.Known.{IsKnown}
use Rattle.dt_overlay_base.proofs.places.Places.put_node.Goals as goal

pub returns-clause-known : goal.returns-clause-known
returns-clause-known c base given landed known =
    let before = subst (IsKnown base given landed) (sym c.self.view_is) known in
    record { places = before.places; numbers = before.numbers; paths = before.paths; low = before.low; high = before.high }
