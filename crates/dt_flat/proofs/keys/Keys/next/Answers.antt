use Rattle.std.proofs.Common.{ap, ℕ, List, length, arith}
use Rattle.dt_flat.specs.Rows.{Row}
use Rattle.dt_flat.proofs.RowLemmas.{length-nodes}
use Rattle.dt_flat.proofs.keys.Keys.next.Goals as goal

pub next-requires : goal.next-requires
next-requires c =
    (c.requires.0, omega (arith, c.requires.1, ap (λ (rs : List Row). length rs) c.self.view_is, length-nodes c.self.inside.rows.items, ap (λ (ps : List ℕ). length ps) c.self.invariant.0))
