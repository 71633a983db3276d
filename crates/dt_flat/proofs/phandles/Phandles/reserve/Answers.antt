use Rattle.std.proofs.Common.{◌-◌, ◌^◌, ◌∙◌}
use Rattle.dt_flat.specs.Numbers.{Table, table_of}
use Rattle.dt_flat.proofs.FirstFree.{holder-same, IsFirstFree-same}
use Rattle.dt_flat.proofs.phandles.Phandles.reserve.Goals as goal

pub invariant_of-self : goal.invariant_of-self
invariant_of-self c =
    let old : Table = table_of c.self.inside.holders in
    let new : Table = table_of c.reserve.new.self in (
      holder-same old new (2 ^ 32 - 1) c.reserve.ensures.entries ∙ c.self.invariant.0,
      IsFirstFree-same old new c.self.inside.first_free c.reserve.ensures.entries c.self.invariant.1,
    )
