use Rattle.std.proofs.Common.{subst, List, Some}
use Rattle.dt_overlay_landing.specs.Values.{Kept, Keeps, values_kept}
use Rattle.dt_overlay_landing.proofs.ValuesKept.{kept_after}
use Rattle.dt_overlay_landing.proofs.values.Values.put.Goals as goal

pub returns : goal.returns
returns c =
    subst (λ (a : List Kept). Keeps a (values_kept c.insert.new.self.entries) c.args.node c.args.name.now (Some c.args.value.items)) c.self.view_is
    (kept_after c.self.inside.map c.insert.new.self (c.args.node, c.args.name) (Some c.args.value) c.in_ok-insert.ensures.updates)
