use Rattle.std.proofs.Common.{◌∙◌, sym, ap, is_some}
use Rattle.dt_overlay_base.proofs.Reached.{stands-led}
use Rattle.dt_overlay_base.proofs.flat_target.FlatTreeTarget.find.Goals as goal

pub returns : goal.returns
returns c = c.is_some.ensures ∙ ap is_some c.node.ensures ∙ sym (stands-led c.args.self.now c.args.path.now)
