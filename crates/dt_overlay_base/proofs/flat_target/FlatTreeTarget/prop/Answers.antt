use Rattle.std.proofs.Common.{◌∙◌, sym, ap}
use Rattle.std.specs.Option.{option_copied}
use Rattle.dt_flat.proofs.Descent.{path-within}
use Rattle.dt_overlay_base.proofs.Reached.{value-led, no-value-led}
use Rattle.dt_overlay_base.proofs.flat_target.FlatTreeTarget.prop.Goals as goal

pub returns-in_err-node : goal.returns-in_err-node
returns-in_err-node c = ap option_copied c.from_residual.ensures ∙ sym (no-value-led c.args.self.now c.args.path.now c.args.name.now (sym c.node.ensures ∙ c.in_err-node.was))

pub value-requires : goal.value-requires
value-requires c = path-within c.args.self.now.slots c.args.path.now 0 c.in_ok-node.node c.validity.ensures.rooted.some (sym c.node.ensures ∙ c.in_ok-node.was)

pub returns : goal.returns
returns c = c.value.ensures ∙ sym (value-led c.args.self.now c.args.path.now c.in_ok-node.node c.args.name.now (sym c.node.ensures ∙ c.in_ok-node.was))
