use Rattle.dt_names.specs.declared.fault.FaultKind.TheVariants.{Overflow}
use Rattle.dt_resolve_model.proofs.Told.{refuses}
use Rattle.std.proofs.Common.{◌∙◌, ◌+◌, sym, arith}
use Rattle.dt_ranges.proofs.RangesMap.{too_far}
use Rattle.dt_ranges.proofs.translating.raised.Goals as goal

pub returns-in-None : goal.returns-in-None
returns-in-None c = refuses c.of-in-None.result Overflow c.of-in-None.ensures.kind c.of-in-None.ensures.at ∙ (sym (too_far c.args.cells (c.args.begin + c.args.distance) c.args.whole c.requires (omega (arith, c.in-None.ensures))))
