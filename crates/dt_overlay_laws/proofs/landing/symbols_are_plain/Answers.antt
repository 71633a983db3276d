use Rattle.dt_overlay_laws.proofs.PlainSymbols.{symbols_are_plain}
use Rattle.dt_overlay_laws.proofs.landing.symbols_are_plain.Goals as goal

pub returns : goal.returns
returns c = symbols_are_plain
