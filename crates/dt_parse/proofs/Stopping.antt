-- Where reading stops: a fault shows here, or one part's stops are another's.
use Rattle.std.proofs.Common.{◌≡◌, length, sym}
use Rattle.dt_names.specs.declared.fault.FaultKind.{FaultKind}
use Rattle.dt_parse.specs.declared.stop.Stop.{Stop}
use Rattle.dt_grammar.specs.Words.{Words}
use Rattle.dt_grammar.specs.Wanted.{Wanted}
use Rattle.dt_grammar.specs.Faults.{Around, Shows, Breaks, shows}
use Rattle.dt_parse.specs.Reading.{IsBroken, no_memory, broken}

-- a fault that shows here
pub stopped : (a : Around) (g : Wanted) (ws : Words) (stop : Stop) → Shows a g ws stop.kind → stop.left ≡ length ws → IsBroken a g ws stop
stopped a g ws stop h e = broken ws (sym e) (shows a g ws stop.kind h)

-- where every break of one part is a break of another, every stop is
pub stops_too : (a b : Around) (g h : Wanted) (ws vs : Words) (stop : Stop) →
    ((k : FaultKind) (left : Words) → Breaks a g ws k left → Breaks b h vs k left) → IsBroken a g ws stop → IsBroken b h vs stop
stops_too a b g h ws vs stop f (no_memory e) = no_memory e
stops_too a b g h ws vs stop f (broken left e d) = broken left e (f stop.kind left d)
