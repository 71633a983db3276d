use Rattle.dt_write.proofs.Puts.{PropertiesLeft}
use Rattle.dt_write.proofs.structure.put_properties.Given as goal

abbrev pub invariant-loop-name : goal.invariant-loop-name
invariant-loop-name l = PropertiesLeft l.fn.strings l.fn.props l.name-iterator l.fn.out.items l.out.items
