use Rattle.std.proofs.Common.{◌≡◌}
use Rattle.dt_write.specs.Written.{used_by}
use Rattle.dt_write.proofs.names.Names.note_properties.Given as goal

-- the names of what is left lead to those of all
abbrev pub invariant-loop-name : goal.invariant-loop-name
invariant-loop-name l = used_by l.self l.name-iterator ≡ used_by l.initial.self l.fn.props
