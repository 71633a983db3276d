use Rattle.std.proofs.Common.{◌≡◌, ◌++◌, map}
use Rattle.dt_model.specs.Source.{label}
use Rattle.dt_parse.proofs.body.push_labels.Given as goal

abbrev pub invariant-loop-name : goal.invariant-loop-name
invariant-loop-name l = l.items.places ≡ l.fn.items.places ++ map label l.yielded
