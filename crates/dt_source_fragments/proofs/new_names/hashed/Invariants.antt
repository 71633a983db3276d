-- The set so far and what is left have all names.
use Rattle.std.proofs.Common.{◌≡◌, ◌||◌, drop}
use Rattle.dt_model.specs.Names.{Name}
use Rattle.dt_model.specs.Source.{is_among}
use Rattle.dt_source_fragments.specs.FragmentNames.{borrowed, has_name}
use Rattle.dt_source_fragments.proofs.new_names.hashed.Given as goal

abbrev pub invariant-loop-name : goal.invariant-loop-name
invariant-loop-name l = (x : Name) → (has_name l.hashed x || is_among x (borrowed (drop l.name-index l.names))) ≡ is_among x (borrowed l.names)
