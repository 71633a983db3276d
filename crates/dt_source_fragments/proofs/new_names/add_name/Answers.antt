use Rattle.dt_source_fragments.proofs.NamesMade.{has_more}
use Rattle.dt_source_fragments.proofs.new_names.add_name.Goals as goal

pub returns : goal.returns
returns c = λ x. has_more c.args.names.now c.insert.new.self c.args.name c.in_ok-insert.ensures.updates x
