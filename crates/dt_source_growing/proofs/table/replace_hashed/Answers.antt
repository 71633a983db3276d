use Rattle.dt_source_growing.proofs.TableLemmas.{puts_from_updates}
use Rattle.dt_source_growing.proofs.table.replace_hashed.Goals as goal

pub returns-clause-ok : goal.returns-clause-ok
returns-clause-ok c = λ j y. puts_from_updates c.args.hashed.now c.insert.new.self (c.args.owner, record { bytes = c.args.name }) _ c.in_ok-before.ensures.updates j y
