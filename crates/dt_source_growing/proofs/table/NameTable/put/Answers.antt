use Rattle.dt_source_growing.proofs.TableLemmas.{puts_name_from_updates}
use Rattle.dt_source_growing.proofs.table.NameTable.put.Goals as goal

pub returns-clause-ok : goal.returns-clause-ok
returns-clause-ok c =
    λ y. puts_name_from_updates c.args.self.now.map c.insert.new.self (record { bytes = c.args.name }) _ c.in_ok-insert.ensures.updates y
