use Rattle.dt_chain_promises.proofs.ResolvedMeanings.{building_is_resolved, applying_is_resolved, compiling_is_resolved}
use Rattle.dt_chain_promises.proofs.laws.what_building_resolves.Goals as goal

pub returns-clause-built : goal.returns-clause-built
returns-clause-built c = building_is_resolved c.what_building_means.ensures.merged c.meaning_is_resolved.ensures

pub returns-clause-applied : goal.returns-clause-applied
returns-clause-applied c = applying_is_resolved c.what_applying_means.ensures.merged c.meaning_is_resolved.ensures

pub returns-clause-compiled : goal.returns-clause-compiled
returns-clause-compiled c = compiling_is_resolved c.what_compiling_means.ensures.base c.meaning_is_resolved.ensures
