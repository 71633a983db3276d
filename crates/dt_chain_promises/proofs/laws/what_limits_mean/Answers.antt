use Rattle.dt_chain_promises.proofs.LimitOutcomes.{compiling_is_limited, raw_is_limited, applying_is_limited, building_is_limited}
use Rattle.dt_chain_promises.proofs.laws.what_limits_mean.Goals as goal

pub returns-clause-compiled : goal.returns-clause-compiled
returns-clause-compiled c = compiling_is_limited

pub returns-clause-raw : goal.returns-clause-raw
returns-clause-raw c = raw_is_limited

pub returns-clause-applied : goal.returns-clause-applied
returns-clause-applied c = applying_is_limited c.room_is_counted.ensures

pub returns-clause-built : goal.returns-clause-built
returns-clause-built c = building_is_limited c.room_is_counted.ensures
