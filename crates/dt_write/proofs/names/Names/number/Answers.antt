use Rattle.std.proofs.Common.{◌≡◌, ◌<◌, [], false, List, length, get_or, subst}
use Rattle.std.specs.Prelude.{IfSome, IfNone}
use Rattle.dt_model.specs.Names.{Name}
use Rattle.dt_write.specs.Written.{has}
use Rattle.dt_write.proofs.TreeNames.{key_found, key_missing}
use Rattle.dt_write.proofs.names.Names.number.Goals as goal

pub returns-in-None-clause-is : goal.returns-in-None-clause-is
returns-in-None-clause-is c =
    subst (λ (ns : List Name). IfSome c.get_index_of.result (λ i. (i < length ns) × (get_or ns i [] ≡ c.args.name.now))) c.self.view_is
    (key_found c.self.inside.set.keys c.args.name c.get_index_of.result c.get_index_of.ensures.index)

pub returns-in-None-clause-none : goal.returns-in-None-clause-none
returns-in-None-clause-none c =
    subst (λ (ns : List Name). IfNone c.get_index_of.result (has ns c.args.name.now ≡ false)) c.self.view_is
    (key_missing c.self.inside.set.keys c.args.name.now c.get_index_of.result c.get_index_of.ensures.found)
