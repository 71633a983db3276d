use Rattle.std.proofs.Common.{◌≡◌, ◌<◌, subst, List, length}
use Rattle.std.specs.Prelude.{MatchOption}
use Rattle.dt_model.specs.Names.{Name}
use Rattle.dt_flat.specs.Names.{text, IsUnknown}
use Rattle.dt_flat.proofs.NameLemmas.{found}
use Rattle.dt_flat.proofs.names.NameTable.look_up.Goals as goal

pub returns : goal.returns
returns c =
    subst (λ (names : List Name). MatchOption c.get_index_of.result (IsUnknown names c.args.name.now) (λ id. (id < length names) × (text names id ≡ c.args.name.now))) c.self.view_is
    (found c.self.inside.names.keys c.args.name.now c.get_index_of.result c.get_index_of.ensures.index)
