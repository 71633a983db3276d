use Rattle.dt_resolve_model.proofs.Worlds.{written_found}
use Rattle.dt_resolve_model.proofs.laws.written_numbers_are_found.Goals as goal

pub returns : goal.returns
returns c = λ t m number p n of e. written_found t m number p n of e
