use Rattle.std.proofs.Common.{◌≡◌, ◌<◌, [], List, length, get_or, sym, ◌∙◌, subst}
use Rattle.dt_model.specs.Names.{Name}
use Rattle.dt_model.proofs.Tests.{bytes_eq_true}
use Rattle.dt_write.proofs.TreeNames.{key_at}
use Rattle.dt_write.proofs.names.Names.if_number_of.Goals as goal

pub returns-then-eq : goal.returns-then-eq
returns-then-eq c =
    let number = c.args.number in
    let at = key_at c.self.inside.set.keys number c.in_ok-found.found.now (sym c.in_ok-found.ensures.key) in
    subst (λ (ns : List Name). (number < length ns) × (get_or ns number [] ≡ c.args.name.now)) c.self.view_is (at.0, at.1 ∙ bytes_eq_true c.in_ok-found.found.now.now c.args.name.now (sym c.if-eq.ensures))
