use Rattle.std.proofs.Common.{◌∙◌, sym}
use Rattle.dt_model.proofs.Tests.{bytes_eq_true}
use Rattle.dt_flat.proofs.NameLemmas.{text-there}
use Rattle.dt_flat.proofs.names.NameTable.find_recent.Goals as goal

pub returns-then-eq : goal.returns-then-eq
returns-then-eq c =
    let at = text-there c.self.inside.names.keys c.args.self.now c.number-id.result c.in_ok-found.found.now c.self.view_is (sym c.in_ok-found.ensures.key) in
    (at.0, at.1 ∙ sym c.as_slice.ensures ∙ bytes_eq_true c.as_slice.result.now c.args.name.now (sym c.if-eq.ensures))
