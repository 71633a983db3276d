use Rattle.std.proofs.Common.{◌<◌, length, ap, arith}
use Rattle.std.proofs.lemmas.Result.{on_ok_weaker}
use Rattle.dt_names.proofs.PathTexts.{path_some}
use Rattle.dt_names.proofs.path.Path.write_to.Goals as goal

pub returns-clause-works : goal.returns-clause-works
returns-clause-works g c =
    let some : 0 < length c.text.result.now = omega (arith, path_some c.args.self.now, ap length c.text.ensures) in
    on_ok_weaker c.put_all.result (λ h. h some) c.put_all.ensures.works
