use Rattle.std.proofs.Common.{rules, ◌≡◌, Some, codes}
use Rattle.dt_model.specs.Tree.{value_in}
use Rattle.dt_overlay_base.proofs.LooksNumbers.{number_read}
use Rattle.dt_overlay_base.proofs.looks.number_there.Goals as goal

pub returns-in-Some : goal.returns-in-Some
returns-in-Some g c given got =
    let base = g.T.Target.reading c.args.target.now in
    let there : value_in base c.args.path.now (codes "phandle") ≡ Some c.in-Some.value.now = search rules in
    number_read base given c.args.path.now c.in-Some.value.now c.phandle_of.result c.validity.ensures.valid there c.phandle_of.ensures.valid c.phandle_of.ensures.number
