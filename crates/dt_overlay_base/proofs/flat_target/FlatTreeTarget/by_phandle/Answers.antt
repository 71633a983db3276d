use Rattle.std.proofs.Common.{◌≡◌, Some, None, refl}
use Rattle.dt_overlay_base.proofs.Reached.{has-number, number-had}
use Rattle.dt_overlay_base.proofs.flat_target.FlatTreeTarget.by_phandle.Goals as goal

pub returns-in_ok-path-in-Some-clause-found : goal.returns-in_ok-path-in-Some-clause-found
returns-in_ok-path-in-Some-clause-found c =
    has-number c.args.self.now c.in_ok-path-in-Some.field-0 c.in-Some.node c.args.number c.in_ok-path-in-Some.ensures.value c.validity.ensures.cells ((c.in-Some.ensures.value c.in-Some.node).0 refl)

pub returns-in-None-clause-found : goal.returns-in-None-clause-found
returns-in-None-clause-found c p has =
    let at = number-had c.args.self.now p c.args.number c.ranges.number.fits has in
    let found : None ≡ Some at.0 = (c.in-None.ensures.value at.0).1 at.1 in
    cc
