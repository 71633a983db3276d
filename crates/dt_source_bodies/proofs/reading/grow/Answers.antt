use Rattle.std.proofs.Common.{length}
use Rattle.dt_model.specs.Source.{read_all, nothing}
use Rattle.dt_source_bodies.specs.Refusals.{mode_said}
use Rattle.dt_source_bodies.specs.declared.reading.Reading.{Reading}
use Rattle.dt_source_bodies.proofs.Targets.{grown_so_far}
use Rattle.dt_source_bodies.proofs.Wholes.{goes_on-is}
use Rattle.dt_source_bodies.proofs.reading.grow.Goals as goal

pub returns : goal.returns
returns c =
    let r : Reading = c.read_items.new.reading in
    let whole = c.in_ok-read_items.ensures.0 in
    let n = length c.args.items.now.places in
    let p = goes_on-is (read_all (mode_said c.args.mode) nothing c.args.items.now.places) r n c.in_ok-read_items.ensures.1 in
    (p.0, p.1, grown_so_far r n p.0 whole p.2)
