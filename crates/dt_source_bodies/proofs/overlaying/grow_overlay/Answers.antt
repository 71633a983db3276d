use Rattle.std.proofs.Common.{length}
use Rattle.dt_source_bodies.specs.declared.reading.Reading.{Reading}
use Rattle.dt_source_bodies.proofs.Targets.{grown_so_far}
use Rattle.dt_source_bodies.proofs.overlaying.grow_overlay.Goals as goal

pub returns : goal.returns
returns c =
    let r : Reading = c.read_overlay_items.new.reading in
    let h = c.in_ok-read_overlay_items.ensures in
    (h.1, h.2, grown_so_far r (length c.args.items.now.places) h.1.source h.0 h.3)
