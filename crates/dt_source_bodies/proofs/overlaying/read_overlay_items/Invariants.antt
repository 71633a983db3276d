-- What is left is read as the whole is.
use Rattle.std.proofs.Common.{◌≡◌, ◌<◌, None, List, drop, length}
use Rattle.dt_model.specs.Source.{Place}
use Rattle.dt_model.specs.OverlaySource.{OverlaySoFar, root_children, read_overlays}
use Rattle.dt_source_bodies.specs.Arena.{IsLeft, all_overlay}
use Rattle.dt_source_bodies.specs.Reading.{Holds, IsWhole}
use Rattle.dt_source_bodies.proofs.overlaying.read_overlay_items.Given as goal

abbrev pub invariant-loop-item : goal.invariant-loop-item
invariant-loop-item l =
    let places : List Place = l.items.places in
    let rest : List Place = drop l.item l.items.places in
    record {
      whole : IsWhole l.reading;
      rooted : 0 < length l.reading.growing.nodes.items;
      goes : (s : OverlaySoFar) × (read_overlays (root_children None places) s rest ≡ all_overlay places) × Holds l.reading l.item s.source
          × IsLeft (root_children None places) l.arena l.used s.next rest;
    }
