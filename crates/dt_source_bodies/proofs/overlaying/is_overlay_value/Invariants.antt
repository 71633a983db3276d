-- What is left decides as the whole value does.
use Rattle.std.proofs.Common.{◌≡◌, drop}
use Rattle.std.specs.List.{list_any}
use Rattle.dt_source_bodies.proofs.OverlaySteps.{is_refused}
use Rattle.dt_source_bodies.proofs.overlaying.is_overlay_value.Given as goal

abbrev pub invariant-loop-piece : goal.invariant-loop-piece
invariant-loop-piece l = list_any is_refused (drop l.piece-index l.value.pieces.now) ≡ list_any is_refused l.value.pieces.now
