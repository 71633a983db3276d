-- A small overlay means a named tree.
use Rattle.std.proofs.Common.{List, Result, Ok, Err, refl, rules, arith}
use Rattle.std.specs.Fmt.{digits}
use Rattle.dt_model.specs.Path.{Path}
use Rattle.dt_model.specs.Event.{age_by}
use Rattle.dt_model.specs.OverlaySource.{OverlaySoFar, OverlayRefusal, overlay_start}
use Rattle.dt_model.specs.NamedOverlay.{IsNamedOverlayOf}
use Rattle.dt_model.specs.Named.{paths_of}
use Rattle.dt_model.specs.Rows.{overlay_read, two_cells_source, two_cells_fragments}
use Rattle.dt_model_laws.specs.ObjectSample.{two_cells_named, two_cells_targets}
use Rattle.dt_model_laws.proofs.CheckedExamples.{two_cells_names}
use Rattle.dt_model_laws.proofs.CheckedNamedOverlays.{IsCheckedNamedOverlay, checked_overlay}

abbrev read_or_start : Result OverlaySoFar OverlayRefusal → OverlaySoFar
read_or_start (Ok s) = s
read_or_start (Err e) = overlay_start

abbrev after : OverlaySoFar
after = read_or_start (overlay_read two_cells_source)

abbrev paths : List Path
paths = paths_of two_cells_named

checked : IsCheckedNamedOverlay two_cells_source after paths two_cells_names two_cells_fragments two_cells_named two_cells_targets
unfolding digits age_by
checked = record {
  all_read = refl;
  is_read = search rules;
  reservations = refl;
  tree = record {
    placed = refl;
    nodes = refl;
    values = search rules;
    referred = search (rules, arith);
    ordered = refl;
  };
  fragments_are = search (rules, arith);
}

pub two_cells_is_named : IsNamedOverlayOf two_cells_source two_cells_named two_cells_targets
two_cells_is_named = checked_overlay two_cells_source after paths two_cells_names two_cells_fragments two_cells_named two_cells_targets checked
