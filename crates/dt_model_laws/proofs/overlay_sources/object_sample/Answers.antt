use Rattle.std.specs.Fmt.{digits}
use Rattle.std.proofs.Common.{◌≡◌, refl, sym, rules, arith}
use Rattle.dt_model.specs.Fixups.{with_fixups}
use Rattle.dt_model.specs.Instance.{instance_of, symbols_of, with_symbols}
use Rattle.dt_model.specs.Rows.{two_cells}
use Rattle.dt_model_laws.specs.ObjectSample.{two_cells_named, two_cells_targets, two_cells_numbered}
use Rattle.dt_model_laws.proofs.WorkedObject.{two_cells_is_named}
use Rattle.dt_model_laws.proofs.overlay_sources.object_sample.Goals as goal

compiled : with_fixups two_cells_named (with_symbols (symbols_of two_cells_named) (instance_of two_cells_numbered two_cells_named)) ≡ two_cells
unfolding digits
compiled = refl

pub returns-clause-named : goal.returns-clause-named
returns-clause-named c = two_cells_is_named

pub returns-clause-compiled : goal.returns-clause-compiled
returns-clause-compiled c = compiled

pub returns-clause-object : goal.returns-clause-object
returns-clause-object c = record {
  named = two_cells_named;
  fragments = two_cells_targets;
  of_places = two_cells_is_named;
  numbers = two_cells_numbered;
  numbering = search (rules, arith);
  is = sym compiled;
}
