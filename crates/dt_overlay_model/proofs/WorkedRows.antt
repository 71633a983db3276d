-- The rows, by computing.
use Rattle.std.proofs.Common.{refl}
use Rattle.dt_overlay_model.specs.Rows.{RowsAreJoined}

pub rows_are_joined : RowsAreJoined
rows_are_joined = record {
  on_a_numbered_node = refl;
  on_one_path = refl;
  one_new = refl;
  on_a_joined_node = refl;
  before_it_lands = refl;
  two_labels = refl;
}
