use Rattle.std.proofs.Common.{refl}
use Rattle.dt_model.specs.Event.{age_by}
use Rattle.dt_model.specs.Rows.{events, meaning, written_phandle}
use Rattle.dt_model_laws.specs.Premises.{instance_written_phandle}
use Rattle.dt_model_laws.proofs.CheckedOrders.{ordered}
use Rattle.dt_model_laws.proofs.premises.written_phandle_is_in_order.Goals as goal

pub returns : goal.returns
unfolding age_by
returns c = ordered (events written_phandle) (meaning written_phandle) instance_written_phandle refl
