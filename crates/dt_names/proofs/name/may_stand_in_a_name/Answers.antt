use Rattle.std.proofs.Common.{refl, arith}
use Rattle.dt_model.specs.Names.{is_name_byte}
use Rattle.dt_names.specs.declared.name.TheConstants.{CLASSES}
use Rattle.dt_names.proofs.Tables.{agree_below, from_table}
use Rattle.dt_names.proofs.name.may_stand_in_a_name.Goals as goal

pub returns : goal.returns
unfolding agree_below
returns c = from_table CLASSES 1 is_name_byte c.args.byte (omega arith) refl
