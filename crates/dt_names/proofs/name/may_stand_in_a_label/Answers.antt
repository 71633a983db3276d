use Rattle.std.proofs.Common.{refl, arith}
use Rattle.std.specs.Prelude.{◌||◌, ◌==◌}
use Rattle.dt_model.specs.Names.{is_letter, is_digit}
use Rattle.dt_names.specs.declared.name.TheConstants.{CLASSES}
use Rattle.dt_names.proofs.Tables.{agree_below, from_table}
use Rattle.dt_names.proofs.name.may_stand_in_a_label.Goals as goal

pub returns : goal.returns
unfolding agree_below
returns c = from_table CLASSES 2 (λ b. is_letter b || is_digit b || (b == 95)) c.args.byte (omega arith) refl
