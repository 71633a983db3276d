use Rattle.dt_model_laws.proofs.ObjectLaws.{short_object_encodes}
use Rattle.dt_model_laws.proofs.ShortValues.{read_values_are_short}
use Rattle.dt_model_laws.proofs.objects.object_encodes.Goals as goal

pub returns-clause-encodes : goal.returns-clause-encodes
returns-clause-encodes c = short_object_encodes

pub returns-clause-short : goal.returns-clause-short
returns-clause-short c = read_values_are_short
