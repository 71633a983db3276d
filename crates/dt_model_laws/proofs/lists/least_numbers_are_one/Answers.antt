use Rattle.dt_model_laws.proofs.LeastNumbers.{numbers_are_there, numbers_are_one}
use Rattle.dt_model_laws.proofs.lists.least_numbers_are_one.Goals as goal

pub returns-clause-there : goal.returns-clause-there
returns-clause-there c = numbers_are_there

pub returns-clause-one : goal.returns-clause-one
returns-clause-one c = numbers_are_one
