use Rattle.dt_model.proofs.NameTests.{node_tests, property_tests}
use Rattle.dt_model_format.proofs.laws.name_tests.Goals as goal

pub returns : goal.returns
returns c = record { nodes = node_tests; properties = property_tests }
