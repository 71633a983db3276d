use Rattle.std.proofs.Common.{◌∙◌}
use Rattle.dt_model.proofs.NameTests.{node_tests}
use Rattle.dt_read.proofs.NameTests.{same_test}
use Rattle.dt_read.proofs.name.may_name_a_node.Goals as goal

pub returns : goal.returns
returns c = c.is_ok.ensures.value ∙ same_test _ _ c.new.ensures.valid (node_tests c.args.name.now)
