use Rattle.std.proofs.Common.{ap, ◌∙◌}
use Rattle.dt_read.specs.StepsLeft.{steps_left}
use Rattle.dt_read.specs.Walked.{steps_of, without_properties}
use Rattle.dt_read.specs.Pairs.{pairs_of}
use Rattle.dt_read.proofs.StepLemmas.{steps_of_tree}
use Rattle.dt_read.proofs.blob.Blob.node_steps.Goals as goal

pub returns : goal.returns
returns c = c.new.ensures ∙ ap without_properties (ap steps_left c.start.ensures.tokens ∙ steps_of_tree c.self.inside.boot_cpu (pairs_of c.self.inside.reservations.now) c.self.inside.structure ∙ ap steps_of c.self.view_is)
