-- The steps that are left at a place of a structure block.
use Rattle.std.specs.Prelude.{List, [], ◌∷◌}
use Rattle.dt_read.specs.declared.steps.Step.TheVariants as code
use Rattle.dt_read.specs.declared.steps.Step as declared
use Rattle.dt_read.specs.declared.steps.NodeStep as declared_node
use Rattle.dt_read.specs.declared.steps.NodeStep.TheVariants as node_code
use Rattle.dt_read.specs.Marks.{Mark, begin_mark, end_mark, prop_mark, nop_mark, last_mark}
use Rattle.dt_read.specs.Walked.{Step, opens, holds, closes}

-- the steps that tokens are, up to the last one
abbrev pub steps_left : List Mark → List Step
steps_left [] = []
steps_left (begin_mark place name ∷ marks) = opens place name ∷ steps_left marks
steps_left (prop_mark p ∷ marks) = holds p ∷ steps_left marks
steps_left (end_mark ∷ marks) = closes ∷ steps_left marks
steps_left (nop_mark ∷ marks) = steps_left marks
steps_left (last_mark ∷ marks) = []

-- a step, without where it lies in memory
abbrev pub step_view : declared.Step → Step
step_view (code.Open node name) = opens node name.now
step_view (code.Property name value) = holds (record { name = name.now; value = value.now })
step_view code.Close = closes

-- the same of a step of a walk through the nodes alone
abbrev pub node_step_view : declared_node.NodeStep → Step
node_step_view (node_code.Open node name) = opens node name.now
node_step_view node_code.Close = closes
