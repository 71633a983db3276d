-- The objects of the inputs so far are applied.
use Rattle.std.proofs.Common.{map, take}
use Rattle.dt_flat.specs.Arena.{reading}
use Rattle.dt_chain_promises.specs.Apply.{AreSteps}
use Rattle.dt_chain.proofs.in_turn.apply_all.Given as goal

abbrev pub invariant-loop-k : goal.invariant-loop-k
invariant-loop-k g l = AreSteps g.I.Inputs.has_object (reading l.fn.tree) (take l.k (map (λ x. x.now) l.inputs)) (reading l.tree)
