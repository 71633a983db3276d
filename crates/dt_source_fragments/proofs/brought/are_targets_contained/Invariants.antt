-- All is as it has to be where it is so in what is left.
use Rattle.std.proofs.Common.{map, drop}
use Rattle.dt_model_laws.specs.OverlayChecks.{AreTargetsContained}
use Rattle.dt_source_fragments.specs.Fragments.{fragment_said}
use Rattle.dt_source_fragments.proofs.brought.are_targets_contained.Given as goal

abbrev pub invariant-loop-fragment : goal.invariant-loop-fragment
invariant-loop-fragment l = AreTargetsContained l.marks (map fragment_said (drop l.fragment-index l.fragments)) → AreTargetsContained l.marks (map fragment_said l.fragments)
