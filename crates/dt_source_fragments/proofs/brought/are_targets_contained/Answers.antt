use Rattle.std.proofs.Common.{sym}
use Rattle.dt_source_fragments.specs.Fragments.{fragment_said}
use Rattle.dt_source_fragments.proofs.FragmentSteps.{item_in}
use Rattle.dt_source_fragments.proofs.brought.are_targets_contained.Goals as goal

pub returns-then-not-is_target_within-clause-not : goal.returns-then-not-is_target_within-clause-not
returns-then-not-is_target_within-clause-not c = λ e. (
  fragment_said c.fragment-item.result,
  item_in fragment_said c.args.fragments.now c.loop-fragment.fragment-index c.fragment-item.result c.loop-fragment-test.true c.fragment-item.is,
  sym c.if-not-is_target_within.ensures,
)
