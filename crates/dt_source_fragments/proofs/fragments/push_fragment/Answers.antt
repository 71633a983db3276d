use Rattle.std.proofs.Common.{map, sym, ap, subst, ◌∙◌}
use Rattle.std.proofs.lemmas.List.{map-append}
use Rattle.dt_model_laws.specs.OverlayChecks.{HoldTarget}
use Rattle.dt_source_fragments.specs.Fragments.{target_said, fragment_said}
use Rattle.dt_source_named_tree.specs.Said.{property_said}
use Rattle.dt_source_fragments.proofs.FragmentSteps.{properties_there}
use Rattle.dt_source_fragments.proofs.fragments.push_fragment.Goals as goal

pub returns : goal.returns
returns c = (
  target_said c.in_ok-target.target,
  ap (λ fs. map fragment_said fs) c.in_ok-push.ensures.items ∙ map-append fragment_said c.args.fragments.now.items _,
  subst (λ ps. HoldTarget ps (target_said c.in_ok-target.target)) (sym (properties_there c.args.nodes.now c.args.number c.index-nodes-number.result c.requires c.index-nodes-number.is))
      (subst (λ qs. HoldTarget (map property_said qs) (target_said c.in_ok-target.target)) (c.deref.ensures.value ∙ ap (λ n. n.properties.items) (sym c.index-nodes-number.is)) c.in_ok-target.ensures),
)
