use Rattle.std.proofs.Common.{◌+◌, refl, map, sym, ap, subst, ◌∙◌, arith}
use Rattle.std.proofs.lemmas.Result.{err_from_is_err_and}
use Rattle.dt_source_fragments.specs.Fragments.{fragment_said}
use Rattle.dt_source_named_tree.specs.Said.{node_said}
use Rattle.dt_source_fragments.proofs.FragmentSteps.{AreSoFar, content_parent, no_fragment, one_fragment, not_targeted, all_fragments}
use Rattle.dt_source_fragments.proofs.fragments.fragments.Goals as goal
use Rattle.dt_source_fragments.proofs.fragments.fragments.Goals.{then-is_content+in_ok-push_fragment, else-is_content}

pub loop-node-init : goal.loop-node-init
loop-node-init c = subst (λ fs. AreSoFar c.args.nodes.now (map fragment_said fs) 0) (sym c.new-fragments.ensures.items) (record { nodes_are = refl; held = tt })

pub push_fragment-requires : goal.push_fragment-requires
push_fragment-requires c = content_parent c.args.nodes.now (node_said c.node-item.result) (sym c.is_content.ensures ∙ c.if-is_content.true)

pub returns-in_err-push_fragment : goal.returns-in_err-push_fragment
returns-in_err-push_fragment c =
    let e = err_from_is_err_and c.from_residual.result c.from_residual.ensures.1 in
    let why = c.in_err-push_fragment.ensures in
    rw (e.1, e.2) (
      why.0,
      not_targeted c.args.nodes.now (map fragment_said c.loop-node.fragments.items) c.loop-node.node-index c.node-item.result c.in_err-push_fragment.field-0.0.kind
          c.loop-node-test.true c.node-item.is (sym c.is_content.ensures ∙ c.if-is_content.true) c.loop-node.invariant why.1,
    )

pub loop-node-preserved : goal.loop-node-preserved
loop-node-preserved c = elim c.if-is_content.branch [
  | then-is_content+in_ok-push_fragment w ↦
      let m = w.in_ok-push_fragment.ensures in
      one_fragment c.args.nodes.now (map fragment_said c.loop-node.fragments.items) (map fragment_said c.if-is_content.fragments.items) c.loop-node.node-index c.node-item.result m.0
      c.loop-node-test.true c.node-item.is (sym c.is_content.ensures ∙ w.if-is_content.true) c.loop-node.invariant (ap (λ v. map fragment_said v.items) w.fragments-is ∙ m.1) m.2
  | else-is_content w ↦
      subst (λ v. AreSoFar c.args.nodes.now (map fragment_said v.items) (c.loop-node.node-index + 1)) (sym w.fragments-is)
      (no_fragment c.args.nodes.now (map fragment_said c.loop-node.fragments.items) c.loop-node.node-index c.node-item.result
      c.loop-node-test.true c.node-item.is (sym c.is_content.ensures ∙ w.if-is_content.false) c.loop-node.invariant)
]

pub returns : goal.returns
returns c = all_fragments c.args.nodes.now (map fragment_said c.loop-node.fragments.items) c.loop-node.node-index (omega (arith, c.loop-node-test.false)) c.loop-node.invariant
