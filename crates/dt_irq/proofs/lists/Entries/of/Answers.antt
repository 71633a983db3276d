use Rattle.std.proofs.Common.{sym, subst, refl}
use Rattle.dt_trees.specs.Placed.{path_at, reading_of, IsNode}
use Rattle.dt_resolve_model.specs.Answers.{answer, refused}
use Rattle.dt_resolve_model.specs.World.{tree_world}
use Rattle.dt_resolve_model.specs.Interrupts.{IsInterruptParent}
use Rattle.dt_irq.proofs.Senders.{sent_to_parent, sent_from}
use Rattle.dt_resolve_model.proofs.Told.{if_fault}
use Rattle.dt_irq.proofs.lists.Entries.of.Goals as goal

pub returns-in_err-parent-clause-refused : goal.returns-in_err-parent-clause-refused
returns-in_err-parent-clause-refused g c =
    let t = g.V.TreeView.tree c.args.view.now in
    let e = c.in_err-parent.field-0.0 in
    if_fault c.from_residual.result e _ c.from_residual.ensures.1
    (λ i. sent_to_parent (reading_of t) (path_at t c.args.node) i c.in-Some-value.list.now (refused e) (refused e) c.in_default.ensures c.in-Some-value.ensures c.in_err-parent.ensures.is refl)

pub returns-in_err-listed-clause-refused : goal.returns-in_err-listed-clause-refused
returns-in_err-listed-clause-refused g c =
    let t = g.V.TreeView.tree c.args.view.now in
    let e = c.in_err-listed.field-0.0 in
    if_fault c.from_residual-in_err-listed.result e _ c.from_residual-in_err-listed.ensures.1
    (λ i. sent_to_parent (reading_of t) (path_at t c.args.node) i c.in-Some-value.list.now (answer (path_at t c.in_ok-parent.parent)) (refused e) c.in_default.ensures c.in-Some-value.ensures c.in_ok-parent.ensures.is (sym (c.in_err-listed.ensures.refused i)))

pub returns-clause-left : goal.returns-clause-left
returns-clause-left g c =
    let t = g.V.TreeView.tree c.args.view.now in
    let p = path_at t c.args.node in
    let all = c.in_ok-listed.ensures.left in
    let same = c.in_ok-listed.ensures.parent in
    let parent = subst (λ k. IsInterruptParent (tree_world (reading_of t)) p (answer (path_at t k))) (sym same) c.in_ok-parent.ensures.is in
    record {
      parent = subst (IsNode t) (sym same) c.in_ok-parent.ensures.node;
      some = all.some;
      few = all.few;
      long = all.long;
      left = λ k. sent_from (reading_of t) p (path_at t c.in_ok-listed.listed.parent) c.in-Some-value.list.now k _ c.in_default.ensures c.in-Some-value.ensures parent (all.is k);
    }
