use Rattle.std.proofs.Common.{◌≡◌, ◌+◌, ◌-◌, sym, ap, ◌∙◌, arith}
use Rattle.dt_trees.specs.Placed.{reading_of}
use Rattle.dt_resolve_model.specs.Answers.{Answer, refused, answer, ◌>>=◌}
use Rattle.dt_resolve_model.specs.World.{quads_of, tree_world, value_of_bytes}
use Rattle.dt_resolve_model.specs.Interrupts.{Entry, entry_sent, first_entry, is_ragged}
use Rattle.dt_irq.specs.Seen.{entry_in, sent_in}
use Rattle.dt_irq.specs.Spaces.{count_in}
use Rattle.dt_irq.proofs.Listing.{sent_first, sent_now, sent_later}
use Rattle.dt_resolve_model.proofs.Told.{told_fault}
use Rattle.dt_irq.proofs.sending.entry_sent.Goals as goal

pub returns-in_err-rest-clause-is : goal.returns-in_err-rest-clause-is
returns-in_err-rest-clause-is g c =
    let t = g.V.TreeView.tree c.args.view.now in
    let w = tree_world (reading_of t) in
    let e = c.in_err-rest.field-0.0 in
    let rest = quads_of c.loop-passed.rest.now in
    let ragged = is_ragged (value_of_bytes c.args.list.now) in
    let left = c.args.index - (c.loop-passed._passed + 1) in
    let first : first_entry w (count_in c.args.space w) ragged rest ≡ refused e = ap (λ b. first_entry w (count_in c.args.space w) b rest) (sym c.loop-passed.invariant.ragged) ∙ sym c.in_err-rest.ensures.is in
    told_fault c.from_residual.result e (sent_in t) c.from_residual.ensures.1
    ∙ ap (λ (x : Answer Entry). x >>= λ y. entry_sent w (count_in c.args.space w) ragged left y.rest) (sym first)
    ∙ sym (sent_later w (count_in c.args.space w) ragged (c.args.index - c.loop-passed._passed) left rest (omega arith))
    ∙ c.loop-passed.invariant.left

pub loop-passed-preserved : goal.loop-passed-preserved
loop-passed-preserved g c =
    let t = g.V.TreeView.tree c.args.view.now in
    let w = tree_world (reading_of t) in
    let entry = entry_in t c.in_ok-rest.field-0 in
    let rest = quads_of c.loop-passed.rest.now in
    let ragged = is_ragged (value_of_bytes c.args.list.now) in
    let left = c.args.index - (c.loop-passed._passed + 1) in
    let first : first_entry w (count_in c.args.space w) ragged rest ≡ answer entry = ap (λ b. first_entry w (count_in c.args.space w) b rest) (sym c.loop-passed.invariant.ragged) ∙ sym c.in_ok-rest.ensures.is in
    record {
      ragged = c.in_ok-rest.ensures.ragged ∙ c.loop-passed.invariant.ragged;
      left =
          ap (λ (x : Answer Entry). x >>= λ y. entry_sent w (count_in c.args.space w) ragged left y.rest) (sym first)
          ∙ sym (sent_later w (count_in c.args.space w) ragged (c.args.index - c.loop-passed._passed) left rest (omega arith))
          ∙ c.loop-passed.invariant.left;
    }

pub returns-in_err-first_entry-clause-is : goal.returns-in_err-first_entry-clause-is
returns-in_err-first_entry-clause-is g c =
    let t = g.V.TreeView.tree c.args.view.now in
    let w = tree_world (reading_of t) in
    let e = c.in_err-first_entry.field-0.0 in
    let rest = quads_of c.loop-passed.rest.now in
    let ragged = is_ragged (value_of_bytes c.args.list.now) in
    let first : first_entry w (count_in c.args.space w) ragged rest ≡ refused e = ap (λ b. first_entry w (count_in c.args.space w) b rest) (sym c.loop-passed.invariant.ragged) ∙ sym c.in_err-first_entry.ensures.is in
    told_fault c.from_residual-in_err-first_entry.result e (sent_in t) c.from_residual-in_err-first_entry.ensures.1
    ∙ ap sent_first (sym first)
    ∙ sym (sent_now w (count_in c.args.space w) ragged (c.args.index - c.loop-passed._passed) rest (omega arith))
    ∙ c.loop-passed.invariant.left

pub returns-clause-is : goal.returns-clause-is
returns-clause-is g c =
    let t = g.V.TreeView.tree c.args.view.now in
    let w = tree_world (reading_of t) in
    let entry = entry_in t c.in_ok-first_entry.field-0 in
    let rest = quads_of c.loop-passed.rest.now in
    let ragged = is_ragged (value_of_bytes c.args.list.now) in
    let first : first_entry w (count_in c.args.space w) ragged rest ≡ answer entry = ap (λ b. first_entry w (count_in c.args.space w) b rest) (sym c.loop-passed.invariant.ragged) ∙ sym c.in_ok-first_entry.ensures.is in
    ap sent_first (sym first)
    ∙ sym (sent_now w (count_in c.args.space w) ragged (c.args.index - c.loop-passed._passed) rest (omega arith))
    ∙ c.loop-passed.invariant.left
