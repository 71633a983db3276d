use Rattle.std.proofs.Common.{◌≡◌, sym, ap, ◌∙◌}
use Rattle.dt_trees.specs.Placed.{reading_of}
use Rattle.dt_resolve_model.specs.Answers.{answer, refused}
use Rattle.dt_resolve_model.specs.World.{quads_of, tree_world, value_of_bytes}
use Rattle.dt_resolve_model.specs.Interrupts.{cells_from, first_entry, is_ragged}
use Rattle.dt_resolve_model.proofs.Told.{told_fault}
use Rattle.dt_irq.specs.Seen.{entry_in, sent_in}
use Rattle.dt_irq.specs.Spaces.{count_in}
use Rattle.dt_irq.proofs.Listing.{sent_first}
use Rattle.dt_irq.proofs.sending.sent_at.Goals as goal

pub returns-in_err-first_entry-clause-is : goal.returns-in_err-first_entry-clause-is
returns-in_err-first_entry-clause-is g c =
    let t = g.V.TreeView.tree c.args.view.now in
    let w = tree_world (reading_of t) in
    let count = count_in c.args.space w in
    let e = c.in_err-first_entry.field-0.0 in
    let rest = c.list_from.result.now in
    let first : first_entry w count (is_ragged (value_of_bytes c.args.list.now)) (cells_from c.args.at (quads_of c.args.list.now)) ≡ refused e =
    ap (λ b. first_entry w count b (cells_from c.args.at (quads_of c.args.list.now))) (sym c.list_from.ensures.ragged)
    ∙ ap (first_entry w count (is_ragged (value_of_bytes rest))) (sym c.list_from.ensures.cells) ∙ sym c.in_err-first_entry.ensures.is in
    told_fault c.from_residual.result e (sent_in t) c.from_residual.ensures.1 ∙ ap sent_first (sym first)

pub returns-clause-is : goal.returns-clause-is
returns-clause-is g c =
    let t = g.V.TreeView.tree c.args.view.now in
    let w = tree_world (reading_of t) in
    let count = count_in c.args.space w in
    let entry = entry_in t c.in_ok-first_entry.field-0 in
    let rest = c.list_from.result.now in
    let first : first_entry w count (is_ragged (value_of_bytes c.args.list.now)) (cells_from c.args.at (quads_of c.args.list.now)) ≡ answer entry =
    ap (λ b. first_entry w count b (cells_from c.args.at (quads_of c.args.list.now))) (sym c.list_from.ensures.ragged)
    ∙ ap (first_entry w count (is_ragged (value_of_bytes rest))) (sym c.list_from.ensures.cells) ∙ sym c.in_ok-first_entry.ensures.is in
    ap sent_first (sym first)
