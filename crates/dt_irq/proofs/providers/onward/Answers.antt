use Rattle.std.proofs.Common.{◌≡◌, ℕ, ◌-◌, ◌/◌, List, take, length, replicate, sym, ap, ◌∙◌}
use Rattle.std.specs.Prelude.{option_map}
use Rattle.std.specs.Option.{option_copied}
use Rattle.dt_trees.specs.Placed.{path_at, reading_of}
use Rattle.dt_resolve_model.specs.Answers.{Answer, answer, ◌>>=◌}
use Rattle.dt_resolve_model.specs.World.{Quad, quads_of, tree_world, value_of_bytes}
use Rattle.dt_resolve_model.specs.Interrupts.{MapRow, Sent, first_match, is_ragged, mask_of}
use Rattle.dt_resolve_model.specs.Specifiers.{led_by, mask_name, merged, pass_name, provider_row_cells}
use Rattle.dt_resolve_model.proofs.Told.{told_fault}
use Rattle.dt_irq.specs.Cells.{numbers_of, quads}
use Rattle.dt_irq.specs.Merging.{merged_numbers}
use Rattle.dt_irq.specs.Seen.{end_of}
use Rattle.dt_irq.proofs.Figures.{figure_count, quads_are, quads_count}
use Rattle.dt_irq.proofs.Merging.{merged_count, merged_is}
use Rattle.dt_irq.proofs.Providing.{hop_is}
use Rattle.dt_irq.proofs.Zeros.{take_front}
use Rattle.dt_irq.proofs.providers.onward.Goals as goal

pub returns-in_err-row-clause-is : goal.returns-in_err-row-clause-is
returns-in_err-row-clause-is g c =
    let t = g.V.TreeView.tree c.args.view.now in
    let w = tree_world (reading_of t) in
    let at = end_of t c.args.so_far.now in
    let kind = c.args.kind.now in
    let at_hand = take c.args.so_far.now.len c.args.so_far.now.cells in
    let mask = quads_of c.in_ok-mask.mask.now in
    let pass = quads_of c.in_ok-pass.pass.now in
    let map = value_of_bytes c.args.map.now in
    let same : length (quads at_hand) ≡ length at_hand = quads_count at_hand in
    let masked : (w.value at.node (mask_name kind) >>= mask_of (length at.specifier)) ≡ answer mask =
    ap (λ o. mask_of (length at.specifier) (option_map value_of_bytes o)) (sym c.value_named.ensures) ∙ ap (λ n. mask_of n (option_map value_of_bytes (option_copied c.value_named.result))) same ∙ sym c.in_ok-mask.ensures.is in
    let passed : (w.value at.node (pass_name kind) >>= mask_of (length at.specifier)) ≡ answer pass =
    ap (λ o. mask_of (length at.specifier) (option_map value_of_bytes o)) (sym c.value_named-2.ensures) ∙ ap (λ n. mask_of n (option_map value_of_bytes (option_copied c.value_named-2.result))) same ∙ sym c.in_ok-pass.ensures.is in
    let whole = hop_is w kind at map mask pass masked passed in
    let match : ℕ → Answer MapRow = λ n. first_match w (provider_row_cells w kind) (is_ragged map) n (quads at_hand) mask 0 map.cells in
    told_fault c.from_residual-in_err-row.result c.in_err-row.field-0.0 (end_of t) c.from_residual-in_err-row.ensures.1
    ∙ ap (λ (x : Answer MapRow). x >>= led_by at pass) (c.in_err-row.ensures.is ∙ ap match (sym same))
    ∙ sym whole

pub returns-clause-is : goal.returns-clause-is
returns-clause-is g c =
    let t = g.V.TreeView.tree c.args.view.now in
    let w = tree_world (reading_of t) in
    let at = end_of t c.args.so_far.now in
    let kind = c.args.kind.now in
    let at_hand = take c.args.so_far.now.len c.args.so_far.now.cells in
    let mask = quads_of c.in_ok-mask.mask.now in
    let pass = quads_of c.in_ok-pass.pass.now in
    let map = value_of_bytes c.args.map.now in
    let same : length (quads at_hand) ≡ length at_hand = quads_count at_hand in
    let masked : (w.value at.node (mask_name kind) >>= mask_of (length at.specifier)) ≡ answer mask =
    ap (λ o. mask_of (length at.specifier) (option_map value_of_bytes o)) (sym c.value_named.ensures) ∙ ap (λ n. mask_of n (option_map value_of_bytes (option_copied c.value_named.result))) same ∙ sym c.in_ok-mask.ensures.is in
    let passed : (w.value at.node (pass_name kind) >>= mask_of (length at.specifier)) ≡ answer pass =
    ap (λ o. mask_of (length at.specifier) (option_map value_of_bytes o)) (sym c.value_named-2.ensures) ∙ ap (λ n. mask_of n (option_map value_of_bytes (option_copied c.value_named-2.result))) same ∙ sym c.in_ok-pass.ensures.is in
    let whole = hop_is w kind at map mask pass masked passed in
    let match : ℕ → Answer MapRow = λ n. first_match w (provider_row_cells w kind) (is_ragged map) n (quads at_hand) mask 0 map.cells in
    let row = numbers_of c.in_ok-row.row.specifier.now in
    let ps = numbers_of c.in_ok-pass.pass.now in
    let ns = merged_numbers row at_hand ps in
    let k = length c.in_ok-row.row.specifier.now / 4 in
    let cells : take k c.merged.result ≡ ns = ap (take k) c.merged.ensures ∙ take_front ns (replicate (8 - k) 0) k (sym (merged_count row at_hand ps ∙ figure_count c.in_ok-row.row.specifier.now)) in
    let made : merged (quads_of c.in_ok-row.row.specifier.now) (quads at_hand) pass ≡ answer (quads (take k c.merged.result)) =
    ap (λ qs. merged qs (quads at_hand) pass) (sym (quads_are c.in_ok-row.row.specifier.now))
    ∙ ap (λ qs. merged (quads row) (quads at_hand) qs) (sym (quads_are c.in_ok-pass.pass.now))
    ∙ merged_is row at_hand ps
    ∙ ap (λ ms. answer (quads ms)) (sym cells) in
    let to = path_at t c.in_ok-row.row.parent in
    sym (ap (λ (x : Answer (List Quad)). x >>= λ s. answer (let e : Sent = record { node = to; specifier = s } in e)) made)
    ∙ ap (λ (x : Answer MapRow). x >>= led_by at pass) (c.in_ok-row.ensures.is ∙ ap match (sym same))
    ∙ sym whole
