use Rattle.std.proofs.Common.{◌≡◌, ℕ, List, [], ◌++◌, ◌-◌, length, drop, sym, ap, ◌∙◌}
use Rattle.std.proofs.lemmas.List.{drop_all}
use Rattle.dt_source_nodes.specs.declared.listing.Row.{Row}
use Rattle.dt_source_nodes.specs.Owned.{group_of}
use Rattle.dt_source_nodes.specs.Listing.{rows_below, rows_each}
use Rattle.dt_source_nodes.proofs.Rows.{children_added, none_added}
use Rattle.dt_source_nodes.proofs.listing.+add.Goals as goal

pub returns-after-loop-child : goal.returns-after-loop-child
returns-after-loop-child t c =
    let children : ℕ → List ℕ = group_of c.args.children.now in
    let old = c.args.rows.now.items in
    let pushed = c.push.new.rows.items in
    let rows = c.loop-child.rows.items in
    let items = c.of-child-items.result.now in
    let each : List Row → ℕ → List ℕ → List Row = λ rs place ks. rs ++ rows_each (rows_below children (c.args.depth - 1)) (length rs) place ks in
    let none : drop c.loop-child.child-index items ≡ [] = drop_all c.loop-child.child-index items c.loop-child-test.false in
    let so_far : rows ++ [] ≡ each pushed (length old) (children c.args.row.node) =
    ap (each rows c.len-place.result) (sym none) ∙ c.loop-child.invariant.so_far
    ∙ ap (λ (n : ℕ). each pushed n items) (c.len-place.ensures ∙ c.args.rows.now.ok.0) ∙ ap (each pushed (length old)) c.of-child-items.ensures in
    children_added children old pushed rows c.args.row c.args.depth c.if-depth-gt0.true c.in_ok-push.ensures so_far

pub returns-else-depth-gt0 : goal.returns-else-depth-gt0
returns-else-depth-gt0 t c =
    none_added (group_of c.args.children.now) c.args.rows.now.items c.push.new.rows.items c.args.row c.args.depth c.if-depth-gt0.false c.in_ok-push.ensures
