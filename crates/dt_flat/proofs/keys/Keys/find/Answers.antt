use Rattle.std.proofs.Common.{◌<◌, ◌≤◌, ◌+◌, ◌∙◌, sym, ap, subst, ℕ, List, length, arith}
use Rattle.std.specs.List.{AllByRecursion}
use Rattle.dt_flat.specs.Chain.{ranks}
use Rattle.dt_flat.specs.Rows.{Row, nodes_of, place_of, place_among}
use Rattle.dt_flat.proofs.RowLemmas.{length-nodes}
use Rattle.dt_flat.proofs.TableLemmas.{ranks-within}
use Rattle.dt_flat.proofs.IndexLemmas.{among-place}
use Rattle.dt_flat.proofs.keys.Keys.find.Goals as goal

pub place_among-requires : goal.place_among-requires
place_among-requires c =
    let rows = c.self.inside.rows.items in
    let of_node = c.of.ensures ∙ ap (λ (ps : List ℕ). ranks 1 ps c.args.node) c.self.invariant.0 in
    let n = length c.deref.result.now in
    let size : 0 + length (nodes_of rows) ≤ n = omega (arith, length-nodes rows, ap (λ (rs : List Row). length rs) c.deref.ensures.value) in
    subst (AllByRecursion (λ rank. (0 < rank) × (rank ≤ n))) (sym of_node) (ranks-within 0 (nodes_of rows) c.args.node n size)

pub returns : goal.returns
returns c =
    let of_node = c.of.ensures ∙ ap (λ (ps : List ℕ). ranks 1 ps c.args.node) c.self.invariant.0 in
    c.place_among.ensures ∙ (λ i. place_among c.args.name (c.deref.ensures.value i) (of_node i)) ∙ among-place c.self.inside.rows.items c.args.node c.args.name
    ∙ ap (place_of c.args.node c.args.name) c.self.view_is
