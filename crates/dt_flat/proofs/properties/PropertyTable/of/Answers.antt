use Rattle.std.proofs.Common.{◌≡◌, ◌<◌, ◌≤◌, ◌+◌, ◌∙◌, refl, sym, ap, subst, ℕ, List, length, map, arith}
use Rattle.std.specs.List.{AllByRecursion}
use Rattle.dt_flat.specs.Chain.{ranks}
use Rattle.dt_flat.specs.Rows.{Row, Held, nodes_of, rows_of, property_at}
use Rattle.dt_flat.proofs.RowLemmas.{length-nodes}
use Rattle.dt_flat.proofs.TableLemmas.{length-held, rows-held, ranks-within, owned-ranks}
use Rattle.dt_flat.proofs.properties.PropertyTable.of.Goals as goal

pub invariant_of-result : goal.invariant_of-result
invariant_of-result c =
    let rows = c.self.inside.rows in
    let n = length c.args.self.now in
    let size : 0 + length (nodes_of rows) ≤ n = omega (arith, length-nodes rows, length-held rows c.self.inside.values c.self.invariant, ap (λ (hs : List Held). length hs) c.self.view_is) in
    record {
      ranks = subst (AllByRecursion (λ rank. (0 < rank) × (rank ≤ n))) (sym c.of.ensures) (ranks-within 0 (nodes_of rows) c.args.node n size);
      named = c.requires;
    }

pub returns : goal.returns
returns c =
    let names = c.args.names.now in
    let hs = c.args.self.now in
    let rows : c.self.inside.rows ≡ rows_of hs = sym (rows-held c.self.inside.rows c.self.inside.values c.self.invariant) ∙ ap rows_of c.self.view_is in
    ap (λ (rs : List ℕ). map (property_at names hs) rs) (c.of.ensures ∙ ap (λ (rs : List Row). ranks 1 (nodes_of rs) c.args.node) rows) ∙ owned-ranks names hs 0 hs c.args.node refl
