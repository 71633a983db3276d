use Rattle.std.proofs.Common.{◌<◌, ◌-◌, ◌∙◌, sym, ap, List, length, slice_get, arith}
use Rattle.dt_flat.specs.declared.nodes.Branch.{Branch}
use Rattle.dt_flat.proofs.TableLemmas.{length-branches, branch-at}
use Rattle.dt_flat.proofs.nodes.NodeTable.at.Goals as goal

pub at-parent-requires : goal.at-parent-requires
at-parent-requires c = omega (arith, c.requires.0, c.requires.1, length-branches c.self.inside.rows c.self.inside.depths.items c.self.invariant, ap (λ (bs : List Branch). length bs) c.self.view_is)

pub index-requires : goal.index-requires
index-requires c =
    omega (arith, c.requires.0, c.requires.1, c.self.invariant, length-branches c.self.inside.rows c.self.inside.depths.items c.self.invariant, ap (λ (bs : List Branch). length bs) c.self.view_is)

pub returns : goal.returns
returns c =
    let place = c.args.node - 1 in
    let lt : place < length c.self.inside.depths.items =
    omega (arith, c.requires.0, c.requires.1, c.self.invariant, length-branches c.self.inside.rows c.self.inside.depths.items c.self.invariant, ap (λ (bs : List Branch). length bs) c.self.view_is) in
    ap (λ (bs : List Branch). slice_get bs place) (sym c.self.view_is) ∙ branch-at c.self.inside.rows c.self.inside.depths.items place c.at-parent.result c.index.result.now lt c.at-parent.ensures c.index.ensures
