use Rattle.std.proofs.Common.{◌+◌, ◌-◌, ◌∙◌, sym, ap, ℕ, List, length, drop, slice_index, arith}
use Rattle.dt_flat.specs.declared.nodes.Branch.{Branch}
use Rattle.dt_flat.specs.Chain.{first_rank}
use Rattle.dt_flat.specs.Rows.{parents_of}
use Rattle.dt_flat.proofs.TableLemmas.{length-branches, parents-branches}
use Rattle.dt_flat.proofs.nodes.NodeTable.next.Goals as goal

pub next-requires : goal.next-requires
next-requires c =
    (c.requires.0, omega (arith, c.requires.1, length-branches c.self.inside.rows c.self.inside.depths.items c.self.invariant, ap (λ (bs : List Branch). length bs) c.self.view_is))

pub returns : goal.returns
returns c =
    c.next.ensures
    ∙ ap (λ (ps : List ℕ). first_rank (c.args.node + 1) (drop c.args.node ps) (slice_index ps (c.args.node - 1))) (sym (parents-branches c.self.inside.rows c.self.inside.depths.items c.self.invariant) ∙ ap parents_of c.self.view_is)
