use Rattle.std.proofs.Common.{◌∙◌, sym, ap, ℕ, List}
use Rattle.dt_flat.specs.Chain.{ranks}
use Rattle.dt_flat.specs.Rows.{parents_of}
use Rattle.dt_flat.proofs.TableLemmas.{parents-branches}
use Rattle.dt_flat.proofs.nodes.NodeTable.of.Goals as goal

pub returns : goal.returns
returns c =
    c.of.ensures ∙ ap (λ (ps : List ℕ). ranks 1 ps c.args.node) (sym (parents-branches c.self.inside.rows c.self.inside.depths.items c.self.invariant) ∙ ap parents_of c.self.view_is)
