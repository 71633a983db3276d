use Rattle.std.proofs.Common.{◌∙◌, sym, ap, length, List, arith}
use Rattle.dt_flat.specs.Arena.{Slot, depth_of}
use Rattle.dt_flat.specs.Rows.{owned}
use Rattle.dt_flat.proofs.PlaceLemmas.{length-slots, node-kept}
use Rattle.dt_flat.proofs.places.Places.depth.Goals as goal

pub returns-then-node-eq0 : goal.returns-then-node-eq0
returns-then-node-eq0 c = ap (λ (slots : List Slot). depth_of slots 0) c.self.view_is ∙ ap (depth_of c.args.self.now) (sym c.if-node-eq0.true)

pub at-requires : goal.at-requires
at-requires c = (
  omega (arith, c.if-node-eq0.false),
  omega (arith, c.requires, length-slots c.self.inside.names (owned c.self.inside.names c.self.inside.properties) c.self.inside.nodes, ap (λ (slots : List Slot). length slots) c.self.view_is),
)

pub returns : goal.returns
returns c =
    let n = node-kept c.self.inside.names (owned c.self.inside.names c.self.inside.properties) c.args.node c.self.inside.nodes c.at.result (omega (arith, c.if-node-eq0.false)) c.at.ensures in
    sym n.depth ∙ ap (λ (slots : List Slot). depth_of slots c.args.node) c.self.view_is
