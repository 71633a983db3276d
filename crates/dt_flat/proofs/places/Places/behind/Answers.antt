use Rattle.std.proofs.Common.{◌∙◌, sym, ap, List, length, arith}
use Rattle.dt_flat.specs.Arena.{Slot, named_children}
use Rattle.dt_flat.specs.Rows.{owned}
use Rattle.dt_flat.proofs.PlaceLemmas.{length-slots, none-behind, next-none, next-some}
use Rattle.dt_flat.proofs.Edges.{edge}
use Rattle.dt_flat.proofs.places.Places.behind.Goals as goal

pub returns-in_err-child : goal.returns-in_err-child
returns-in_err-child c = c.from_residual.ensures ∙ none-behind (named_children c.args.self.now c.args.node) c.args.name.now (sym c.in_err-child.ensures)

pub next-next-requires : goal.next-next-requires
next-next-requires c =
    let e = edge c.args.self.now c.args.node c.args.name.now c.in_ok-child.child (sym c.in_ok-child.ensures) in (
      omega (arith, e.after),
      omega (arith, e.within, length-slots c.self.inside.names (owned c.self.inside.names c.self.inside.properties) c.self.inside.nodes, ap (λ (slots : List Slot). length slots) c.self.view_is),
    )

pub returns-then-next-eq0 : goal.returns-then-next-eq0
returns-then-next-eq0 c =
    let e = edge c.args.self.now c.args.node c.args.name.now c.in_ok-child.child (sym c.in_ok-child.ensures) in
    next-none c.self.inside.names c.self.inside.nodes c.self.inside.properties c.args.node c.in_ok-child.child c.next-next.result c.args.name.now c.args.self.now c.self.view_is c.self.invariant
    e.parent (omega (arith, e.after)) e.within (sym c.in_ok-child.ensures) c.next-next.ensures c.if-next-eq0.true

pub returns-else-next-eq0 : goal.returns-else-next-eq0
returns-else-next-eq0 c =
    let e = edge c.args.self.now c.args.node c.args.name.now c.in_ok-child.child (sym c.in_ok-child.ensures) in
    next-some c.self.inside.names c.self.inside.nodes c.self.inside.properties c.args.node c.in_ok-child.child c.next-next.result c.args.name.now c.args.self.now c.self.view_is c.self.invariant
    e.parent (omega (arith, e.after)) e.within (sym c.in_ok-child.ensures) c.next-next.ensures c.if-next-eq0.false
