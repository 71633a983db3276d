use Rattle.std.proofs.Common.{◌∙◌, sym, ap, List}
use Rattle.dt_flat.specs.Arena.{Slot, child_of, named_children}
use Rattle.dt_flat.specs.Rows.{owned}
use Rattle.dt_flat.proofs.PlaceLemmas.{child-kept, unknown-kept}
use Rattle.dt_flat.proofs.places.Places.child.Goals as goal

pub returns-in_err-name : goal.returns-in_err-name
returns-in_err-name c =
    let names = c.self.inside.names in
    let hs = c.self.inside.properties in
    c.from_residual.ensures ∙ sym (unknown-kept names (owned names hs) c.args.node c.self.inside.nodes hs c.args.name.now c.self.invariant c.in_err-name.ensures)
    ∙ ap (λ (slots : List Slot). child_of (named_children slots c.args.node) c.args.name.now) c.self.view_is

pub returns : goal.returns
returns c =
    let names = c.self.inside.names in
    let hs = c.self.inside.properties in
    let known = c.in_ok-name.ensures in
    c.child.ensures ∙ sym (child-kept names (owned names hs) c.args.node c.in_ok-name.name c.self.inside.nodes hs c.args.name.now c.validity.ensures c.self.invariant known.0 known.1)
    ∙ ap (λ (slots : List Slot). child_of (named_children slots c.args.node) c.args.name.now) c.self.view_is
