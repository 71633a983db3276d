use Rattle.std.proofs.Common.{◌∙◌, sym, ap, List}
use Rattle.dt_flat.specs.Arena.{Slot, children}
use Rattle.dt_flat.specs.Rows.{owned}
use Rattle.dt_flat.proofs.PlaceLemmas.{children-kept}
use Rattle.dt_flat.proofs.places.Places.children.Goals as goal

pub returns : goal.returns
returns c =
    c.of.ensures ∙ sym (children-kept c.self.inside.names (owned c.self.inside.names c.self.inside.properties) c.self.inside.nodes c.args.node c.self.invariant.behind)
    ∙ ap (λ (slots : List Slot). children slots c.args.node) c.self.view_is
