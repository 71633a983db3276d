use Rattle.std.proofs.Common.{◌<◌, ◌∙◌, sym, ap, suc, List, length, arith}
use Rattle.dt_flat.specs.Arena.{Slot, properties}
use Rattle.dt_flat.specs.Rows.{Held, owned}
use Rattle.dt_flat.proofs.PlaceLemmas.{length-slots, properties-kept, all-weaker}
use Rattle.dt_flat.proofs.places.Places.props.Goals as goal

pub of-requires : goal.of-requires
of-requires c =
    let names = c.self.inside.names in
    all-weaker (λ (h : Held). (h.node < suc (length c.self.inside.nodes)) × (h.name < length names)) (λ (h : Held). h.name < length names) c.self.inside.properties (λ h ok. ok.1) c.self.invariant.properties

pub returns : goal.returns
returns c =
    let names = c.self.inside.names in
    let hs = c.self.inside.properties in
    let bs = c.self.inside.nodes in
    let there : c.args.node < suc (length bs) = omega (arith, c.requires, length-slots names (owned names hs) bs, ap (λ (slots : List Slot). length slots) c.self.view_is) in
    c.of.ensures ∙ sym (properties-kept names (owned names hs) c.args.node bs there) ∙ ap (λ (slots : List Slot). properties slots c.args.node) c.self.view_is
