use Rattle.std.proofs.Common.{◌≡◌, ◌<◌, ◌∙◌, sym, ap, suc, List, length, arith}
use Rattle.dt_model.specs.Tree.{value_of}
use Rattle.dt_flat.specs.Arena.{Slot, properties, with_property}
use Rattle.dt_flat.specs.Rows.{Held, owned, slots_kept, AreRows}
use Rattle.dt_flat.proofs.PlaceLemmas.{on_err, length-slots, noted, value-kept, put-noted}
use Rattle.dt_flat.proofs.places.Places.plant_property.Goals as goal

pub plant-requires : goal.plant-requires
plant-requires c =
    let names = c.self.inside.names in
    let hs = c.self.inside.properties in
    let bs = c.self.inside.nodes in
    let new = c.add.new.self in
    let known = c.in_ok-name.ensures.noted in
    let more = noted names new bs hs c.args.name.now c.in_ok-name.name known c.self.invariant in
    let there : c.args.node < suc (length bs) = omega (arith, c.requires.node, length-slots names (owned names hs) bs, ap (λ (slots : List Slot). length slots) c.self.view_is) in
    sym (value-kept new bs hs c.args.node c.in_ok-name.name c.args.name.now c.validity.ensures more.1 there known.there known.text)
    ∙ ap (λ (ns : List Slot). value_of (properties ns c.args.node) c.args.name.now) (more.0 ∙ c.self.view_is) ∙ c.requires.fresh

pub returns-in_err-plant-clause-err : goal.returns-in_err-plant-clause-err
returns-in_err-plant-clause-err c =
    on_err c.from_residual-in_err-plant.result _
    (ap (λ (hs : List Held). slots_kept c.add.new.self (owned c.add.new.self hs) c.self.inside.nodes) c.in_err-plant.ensures.err
    ∙ (noted c.self.inside.names c.add.new.self c.self.inside.nodes c.self.inside.properties c.args.name.now c.in_ok-name.name c.in_ok-name.ensures.noted c.self.invariant).0 ∙ c.self.view_is)

-- the tables with the property
planted : (c : goal.In_ok-plant) → (slots_kept c.add.new.self (owned c.add.new.self c.plant.new.self) c.self.inside.nodes ≡ with_property c.args.self.now c.args.node c.args.name.now c.args.value.now)
    × AreRows c.add.new.self c.self.inside.nodes c.plant.new.self
planted c =
    put-noted c.self.inside.names c.add.new.self c.self.inside.nodes c.self.inside.properties c.plant.new.self c.args.node c.in_ok-name.name c.args.value.now c.args.name.now c.args.self.now c.self.view_is c.in_ok-name.ensures.noted
    c.validity.ensures c.self.invariant c.requires.node c.in_ok-plant.ensures.ok

pub invariant_of-self-2 : goal.invariant_of-self-2
invariant_of-self-2 c = (planted c).1

pub returns-clause-ok : goal.returns-clause-ok
returns-clause-ok c = (planted c).0
