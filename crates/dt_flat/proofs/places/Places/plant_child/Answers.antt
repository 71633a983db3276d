use Rattle.std.proofs.Common.{◌≡◌, ◌+◌, ◌∙◌, sym, ap, ℕ, List}
use Rattle.dt_flat.specs.Arena.{Slot, child_of, named_children, with_child}
use Rattle.dt_flat.specs.Rows.{owned, slots_kept, AreRows}
use Rattle.dt_flat.proofs.PlaceLemmas.{on_err, noted, child-kept, push-noted}
use Rattle.dt_flat.proofs.places.Places.plant_child.Goals as goal

pub plant-requires : goal.plant-requires
plant-requires c =
    let hs = c.self.inside.properties in
    let new = c.add.new.self in
    let known = c.in_ok-name.ensures.noted in
    let more = noted c.self.inside.names new c.self.inside.nodes hs c.args.name.now c.in_ok-name.name known c.self.invariant in
    sym (child-kept new (owned new hs) c.args.parent c.in_ok-name.name c.self.inside.nodes hs c.args.name.now c.validity.ensures more.1 known.there known.text)
    ∙ ap (λ (ns : List Slot). child_of (named_children ns c.args.parent) c.args.name.now) (more.0 ∙ c.self.view_is) ∙ c.requires.fresh

pub returns-in_err-plant-clause-err : goal.returns-in_err-plant-clause-err
returns-in_err-plant-clause-err c =
    on_err c.from_residual-in_err-plant.result _
    (ap (slots_kept c.add.new.self (owned c.add.new.self c.self.inside.properties)) c.in_err-plant.ensures.err
    ∙ (noted c.self.inside.names c.add.new.self c.self.inside.nodes c.self.inside.properties c.args.name.now c.in_ok-name.name c.in_ok-name.ensures.noted c.self.invariant).0 ∙ c.self.view_is)

-- the tables with the child
planted : (c : goal.In_ok-plant) → (slots_kept c.add.new.self (owned c.add.new.self c.self.inside.properties) c.plant.new.self ≡ with_child c.args.self.now c.args.parent c.args.name.now)
    × AreRows c.add.new.self c.plant.new.self c.self.inside.properties
planted c =
    push-noted c.self.inside.names c.add.new.self c.self.inside.nodes c.plant.new.self c.self.inside.properties (record { parent = c.args.parent; name = c.in_ok-name.name; depth = c.depth-depth.result + 1 }) c.args.name.now c.args.self.now
    c.self.view_is c.in_ok-name.ensures.noted c.self.invariant c.requires.parent (ap (λ (d : ℕ). d + 1) c.depth-depth.ensures) c.in_ok-plant.ensures.ok

pub invariant_of-self-2 : goal.invariant_of-self-2
invariant_of-self-2 c = (planted c).1

pub returns-clause-ok : goal.returns-clause-ok
returns-clause-ok c = (planted c).0
