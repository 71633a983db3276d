use Rattle.std.proofs.Common.{◌≡◌, ◌∙◌, ap, List}
use Rattle.dt_flat.specs.Arena.{with_property}
use Rattle.dt_flat.specs.Rows.{Held, owned, slots_kept, AreRows}
use Rattle.dt_flat.proofs.PlaceLemmas.{on_err, noted, put-noted}
use Rattle.dt_flat.proofs.places.Places.set.Goals as goal

pub returns-in_err-set-clause-err : goal.returns-in_err-set-clause-err
returns-in_err-set-clause-err c =
    on_err c.from_residual-in_err-set.result _
    (ap (λ (hs : List Held). slots_kept c.add.new.self (owned c.add.new.self hs) c.self.inside.nodes) c.in_err-set.ensures.err
    ∙ (noted c.self.inside.names c.add.new.self c.self.inside.nodes c.self.inside.properties c.args.name.now c.in_ok-name.name c.in_ok-name.ensures.noted c.self.invariant).0 ∙ c.self.view_is)

-- the tables with the property
set : (c : goal.In_ok-set) → (slots_kept c.add.new.self (owned c.add.new.self c.set.new.self) c.self.inside.nodes ≡ with_property c.args.self.now c.args.node c.args.name.now c.args.value.now) × AreRows c.add.new.self c.self.inside.nodes c.set.new.self
set c =
    put-noted c.self.inside.names c.add.new.self c.self.inside.nodes c.self.inside.properties c.set.new.self c.args.node c.in_ok-name.name c.args.value.now c.args.name.now c.args.self.now c.self.view_is c.in_ok-name.ensures.noted
    c.validity.ensures c.self.invariant c.requires c.in_ok-set.ensures.ok

pub invariant_of-self-2 : goal.invariant_of-self-2
invariant_of-self-2 c = (set c).1

pub returns-clause-ok : goal.returns-clause-ok
returns-clause-ok c = (set c).0
