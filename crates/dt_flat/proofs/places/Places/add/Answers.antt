use Rattle.std.proofs.Common.{◌+◌, ◌∙◌, sym, ap, ℕ, List}
use Rattle.dt_flat.specs.Arena.{Slot, child_of, named_children}
use Rattle.dt_flat.specs.Rows.{owned}
use Rattle.dt_flat.proofs.PlaceLemmas.{on_err, unknown-kept, add-noted}
use Rattle.dt_flat.proofs.places.Places.add.Goals as goal

pub returns-in_err-name-clause-absent : goal.returns-in_err-name-clause-absent
returns-in_err-name-clause-absent c =
    let names = c.self.inside.names in
    let hs = c.self.inside.properties in
    on_err c.from_residual.result _
    (ap (λ (slots : List Slot). child_of (named_children slots c.args.parent) c.args.name.now) (sym c.self.view_is) ∙ unknown-kept names (owned names hs) c.args.parent c.self.inside.nodes hs c.args.name.now c.self.invariant c.in_err-name.ensures.unknown)

pub invariant_of-self-2 : goal.invariant_of-self-2
invariant_of-self-2 c =
    (add-noted c.self.inside.names c.add.new.self c.self.inside.nodes c.add-2.new.self c.self.inside.properties (record { parent = c.args.parent; name = c.in_ok-name.name; depth = c.depth-depth.result + 1 }) c.args.name.now c.args.self.now c.add-2.result
    c.self.view_is c.in_ok-name.ensures.noted c.validity.ensures c.self.invariant c.requires.parent (ap (λ (d : ℕ). d + 1) c.depth-depth.ensures) c.add-2.ensures.added c.add-2.ensures.absent c.add-2.ensures.err).0

pub returns-clause-added : goal.returns-clause-added
returns-clause-added c =
    (add-noted c.self.inside.names c.add.new.self c.self.inside.nodes c.add-2.new.self c.self.inside.properties (record { parent = c.args.parent; name = c.in_ok-name.name; depth = c.depth-depth.result + 1 }) c.args.name.now c.args.self.now c.add-2.result
    c.self.view_is c.in_ok-name.ensures.noted c.validity.ensures c.self.invariant c.requires.parent (ap (λ (d : ℕ). d + 1) c.depth-depth.ensures) c.add-2.ensures.added c.add-2.ensures.absent c.add-2.ensures.err).1

pub returns-clause-absent : goal.returns-clause-absent
returns-clause-absent c =
    (add-noted c.self.inside.names c.add.new.self c.self.inside.nodes c.add-2.new.self c.self.inside.properties (record { parent = c.args.parent; name = c.in_ok-name.name; depth = c.depth-depth.result + 1 }) c.args.name.now c.args.self.now c.add-2.result
    c.self.view_is c.in_ok-name.ensures.noted c.validity.ensures c.self.invariant c.requires.parent (ap (λ (d : ℕ). d + 1) c.depth-depth.ensures) c.add-2.ensures.added c.add-2.ensures.absent c.add-2.ensures.err).2

pub returns-clause-err : goal.returns-clause-err
returns-clause-err c =
    (add-noted c.self.inside.names c.add.new.self c.self.inside.nodes c.add-2.new.self c.self.inside.properties (record { parent = c.args.parent; name = c.in_ok-name.name; depth = c.depth-depth.result + 1 }) c.args.name.now c.args.self.now c.add-2.result
    c.self.view_is c.in_ok-name.ensures.noted c.validity.ensures c.self.invariant c.requires.parent (ap (λ (d : ℕ). d + 1) c.depth-depth.ensures) c.add-2.ensures.added c.add-2.ensures.absent c.add-2.ensures.err).3
