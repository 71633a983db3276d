use Rattle.std.proofs.Common.{None, false, length, map, refl, sym, ap, ◌∙◌, subst}
use Rattle.dt_model.specs.NamedOf.{IsBelow}
use Rattle.dt_source_named_tree.specs.Said.{reference_said}
use Rattle.dt_source_named_tree.specs.declared.named.NamedReference.{NamedReference}
use Rattle.dt_phandle.specs.declared.asked.Asked.{Asked}
use Rattle.dt_phandle.specs.Asking.{asked_said, keyed_too, is_to}
use Rattle.dt_phandle.proofs.Asking.{keyed_to, keyed_outside}
use Rattle.dt_phandle.proofs.asked.key.Goals as goal

abbrev none : Asked
none = record { written = None; keyed = false }

pub returns-in-Node : goal.returns-in-Node
returns-in-Node c =
    let now = c.args.asked.now in
    let below = subst (λ (r : NamedReference). IsBelow (length now) (reference_said r)) c.in-Node.is c.requires in
    keyed_to now _ c.in-Node.node none below refl ∙ ap (λ (r : NamedReference). keyed_too (is_to (reference_said r)) 0 (map asked_said now)) (sym c.in-Node.is)

pub returns-in_default : goal.returns-in_default
returns-in_default c =
    let now = c.args.asked.now in
    keyed_outside c.in_default.field-0.now now ∙ ap (λ (r : NamedReference). keyed_too (is_to (reference_said r)) 0 (map asked_said now)) (sym c.in_default.is)
