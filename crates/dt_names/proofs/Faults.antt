-- A fault is told by its kind and its place.
use Rattle.std.proofs.Common.{◌≡◌, ℕ, Option, None, ap, ◌∙◌}
use Rattle.dt_names.specs.declared.fault.Fault.{Fault}
use Rattle.dt_names.specs.declared.fault.FaultKind.{FaultKind}
use Rattle.dt_names.specs.Fault.{placeless}

-- a fault at no place is that of its kind
pub own_placeless : (fault : Fault) → fault.at ≡ None → fault ≡ placeless fault.kind
own_placeless fault is = ap (λ (at : Option ℕ). let f : Fault = record { kind = fault.kind; at = at } in f) is

pub is_placeless : (fault : Fault) (kind : FaultKind) → fault.kind ≡ kind → fault.at ≡ None → fault ≡ placeless kind
is_placeless fault kind is at = own_placeless fault at ∙ ap placeless is
