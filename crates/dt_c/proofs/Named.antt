-- Refusals of edits whose names are bytes.
use Rattle.std.proofs.Common.{ℕ, List, Result, Ok, Err}
use Rattle.std.specs.Result.{IfErr}
use Rattle.dt_model.specs.Names.{Name, IsNodeName, IsPropertyName}
use Rattle.dt_names.specs.declared.fault.Fault.{Fault}
use Rattle.dt_names.specs.declared.fault.FaultKind.{FaultKind}
use Rattle.dt_names.specs.declared.fault.FaultKind.TheVariants.{BadName, Limit}
use Rattle.dt_edit.specs.Editable.{HasCellAt, WhyNotAddedIn, WhyNotPatchedIn, WhyNotSetIn}
use Rattle.dt_c.specs.Edits.{WhyNotAddedNamed, WhyNotPatchedNamed, WhyNotSetNamed}

pub set_named : (kind : FaultKind) (bytes : List ℕ) (node : ℕ) (name : Name) (value : List ℕ) → IsPropertyName name → WhyNotSetIn kind bytes node name value → WhyNotSetNamed kind bytes node name value
set_named BadName bytes node name value named why = absurd why
set_named _ bytes node name value named why = (named, why)

pub added_named : (kind : FaultKind) (bytes : List ℕ) (node : ℕ) (name : Name) → IsNodeName name → WhyNotAddedIn kind bytes node name → WhyNotAddedNamed kind bytes node name
added_named BadName bytes node name named why = absurd why
added_named _ bytes node name named why = (named, why)

pub patched_named : (kind : FaultKind) (bytes : List ℕ) (node : ℕ) (name : Name) (offset n : ℕ) → IsPropertyName name → HasCellAt bytes node name offset → WhyNotPatchedIn kind bytes node name offset n
    → WhyNotPatchedNamed kind bytes node name offset n
patched_named BadName bytes node name offset n named has why = absurd why
patched_named Limit bytes node name offset n named has why = absurd why
patched_named _ bytes node name offset n named has why = (named, has, why)

-- what holds of a fault for one reason holds for another
pub if_err : {A : Type 0} (r : Result A Fault) (P Q : Fault → Type 0) → ((e : Fault) → P e → Q e) → IfErr r P → IfErr r Q
if_err (Ok x) P Q h p = tt
if_err (Err e) P Q h p = h e p
