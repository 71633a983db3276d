-- Why an edit is refused to a caller whose names are bytes.
use Rattle.std.specs.Prelude.{ℕ, List}
use Rattle.dt_model.specs.Names.{Name, IsNodeName, IsPropertyName}
use Rattle.dt_names.specs.declared.fault.FaultKind.{FaultKind}
use Rattle.dt_names.specs.declared.fault.FaultKind.TheVariants.{BadName, Limit}
use Rattle.dt_edit.specs.Editable.{HasCellAt, WhyNotAddedIn, WhyNotPatchedIn, WhyNotSetIn}

-- the name is none; or else the property isn't set
abbrev pub WhyNotSetNamed : FaultKind → List ℕ → ℕ → Name → List ℕ → Type 0
WhyNotSetNamed BadName bytes node name value = ¬ IsPropertyName name
WhyNotSetNamed kind bytes node name value = IsPropertyName name × WhyNotSetIn kind bytes node name value

-- the name is none; or else the child isn't added
abbrev pub WhyNotAddedNamed : FaultKind → List ℕ → ℕ → Name → Type 0
WhyNotAddedNamed BadName bytes node name = ¬ IsNodeName name
WhyNotAddedNamed kind bytes node name = IsNodeName name × WhyNotAddedIn kind bytes node name

-- the name is none; or else the property has no cell there; or else it isn't patched
abbrev pub WhyNotPatchedNamed : FaultKind → List ℕ → ℕ → Name → (offset n : ℕ) → Type 0
WhyNotPatchedNamed BadName bytes node name offset n = ¬ IsPropertyName name
WhyNotPatchedNamed Limit bytes node name offset n = IsPropertyName name × ¬ HasCellAt bytes node name offset
WhyNotPatchedNamed kind bytes node name offset n = IsPropertyName name × HasCellAt bytes node name offset × WhyNotPatchedIn kind bytes node name offset n
