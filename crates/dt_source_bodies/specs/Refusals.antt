-- In which modes items are read, and why they grow no tree.
use Rattle.std.specs.Prelude.{◌≡◌, ◌⊎◌, List, None, Result, Err}
use Rattle.dt_model.specs.Source.{Place, Refusal, duplicate_property, duplicate_node, duplicate_label, no_such_target, reserved_name, too_deep, misplaced, SoFar, nothing, read_all}
use Rattle.dt_model.specs.OverlaySource.{OverlayRefusal, as_any, overlay_delete, overlay_phandle, overlay_path}
use Rattle.dt_model.specs.Source as model
use Rattle.dt_names.specs.declared.fault.Fault.{Fault}
use Rattle.dt_names.specs.declared.fault.FaultKind.{FaultKind}
use Rattle.dt_names.specs.declared.fault.FaultKind.TheVariants.{NoMemory, Limit, Syntax, DuplicateProperty, DuplicateNode, DuplicateLabel, NoSuchTarget, ReservedName, OverlayDelete, OverlayPhandle, OverlayPathReference}
use Rattle.dt_source_bodies.specs.declared.reading.Mode.{Mode}
use Rattle.dt_source_bodies.specs.declared.reading.Mode.TheVariants.{Base, Raw}

abbrev pub mode_said : Mode → model.Mode
mode_said Base = model.base
mode_said Raw = model.raw

-- the kind of fault for a refusal; nothing that the grammar spells is misplaced
abbrev pub refusal_kind : Refusal → FaultKind
refusal_kind duplicate_property = DuplicateProperty
refusal_kind duplicate_node = DuplicateNode
refusal_kind duplicate_label = DuplicateLabel
refusal_kind no_such_target = NoSuchTarget
refusal_kind reserved_name = ReservedName
refusal_kind too_deep = Limit
refusal_kind misplaced = Syntax

-- a fault without a place: memory was refused, or it is the refusal
abbrev pub TellsRefusal : Result SoFar Refusal → Fault → Type 0
TellsRefusal outcome fault = (fault.at ≡ None) × ((fault.kind ≡ NoMemory) ⊎ ((r : Refusal) × (outcome ≡ Err r) × (fault.kind ≡ refusal_kind r)))

-- memory was refused, or the places are, at the first of them that is
abbrev pub WhyNotGrown : model.Mode → List Place → Fault → Type 0
WhyNotGrown mode places fault = TellsRefusal (read_all mode nothing places) fault

-- the kind of fault for a refusal of one of the places of an overlay's source
abbrev pub overlay_kind : OverlayRefusal → FaultKind
overlay_kind (as_any r) = refusal_kind r
overlay_kind overlay_delete = OverlayDelete
overlay_kind overlay_phandle = OverlayPhandle
overlay_kind overlay_path = OverlayPathReference
