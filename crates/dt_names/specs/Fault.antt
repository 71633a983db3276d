-- The number and the name of each kind of fault, and the text of a fault; and what is true of the refusals of a call.
use Rattle.std.specs.Prelude.{◌≡◌, ◌≢◌, ◌⊎◌, ℕ, List, [], ◌++◌, Option, None, Some, codes, decimal}
use Rattle.dt_names.specs.declared.fault.Fault.{Fault}
use Rattle.dt_names.specs.declared.fault.FaultKind.{FaultKind}
use Rattle.dt_names.specs.declared.fault.FaultKind.TheVariants.{NoMemory, Limit, BadVersionTag, BadToken, Syntax, BadInteger, DivideByZero, OutOfRange, BadReferenceWidth, PropertyAfterNode, DuplicateProperty, DuplicateNode, DuplicateLabel, NoSuchTarget, UnresolvedReference, BadPhandle, DuplicatePhandle, ReservedName, OverlayDelete, OverlayPhandle, OverlayPathReference, OverlayReserve, OutsideContent, BadFragment, ShortHeader, BadMagic, BadTotal, BadVersion, Misaligned, BlockOutside, NoReservationEnd, BadTag, StructureCut, BadName, BadNameOffset, BadNesting, LateProperty, Duplicate, BadEnd, BlobPhandle, NoSymbol, BadSymbol, NoTarget, BadFixup, BadLocalFixup, NoFragmentTarget, ReservedPlace, NoNode, NoReg, BadCells, NotMapped, NoRanges, PciBus, Overflow, NoInterrupts, NoParent, Loop, BadMap, NoMapEntry, NoUnitAddress, UnknownPhandle, WriteFault, ReadFault}

-- the number of a kind
abbrev pub fault_number : FaultKind → ℕ
fault_number NoMemory = 1
fault_number Limit = 2
fault_number BadVersionTag = 10
fault_number BadToken = 11
fault_number Syntax = 12
fault_number BadInteger = 13
fault_number DivideByZero = 14
fault_number OutOfRange = 15
fault_number BadReferenceWidth = 16
fault_number PropertyAfterNode = 17
fault_number DuplicateProperty = 20
fault_number DuplicateNode = 21
fault_number DuplicateLabel = 22
fault_number NoSuchTarget = 23
fault_number UnresolvedReference = 24
fault_number BadPhandle = 25
fault_number DuplicatePhandle = 26
fault_number ReservedName = 27
fault_number OverlayDelete = 28
fault_number OverlayPhandle = 29
fault_number OverlayPathReference = 30
fault_number OverlayReserve = 31
fault_number OutsideContent = 32
fault_number BadFragment = 33
fault_number ShortHeader = 40
fault_number BadMagic = 41
fault_number BadTotal = 42
fault_number BadVersion = 43
fault_number Misaligned = 44
fault_number BlockOutside = 45
fault_number NoReservationEnd = 46
fault_number BadTag = 47
fault_number StructureCut = 48
fault_number BadName = 49
fault_number BadNameOffset = 50
fault_number BadNesting = 51
fault_number LateProperty = 52
fault_number Duplicate = 53
fault_number BadEnd = 54
fault_number BlobPhandle = 55
fault_number NoSymbol = 60
fault_number BadSymbol = 61
fault_number NoTarget = 62
fault_number BadFixup = 63
fault_number BadLocalFixup = 64
fault_number NoFragmentTarget = 66
fault_number ReservedPlace = 67
fault_number NoNode = 70
fault_number NoReg = 71
fault_number BadCells = 72
fault_number NotMapped = 73
fault_number NoRanges = 74
fault_number PciBus = 75
fault_number Overflow = 76
fault_number NoInterrupts = 80
fault_number NoParent = 81
fault_number Loop = 82
fault_number BadMap = 83
fault_number NoMapEntry = 84
fault_number NoUnitAddress = 85
fault_number UnknownPhandle = 86
fault_number WriteFault = 90
fault_number ReadFault = 91

-- the name of a kind, as its variant is written
abbrev pub fault_name : FaultKind → List ℕ
fault_name NoMemory = codes "NoMemory"
fault_name Limit = codes "Limit"
fault_name BadVersionTag = codes "BadVersionTag"
fault_name BadToken = codes "BadToken"
fault_name Syntax = codes "Syntax"
fault_name BadInteger = codes "BadInteger"
fault_name DivideByZero = codes "DivideByZero"
fault_name OutOfRange = codes "OutOfRange"
fault_name BadReferenceWidth = codes "BadReferenceWidth"
fault_name PropertyAfterNode = codes "PropertyAfterNode"
fault_name DuplicateProperty = codes "DuplicateProperty"
fault_name DuplicateNode = codes "DuplicateNode"
fault_name DuplicateLabel = codes "DuplicateLabel"
fault_name NoSuchTarget = codes "NoSuchTarget"
fault_name UnresolvedReference = codes "UnresolvedReference"
fault_name BadPhandle = codes "BadPhandle"
fault_name DuplicatePhandle = codes "DuplicatePhandle"
fault_name ReservedName = codes "ReservedName"
fault_name OverlayDelete = codes "OverlayDelete"
fault_name OverlayPhandle = codes "OverlayPhandle"
fault_name OverlayPathReference = codes "OverlayPathReference"
fault_name OverlayReserve = codes "OverlayReserve"
fault_name OutsideContent = codes "OutsideContent"
fault_name BadFragment = codes "BadFragment"
fault_name ShortHeader = codes "ShortHeader"
fault_name BadMagic = codes "BadMagic"
fault_name BadTotal = codes "BadTotal"
fault_name BadVersion = codes "BadVersion"
fault_name Misaligned = codes "Misaligned"
fault_name BlockOutside = codes "BlockOutside"
fault_name NoReservationEnd = codes "NoReservationEnd"
fault_name BadTag = codes "BadTag"
fault_name StructureCut = codes "StructureCut"
fault_name BadName = codes "BadName"
fault_name BadNameOffset = codes "BadNameOffset"
fault_name BadNesting = codes "BadNesting"
fault_name LateProperty = codes "LateProperty"
fault_name Duplicate = codes "Duplicate"
fault_name BadEnd = codes "BadEnd"
fault_name BlobPhandle = codes "BlobPhandle"
fault_name NoSymbol = codes "NoSymbol"
fault_name BadSymbol = codes "BadSymbol"
fault_name NoTarget = codes "NoTarget"
fault_name BadFixup = codes "BadFixup"
fault_name BadLocalFixup = codes "BadLocalFixup"
fault_name NoFragmentTarget = codes "NoFragmentTarget"
fault_name ReservedPlace = codes "ReservedPlace"
fault_name NoNode = codes "NoNode"
fault_name NoReg = codes "NoReg"
fault_name BadCells = codes "BadCells"
fault_name NotMapped = codes "NotMapped"
fault_name NoRanges = codes "NoRanges"
fault_name PciBus = codes "PciBus"
fault_name Overflow = codes "Overflow"
fault_name NoInterrupts = codes "NoInterrupts"
fault_name NoParent = codes "NoParent"
fault_name Loop = codes "Loop"
fault_name BadMap = codes "BadMap"
fault_name NoMapEntry = codes "NoMapEntry"
fault_name NoUnitAddress = codes "NoUnitAddress"
fault_name UnknownPhandle = codes "UnknownPhandle"
fault_name WriteFault = codes "WriteFault"
fault_name ReadFault = codes "ReadFault"

-- `fault N Name`
abbrev pub kind_text : FaultKind → List ℕ
kind_text kind = codes "fault " ++ (decimal (fault_number kind) ++ (codes " " ++ fault_name kind))

-- ` at P` where there is a place, in bytes from the start of the input
abbrev pub place_text : Option ℕ → List ℕ
place_text None = []
place_text (Some place) = codes " at " ++ decimal place

-- `fault N Name`, and ` at P` where the fault has a place
abbrev pub fault_text : Fault → List ℕ
fault_text fault = kind_text fault.kind ++ place_text fault.at

-- a fault without a place
abbrev pub placeless : FaultKind → Fault
placeless kind = record { kind = kind; at = None }

-- memory was refused, which has no place
abbrev pub IsNoMemory : Fault → Type 0
IsNoMemory fault = (fault.kind ≡ NoMemory) × (fault.at ≡ None)

-- memory was refused, or the kind has its reason; neither has a place
abbrev pub IsMemoryOr : (FaultKind → Type 0) → Fault → Type 0
IsMemoryOr why fault = (fault.at ≡ None) × ((fault.kind ≡ NoMemory) ⊎ why fault.kind)

-- what is answered isn't refused, unless memory is wanted
abbrev pub IsExclusive : (answered : Type 0) (refused : FaultKind → Type 0) → Type 0
IsExclusive answered refused = (kind : FaultKind) → answered → refused kind → kind ≡ NoMemory

-- what is refused is refused for one reason, unless memory is wanted
abbrev pub IsOneRefusal : (refused : FaultKind → Type 0) → Type 0
IsOneRefusal refused = (kind other : FaultKind) → kind ≢ NoMemory → other ≢ NoMemory → refused kind → refused other → kind ≡ other
