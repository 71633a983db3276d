-- Why a source has no tree, and an overlay's source none.
use Rattle.std.specs.Prelude.{◌≡◌, ◌≢◌, ◌⊎◌, ℕ, true, false, List, [], Option, Some, None}
use Rattle.dt_model.specs.Source.{Place, unresolved, bad_phandle, duplicate_phandle}
use Rattle.dt_model.specs.OverlaySource.{bad_fragment, outside_content}
use Rattle.dt_model.specs.Refused.{SourceRefusal, OverlaySourceRefusal, at_place, at_end, too_many, IsRefusedFor, IsOverlayRefusedFor}
use Rattle.dt_model.specs.Source as model
use Rattle.dt_grammar.specs.Grammar.{Says}
use Rattle.dt_names.specs.declared.fault.Fault.{Fault}
use Rattle.dt_names.specs.declared.fault.FaultKind.{FaultKind}
use Rattle.dt_names.specs.declared.fault.FaultKind.TheVariants.{NoMemory, Limit, BadVersionTag, UnresolvedReference, BadPhandle, DuplicatePhandle, OverlayReserve, OutsideContent, BadFragment}
use Rattle.dt_source_bodies.specs.Refusals.{refusal_kind, overlay_kind}

-- ---- of a whole source

-- the kind of fault for places that mean nothing, or too much
abbrev pub fault_kind : SourceRefusal → FaultKind
fault_kind (at_place r) = refusal_kind r
fault_kind (at_end unresolved) = UnresolvedReference
fault_kind (at_end bad_phandle) = BadPhandle
fault_kind (at_end duplicate_phandle) = DuplicatePhandle
fault_kind too_many = Limit

-- a fault without a place: memory was refused, or it is why places mean nothing, or too much
abbrev pub WhyNotRead : model.Mode → List Place → Fault → Type 0
WhyNotRead mode places fault =
    (fault.at ≡ None) × ((fault.kind ≡ NoMemory) ⊎ ((r : SourceRefusal) × IsRefusedFor mode places r × (fault.kind ≡ fault_kind r)))

-- the source is no overlay's, and its places are refused for this
pub record IsFaultOf (mode : model.Mode) (s : Says) (kind : FaultKind) : Type 0 where
  pub plain : s.plugin ≡ false
  pub refusal : SourceRefusal
  pub refused : IsRefusedFor mode s.places refusal
  pub told : kind ≡ fault_kind refusal

-- memory may be refused at any time; the source is an overlay's; or else its places are refused
abbrev pub WhyNotNamed : model.Mode → FaultKind → Says → Type 0
WhyNotNamed mode NoMemory s = Unit {0}
WhyNotNamed mode BadVersionTag s = s.plugin ≡ true
WhyNotNamed mode kind s = IsFaultOf mode s kind

-- ---- of a whole overlay's source

-- the kind of fault for its places that mean nothing, or too much
abbrev pub overlay_fault_kind : OverlaySourceRefusal → FaultKind
overlay_fault_kind (at_place r) = overlay_kind r
overlay_fault_kind (at_end bad_fragment) = BadFragment
overlay_fault_kind (at_end outside_content) = OutsideContent
overlay_fault_kind too_many = Limit

-- a fault without a place: memory was refused, or it is why the places mean nothing, or too much
abbrev pub WhyNoOverlayRead : List Place → Fault → Type 0
WhyNoOverlayRead places fault =
    (fault.at ≡ None) × ((fault.kind ≡ NoMemory) ⊎ ((r : OverlaySourceRefusal) × IsOverlayRefusedFor places r × (fault.kind ≡ overlay_fault_kind r)))

-- the source is an overlay's without memory reservations, and its places are refused for this
pub record IsOverlayFaultOf (s : Says) (kind : FaultKind) : Type 0 where
  pub plugin : s.plugin ≡ true
  pub reservations : s.reservations ≡ []
  pub refusal : OverlaySourceRefusal
  pub refused : IsOverlayRefusedFor s.places refusal
  pub told : kind ≡ overlay_fault_kind refusal

-- memory may be refused at any time; the source is no overlay's; it reserves memory; or else its places are refused
abbrev pub WhyNoOverlay : FaultKind → Says → Type 0
WhyNoOverlay NoMemory s = Unit {0}
WhyNoOverlay BadVersionTag s = s.plugin ≡ false
WhyNoOverlay OverlayReserve s = (s.plugin ≡ true) × (s.reservations ≢ [])
WhyNoOverlay kind s = IsOverlayFaultOf s kind

-- a source of the other kind is reported at its start, any other fault without a place
abbrev pub fault_place : FaultKind → Option ℕ
fault_place BadVersionTag = Some 0
fault_place _ = None
