-- What crosses to C, and what it is there.
use Rattle.std.specs.Prelude.{◌≡◌, ℕ, ◌+◌, ◌*◌, Bool, true, false, Option, Some, None}
use Rattle.dt_names.specs.Fault.{fault_number}
use Rattle.dt_names.specs.declared.fault.Fault.{Fault}
use Rattle.dt_read.specs.declared.spans.Span.{Span}
use Rattle.dt_resolve_model.specs.declared.regions.Region.{Region}
use Rattle.dt_irq.specs.declared.reached.Route.{Route}
use Rattle.dt_c.specs.declared.crossing.CFault.{CFault}
use Rattle.dt_c.specs.declared.crossing.CSpan.{CSpan}
use Rattle.dt_c.specs.declared.crossing.CRegion.{CRegion}
use Rattle.dt_c.specs.declared.crossing.CRoute.{CRoute}

-- what a call gives: what it wrote, where it answered true
abbrev pub given : {A : Type 0} → Bool → A → Option A
given false x = None
given true x = Some x

-- the fault, as C has it
abbrev pub IsFault : Fault → CFault → Type 0
IsFault fault c = (c.number ≡ fault_number fault.kind) × (given c.has_place c.place ≡ fault.at)

-- a refusal, as C has it, for a reason
abbrev pub IsRefused : (Fault → Type 0) → CFault → Type 0
IsRefused why c = (fault : Fault) × why fault × IsFault fault c

-- bytes of the blob, as C has them
abbrev pub span_of : CSpan → Span
span_of s = record { at = s.at; len = s.len }

-- a number of 128 bits, by its lower and its higher half
abbrev pub wide : ℕ → ℕ → ℕ
wide low high = low + 18446744073709551616 * high

abbrev pub region_of : CRegion → Region
region_of r = record { address = wide r.address_low r.address_high; size = wide r.size_low r.size_high; whole = r.whole }

abbrev pub route_of : CRoute → Route
route_of r = record { controller = r.controller; cells = r.cells; len = r.len; hops = r.hops }
