-- The faults that the rules name.
use Rattle.std.specs.Prelude.{◌≡◌, ℕ, None}
use Rattle.dt_model.specs.Names.{Name}
use Rattle.dt_model.specs.Path.{Path}
use Rattle.dt_model.specs.Tree.{Reading}
use Rattle.dt_names.specs.declared.fault.FaultKind.{FaultKind}
use Rattle.dt_names.specs.declared.fault.FaultKind.TheVariants.{NoReg, BadCells, NotMapped, NoRanges, PciBus, Overflow, NoInterrupts, NoParent, Loop, BadMap, NoMapEntry, NoUnitAddress, UnknownPhandle}
use Rattle.dt_resolve_model.specs.Answers.{Answer, undetermined, refused, answer}
use Rattle.dt_resolve_model.specs.World.{tree_world}
use Rattle.dt_resolve_model.specs.Regions.{region, dma_region}
use Rattle.dt_resolve_model.specs.Interrupts.{Route, IsRoute, interrupt_at}
use Rattle.dt_resolve_model.specs.Specifiers.{specifier_route, specifier_at}

-- those of regions
abbrev pub IsRegionFault : FaultKind → Type 0
IsRegionFault NoReg = Unit {0}
IsRegionFault BadCells = Unit {0}
IsRegionFault NotMapped = Unit {0}
IsRegionFault NoRanges = Unit {0}
IsRegionFault PciBus = Unit {0}
IsRegionFault Overflow = Unit {0}
IsRegionFault _ = ⊥

-- those of interrupts' routes
abbrev pub IsRouteFault : FaultKind → Type 0
IsRouteFault BadCells = Unit {0}
IsRouteFault NoInterrupts = Unit {0}
IsRouteFault NoParent = Unit {0}
IsRouteFault Loop = Unit {0}
IsRouteFault BadMap = Unit {0}
IsRouteFault NoMapEntry = Unit {0}
IsRouteFault NoUnitAddress = Unit {0}
IsRouteFault UnknownPhandle = Unit {0}
IsRouteFault _ = ⊥

-- those of specifiers' routes
abbrev pub IsSpecifierFault : FaultKind → Type 0
IsSpecifierFault NoInterrupts = Unit {0}
IsSpecifierFault BadCells = Unit {0}
IsSpecifierFault UnknownPhandle = Unit {0}
IsSpecifierFault BadMap = Unit {0}
IsSpecifierFault NoMapEntry = Unit {0}
IsSpecifierFault Loop = Unit {0}
IsSpecifierFault _ = ⊥

-- where an answer is a refusal, it is for such a fault, without a place
abbrev pub IsRefusedFor : {A : Type 0} → (FaultKind → Type 0) → Answer A → Type 0
IsRefusedFor is undetermined = Unit {0}
IsRefusedFor is (refused fault) = is fault.kind × (fault.at ≡ None)
IsRefusedFor is (answer a) = Unit {0}

-- a tree's refusals
pub record AreNamed (t : Reading) : Type 0 where
  pub regions : (p : Path) (index : ℕ) → IsRefusedFor IsRegionFault (region (tree_world t) p index)
  pub dma_regions : (p : Path) (address size : ℕ) → IsRefusedFor IsRegionFault (dma_region (tree_world t) p address size)
  pub routes : (p : Path) (index : ℕ) (r : Answer Route) → IsRoute (tree_world t) p index r → IsRefusedFor IsRouteFault r
  pub specifiers : (p : Path) (property kind : Name) (index : ℕ) → IsRefusedFor IsSpecifierFault (specifier_route (tree_world t) p property kind index)
  pub interrupts_at : (p : Path) (at : ℕ) → IsRefusedFor IsRouteFault (interrupt_at (tree_world t) p at)
  pub specifiers_at : (p : Path) (property kind : Name) (at : ℕ) → IsRefusedFor IsSpecifierFault (specifier_at (tree_world t) p property kind at)
