-- What the fragments of an overlay say, and what was looked at in the nodes of its tree.
use Rattle.std.specs.Prelude.{◌≡◌, List, None}
use Rattle.dt_model.specs.Named.{NodeReference, NamedProperty, Listed}
use Rattle.dt_model.specs.NamedOverlay.{NamedTarget, to_reference, to_text, NamedFragment}
use Rattle.dt_model_laws.specs.OverlayChecks.{HoldTarget, HasUntargeted, AreUncontained}
use Rattle.dt_names.specs.declared.fault.Fault.{Fault}
use Rattle.dt_names.specs.declared.fault.FaultKind.{FaultKind}
use Rattle.dt_names.specs.declared.fault.FaultKind.TheVariants.{NoMemory, BadFragment, OutsideContent}
use Rattle.dt_source_named_tree.specs.Said.{reference_said}
use Rattle.dt_source_fragments.specs.declared.fragments.SourceTarget.{SourceTarget}
use Rattle.dt_source_fragments.specs.declared.fragments.SourceTarget.TheVariants.{Reference, Path}
use Rattle.dt_source_fragments.specs.declared.fragments.Fragment.{Fragment}

abbrev pub target_said : SourceTarget → NamedTarget
target_said (Reference r) = to_reference (reference_said r)
target_said (Path text) = to_text text.items

abbrev pub fragment_said : Fragment → NamedFragment
fragment_said f = record { node = f.node; target = target_said f.target }

-- memory was refused, or a node with these properties holds no target
abbrev pub WhyNoTarget : List (NamedProperty NodeReference) → FaultKind → Type 0
WhyNoTarget ps NoMemory = Unit {0}
WhyNoTarget ps BadFragment = (target : NamedTarget) → HoldTarget ps target → ⊥
WhyNoTarget ps kind = ⊥

-- memory was refused, or this is wrong with the nodes
abbrev pub WhyUnchecked : List (Listed NodeReference) → FaultKind → Type 0
WhyUnchecked ns NoMemory = Unit {0}
WhyUnchecked ns BadFragment = HasUntargeted ns
WhyUnchecked ns OutsideContent = AreUncontained ns
WhyUnchecked ns kind = ⊥

abbrev pub IsUnchecked : List (Listed NodeReference) → Fault → Type 0
IsUnchecked ns e = (e.at ≡ None) × WhyUnchecked ns e.kind
