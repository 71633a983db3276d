-- The kinds of the compiler's faults.
use Rattle.std.proofs.Common.{List, ℕ, sym, subst}
use Rattle.dt_names.specs.declared.fault.Fault.{Fault}
use Rattle.dt_names.specs.declared.fault.FaultKind.{FaultKind}
use Rattle.dt_names.specs.declared.fault.FaultKind.TheVariants.{NoMemory, Limit, BadVersionTag, BadToken, BadInteger, BadName, PropertyAfterNode, BadReferenceWidth, DivideByZero, OutOfRange, Syntax, OverlayReserve}
use Rattle.dt_model.specs.OverlaySource.{as_any, overlay_delete, overlay_phandle, overlay_path, bad_fragment, outside_content}
use Rattle.dt_model.specs.Refused.{SourceRefusal, OverlaySourceRefusal, at_place, at_end, too_many}
use Rattle.dt_model.specs.Source.{Mode, base, duplicate_property, duplicate_node, duplicate_label, no_such_target, reserved_name, too_deep, misplaced, unresolved, bad_phandle, duplicate_phandle}
use Rattle.dt_grammar.specs.Grammar.{Says}
use Rattle.dt_parse.specs.Reading.{IsSourceFault}
use Rattle.dt_parse.proofs.Parsing.{source_kind}
use Rattle.dt_source.specs.Refusals.{WhyNotNamed, fault_kind, WhyNoOverlay, overlay_fault_kind}
use Rattle.dt_chain_promises.specs.Compile.{WhyNoTree, WhyNotCompiled, WhyNotCompiledOverlay, WhyNoBlob, IsCompilerFault, no_memory, unparsed, unnamed, many, no_tree, big, refused, large, as_base, as_overlay}

-- ---- of a base, or of a source as it stands

refusal_kind : (r : SourceRefusal) → IsCompilerFault (fault_kind r)
refusal_kind (at_place duplicate_property) = tt
refusal_kind (at_place duplicate_node) = tt
refusal_kind (at_place duplicate_label) = tt
refusal_kind (at_place no_such_target) = tt
refusal_kind (at_place reserved_name) = tt
refusal_kind (at_place too_deep) = tt
refusal_kind (at_place misplaced) = tt
refusal_kind (at_end unresolved) = tt
refusal_kind (at_end bad_phandle) = tt
refusal_kind (at_end duplicate_phandle) = tt
refusal_kind too_many = tt

named_kind : (mode : Mode) (s : Says) (kind : FaultKind) → WhyNotNamed mode kind s → IsCompilerFault kind
named_kind mode s NoMemory why = tt
named_kind mode s BadVersionTag why = tt
named_kind mode s _ why = subst IsCompilerFault (sym why.told) (refusal_kind why.refusal)

of_source : (k : FaultKind) → IsSourceFault k → IsCompilerFault k
of_source NoMemory h = tt
of_source Limit h = tt
of_source BadVersionTag h = tt
of_source BadToken h = tt
of_source BadInteger h = tt
of_source BadName h = tt
of_source PropertyAfterNode h = tt
of_source BadReferenceWidth h = tt
of_source DivideByZero h = tt
of_source OutOfRange h = tt
of_source Syntax h = tt
of_source _ h = absurd h

tree_kind : (mode : Mode) (text : List ℕ) (e : Fault) → WhyNoTree mode text e → IsCompilerFault e.kind
tree_kind mode text _ no_memory = tt
tree_kind mode text _ (unparsed e why) = of_source e.kind (source_kind text e why)
tree_kind mode text _ (unnamed s kind parsed why) = named_kind mode s kind why
tree_kind mode text _ (many t h more) = tt

pub base_kind : (mode : Mode) (text : List ℕ) (e : Fault) → WhyNotCompiled mode text e → IsCompilerFault e.kind
base_kind mode text _ no_memory = tt
base_kind mode text _ (no_tree e why) = tree_kind mode text e why
base_kind mode text _ (big t h more) = tt

-- ---- of an overlay's source

overlay_refusal_kind : (r : OverlaySourceRefusal) → IsCompilerFault (overlay_fault_kind r)
overlay_refusal_kind (at_place (as_any duplicate_property)) = tt
overlay_refusal_kind (at_place (as_any duplicate_node)) = tt
overlay_refusal_kind (at_place (as_any duplicate_label)) = tt
overlay_refusal_kind (at_place (as_any no_such_target)) = tt
overlay_refusal_kind (at_place (as_any reserved_name)) = tt
overlay_refusal_kind (at_place (as_any too_deep)) = tt
overlay_refusal_kind (at_place (as_any misplaced)) = tt
overlay_refusal_kind (at_place overlay_delete) = tt
overlay_refusal_kind (at_place overlay_phandle) = tt
overlay_refusal_kind (at_place overlay_path) = tt
overlay_refusal_kind (at_end bad_fragment) = tt
overlay_refusal_kind (at_end outside_content) = tt
overlay_refusal_kind too_many = tt

no_overlay_kind : (s : Says) (kind : FaultKind) → WhyNoOverlay kind s → IsCompilerFault kind
no_overlay_kind s NoMemory why = tt
no_overlay_kind s BadVersionTag why = tt
no_overlay_kind s OverlayReserve why = tt
no_overlay_kind s _ why = subst IsCompilerFault (sym why.told) (overlay_refusal_kind why.refusal)

pub overlay_kind : (text : List ℕ) (e : Fault) → WhyNotCompiledOverlay text e → IsCompilerFault e.kind
overlay_kind text _ no_memory = tt
overlay_kind text _ (refused s kind parsed why) = no_overlay_kind s kind why
overlay_kind text _ (large t h more) = tt
overlay_kind text _ (big t h more) = tt

-- ---- of either

pub blob_kind : (text : List ℕ) (e : Fault) → WhyNoBlob text e → IsCompilerFault e.kind
blob_kind text _ no_memory = tt
blob_kind text _ (unparsed e why) = of_source e.kind (source_kind text e why)
blob_kind text _ (as_base s e parsed plain why) = base_kind base text e why
blob_kind text _ (as_overlay s e parsed plugin why) = overlay_kind text e why
