-- An input's object, read from its bytes or compiled from its text.
use Rattle.std.proofs.Common.{◌≡◌, ℕ, List, None, sym, ap, subst, ◌∙◌}
use Rattle.dt_names.specs.declared.fault.Fault.{Fault}
use Rattle.dt_names.specs.declared.fault.FaultKind.TheVariants.{NoMemory}
use Rattle.dt_model.specs.Tree.{Reading}
use Rattle.dt_model_format.specs.Laws.{BlobHasNoFault}
use Rattle.dt_overlay_laws.specs.Refusals.{has_many, WhyNotApplied}
use Rattle.dt_names.specs.Fault.{placeless}
use Rattle.dt_chain_promises.specs.Apply.{WhyNoStep, no_memory, no_object, not_applied, IsRead, IsNoBlob}
use Rattle.dt_chain_promises.specs.Build.{HasObject, WhyNoObject}
use Rattle.dt_chain_promises.proofs.AppliedOutcomes.{OneReading}
use Rattle.dt_chain.proofs.Stages.{fault_is}
use Rattle.dt_chain.proofs.OverlayStages.{HasObjectBlob}
use Rattle.dt_chain.proofs.Turns.{Goes}

-- want of memory is told without a place
pub memory_told : (fault : Fault) → (fault.kind ≡ NoMemory) × (fault.at ≡ None) → fault ≡ placeless NoMemory
memory_told fault why = sym (ap placeless (sym why.0) ∙ fault_is fault None why.1)

-- an object that is read isn't applied for this reason
pub read_not_applied : (t object : Reading) (input : List ℕ) (fault : Fault) → IsRead input object → (fault.at ≡ None) × WhyNotApplied has_many fault.kind t object
    → WhyNoStep IsRead IsNoBlob t input fault
read_not_applied t object input fault read why =
    subst (WhyNoStep IsRead IsNoBlob t input) (fault_is fault None why.0) (not_applied object fault.kind read why.1)

-- ---- the object of a text

-- what is read from the blob of a text's object is the object
pub of_text : OneReading → (text blob : List ℕ) (now next : Reading) → HasObjectBlob text blob → Goes IsRead blob now next → Goes HasObject text now next
of_text one text blob now next h s = (s.0, subst (HasObject text) (one blob h.0 s.0 h.2.reads s.1.reads) h.1, s.2)

pub not_of_text : OneReading → BlobHasNoFault → (text blob : List ℕ) (now : Reading) (e : Fault) → HasObjectBlob text blob → WhyNoStep IsRead IsNoBlob now blob e → WhyNoStep HasObject WhyNoObject now text e
not_of_text one none text blob now _ h no_memory = no_memory
not_of_text one none text blob now _ h (no_object e why) = absurd (none blob h.0 why.fault e.at h.2.reads h.2.within why.first)
not_of_text one none text blob now _ h (not_applied object kind read why) = not_applied object kind (subst (HasObject text) (one blob h.0 object h.2.reads read.reads) h.1) why
