-- Building a blob from sources answers one blob, or refuses for one fault, and not both.
use Rattle.std.proofs.Common.{◌≡◌, ◌≢◌, ℕ, List, inl, inr, refl}
use Rattle.dt_model.specs.Source.{Mode, base}
use Rattle.dt_model.specs.Tree.{Reading}
use Rattle.dt_model.specs.Valid.{IsWithinLimits}
use Rattle.dt_names.specs.declared.fault.Fault.{Fault}
use Rattle.dt_names.specs.declared.fault.FaultKind.TheVariants.{NoMemory}
use Rattle.dt_model_laws.specs.CompiledTrees.{OneTree}
use Rattle.dt_model_laws.specs.OverlayTrees.{OneObject, OverlayRefusalIsOne, OverlayIsNotRefused, ObjectIsNotRefused}
use Rattle.dt_overlay_laws.specs.Outcomes.{AppliedIsNotRefused, LimitIsExceeded, OneRefusal}
use Rattle.dt_overlay_model.specs.InTurn.{AppliedIsOne}
use Rattle.dt_grammar.specs.Parsed.{WhyNotParsed}
use Rattle.dt_write.specs.Written.{written}
use Rattle.dt_chain_promises.specs.Compile.{TextHasTree, WhyNoTree, WhyNotCompiledOverlay}
use Rattle.dt_chain_promises.specs.Compile as compile
use Rattle.dt_chain_promises.specs.Build.{HasBaseTree, HasObject, WhyNoObject}
use Rattle.dt_chain_promises.specs.Laws.{OneBlobBuilt, BuiltIsNotRefused, OneRefusalToBuild}
use Rattle.dt_chain_promises.proofs.Outcomes as bases
use Rattle.dt_chain_promises.proofs.Outcomes.{SaidOnce, SaidOnly, FaultOnce}
use Rattle.dt_chain_promises.proofs.OverlayOutcomes as overlays
use Rattle.dt_chain_promises.proofs.ChainOutcomes as chain
use Rattle.dt_chain_promises.proofs.ChainOutcomes.{HasOne, HasFine, HasOrLacks, LacksOnce}

-- a text that has a tree within the limits is refused only where memory is wanted
abbrev pub TreeIsNotRefused : Type 0
TreeIsNotRefused = (mode : Mode) (text : List ℕ) (t : Reading) (e : Fault) → TextHasTree mode text t → IsWithinLimits t → WhyNoTree mode text e → e.kind ≡ NoMemory

-- one that has none is refused for one fault, unless memory is wanted
abbrev pub NoTreeOnce : Type 0
NoTreeOnce = (mode : Mode) (text : List ℕ) (e f : Fault) → WhyNoTree mode text e → WhyNoTree mode text f → e.kind ≢ NoMemory → f.kind ≢ NoMemory → e ≡ f

pub base_fine : HasFine HasBaseTree
base_fine text t h = record { valid = h.valid; within = h.within }

object_fine : HasFine HasObject
object_fine text t h = record { valid = h.valid; within = h.within }

base_not_refused : TreeIsNotRefused → HasOrLacks HasBaseTree (WhyNoTree base)
base_not_refused not text t e h why = not base text t e h.of_text h.within why

module _ (once : SaidOnce) where
  base_once : OneTree → HasOne HasBaseTree
  base_once one text t u h k = bases.tree_once once one base text t u h.of_text k.of_text

  object_once : OneObject → HasOne HasObject
  object_once one text t u h k = overlays.tree_once once one text t u h.of_text k.of_text

  module _ (tree_one : OneTree) (object_one : OneObject) (applied : AppliedIsOne) where
    pub blob_once : OneBlobBuilt
    blob_once = chain.blob_once HasBaseTree HasObject (base_once tree_one) (object_once object_one) applied

    module _ (only : SaidOnly) (tree_not : TreeIsNotRefused) (object_not : ObjectIsNotRefused) (not : AppliedIsNotRefused) (limit : LimitIsExceeded) where
      object_not_refused : HasOrLacks HasObject WhyNoObject
      object_not_refused text t e h (inl why) = only text h.of_text.says e h.of_text.parsed why
      object_not_refused text t e h (inr why) =
          overlays.compiled_not_refused once object_one object_not text (written t) e
          (record { tree = t; of_text = h.of_text; is = refl; within = h.within; size = h.size }) why

      pub blob_not_refused : BuiltIsNotRefused
      blob_not_refused =
          chain.blob_not_refused HasBaseTree HasObject (WhyNoTree base) WhyNoObject (base_once tree_one) (object_once object_one) applied base_fine object_fine
          (base_not_refused tree_not) object_not_refused not limit

      module _ (fault : FaultOnce) (no_tree_once : NoTreeOnce) (one : OverlayRefusalIsOne) (meant : OverlayIsNotRefused) where
        -- a text that is no source isn't refused as an overlay's
        unparsed_only : (text : List ℕ) (e f : Fault) → WhyNotParsed text e → WhyNotCompiledOverlay text f → e.kind ≢ NoMemory → f.kind ≢ NoMemory → ⊥
        unparsed_only text e _ why compile.no_memory wanted wanted' = wanted' refl
        unparsed_only text e _ why (compile.refused s kind parsed other) wanted wanted' = wanted (only text s e parsed why)
        unparsed_only text e _ why (compile.large t h more) wanted wanted' = wanted (only text h.says e h.parsed why)
        unparsed_only text e _ why (compile.big t h more) wanted wanted' = wanted (only text h.says e h.parsed why)

        no_object_once : LacksOnce WhyNoObject
        no_object_once text e f (inl why) (inl other) wanted wanted' = fault text e f why other wanted wanted'
        no_object_once text e f (inl why) (inr other) wanted wanted' = absurd (unparsed_only text e f why other wanted wanted')
        no_object_once text e f (inr why) (inl other) wanted wanted' = absurd (unparsed_only text f e other why wanted' wanted)
        no_object_once text e f (inr why) (inr other) wanted wanted' = overlays.refused_once once one meant text e f why other wanted wanted'

        pub refused_once : OneRefusal → OneRefusalToBuild
        refused_once refusal =
            chain.refused_once HasBaseTree HasObject (WhyNoTree base) WhyNoObject (base_once tree_one) (object_once object_one) applied base_fine object_fine
            (base_not_refused tree_not) object_not_refused not limit (no_tree_once base) no_object_once refusal
