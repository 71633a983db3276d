-- What building a blob from sources answers is a blob of what their texts mean, merged one after another.
use Rattle.std.proofs.Common.{◌≡◌, ◌≢◌, ℕ, inl, inr, List, [], ◌∷◌, refl, sym, subst, ◌∙◌}
use Rattle.std.specs.List.{AllByRecursion}
use Rattle.dt_model.specs.Meaning.{Meaning}
use Rattle.dt_model.specs.Overlay.{Overlay}
use Rattle.dt_model.specs.Merged.{Site, merged, IsFold}
use Rattle.dt_model.specs.Source.{base}
use Rattle.dt_model.specs.Tree.{Reading}
use Rattle.dt_names.specs.declared.fault.Fault.{Fault}
use Rattle.dt_names.specs.declared.fault.FaultKind.TheVariants.{NoMemory, Limit}
use Rattle.dt_model_laws.specs.CompiledTrees.{BaseTreeRepresents, MeantIsNotRefused}
use Rattle.dt_model_laws.specs.Applying.{IsObject}
use Rattle.dt_model.specs.Represents.{IsOf}
use Rattle.dt_overlay_model.specs.InTurn.{InTurnIsFold}
use Rattle.dt_overlay_model.specs.Joining.{SitesAreOne}
use Rattle.dt_model_laws.specs.OverlayTrees.{OneOverlay, OverlayIsNotRefused}
use Rattle.dt_model_laws.specs.ShortValues.{ReadValuesAreShort, ShortObjectEncodes}
use Rattle.dt_model_laws.specs.Sources.{SourceIsMeaning, SourceIsPlain, OverlaySourceIsOverlay}
use Rattle.dt_overlay_laws.specs.Outcomes.{RefusedIsUndefined}
use Rattle.dt_chain_promises.specs.Compile.{OverlayTextMeans}
use Rattle.dt_chain_promises.specs.Apply as inputs
use Rattle.dt_chain_promises.specs.Apply.{AreSteps}
use Rattle.dt_chain_promises.specs.Build.{HasBaseTree, HasObject, WhyNoObject, WhyNoBlobBuilt}
use Rattle.dt_chain_promises.specs.Laws.{IsOfBytes, TextsMean, OneMergedMeaning, BuildingIsMerging, NotBuiltIsNoMeaning}
use Rattle.dt_chain_promises.proofs.Outcomes.{SaidOnce, SaidOnly, WrittenReads, meaning_once}
use Rattle.dt_chain_promises.proofs.CompiledMeanings.{PlacesAre, SomeAre, base_boot_cpu, base_is, some_object, meant_not_refused, overlay_not_refused}
use Rattle.dt_chain_promises.proofs.OverlayOutcomes.{overlay_once}
use Rattle.dt_chain_promises.proofs.ChainOutcomes.{steps_fine}
use Rattle.dt_chain_promises.proofs.ChainMeanings.{AreEach, steps_keep_boot_cpu, steps_merge, stopped_merge_not}
use Rattle.dt_chain_promises.proofs.AppliedMeanings.{WrittenIsWithin, written_is_read}
use Rattle.dt_chain_promises.proofs.BuiltOutcomes.{base_fine}

-- the text is one of bytes, and means the overlay
abbrev IsTextOf : List ℕ → Overlay → Type 0
IsTextOf text o = IsOfBytes text × OverlayTextMeans text o

are_each : (texts : List (List ℕ)) (overlays : List Overlay) → AllByRecursion IsOfBytes texts → TextsMean texts overlays → AreEach IsTextOf texts overlays
are_each [] [] bytes means = tt
are_each [] (o ∷ overlays) bytes means = absurd means
are_each (x ∷ texts) [] bytes means = absurd means
are_each (x ∷ texts) (o ∷ overlays) bytes means = ((bytes.0, means.0), are_each texts overlays bytes.1 means.1)

-- ---- one meaning of all

overlays_once : SaidOnce → OneOverlay → (texts : List (List ℕ)) (os qs : List Overlay) → TextsMean texts os → TextsMean texts qs → os ≡ qs
overlays_once once one [] [] [] h k = refl
overlays_once once one [] [] (q ∷ qs) h k = absurd k
overlays_once once one [] (o ∷ os) qs h k = absurd h
overlays_once once one (x ∷ texts) [] qs h k = absurd h
overlays_once once one (x ∷ texts) (o ∷ os) [] h k = absurd k
overlays_once once one (x ∷ texts) (o ∷ os) (q ∷ qs) h k =
    let first = overlay_once once one x o q h.0 k.0 in
    let more = overlays_once once one texts os qs h.1 k.1 in
    cc

fold_once : SitesAreOne → (m : Meaning) (os : List Overlay) (a b : Meaning) → IsFold m os a → IsFold m os b → a ≡ b
fold_once sites m [] a b h k = h ∙ sym k
fold_once sites m (o ∷ os) a b h k =
    let same : h.0 ≡ k.0 = sites m o h.0 k.0 h.1 k.1 in
    fold_once sites (merged m o k.0) os a b (subst (λ (s : List Site). IsFold (merged m o s) os a) same h.2) k.2

pub merged_once : SaidOnce → OneOverlay → SitesAreOne → OneMergedMeaning
merged_once once one sites text texts m n h k =
    let base_same : h.meaning ≡ k.meaning = meaning_once once base text h.meaning k.meaning h.means k.means in
    let same : h.overlays ≡ k.overlays = overlays_once once one texts h.overlays k.overlays h.of_overlays k.of_overlays in
    fold_once sites k.meaning k.overlays m n
    (subst (λ (x : Meaning). IsFold x k.overlays m) base_same (subst (λ (os : List Overlay). IsFold h.meaning os m) same h.fold)) k.fold

-- ---- what is built

module _ (places : PlacesAre) (reads : WrittenReads) (encodes : ShortObjectEncodes) (short : ReadValuesAreShort) (is_overlay : OverlaySourceIsOverlay) where
  -- each text whose object is applied means some overlay
  some_overlays : (t : Reading) (texts : List (List ℕ)) (result : Reading) → AllByRecursion IsOfBytes texts → AreSteps HasObject t texts result
      → (overlays : List Overlay) × TextsMean texts overlays
  some_overlays t [] result bytes h = ([], tt)
  some_overlays t (x ∷ texts) result bytes h =
      let k = some_object places reads encodes short is_overlay x h.0 bytes.0 h.2 in
      let w = some_overlays h.1 texts result bytes.1 h.4 in
      (k.o ∷ w.0, (k.means, w.1))

  module _ (once : SaidOnce) (one : OneOverlay) where
    object_is : (text : List ℕ) (t : Reading) (o : Overlay) → HasObject text t → IsTextOf text o → IsObject t o
    object_is text t o h means =
        let k = some_object places reads encodes short is_overlay text t means.0 h in
        let same : k.o ≡ o = overlay_once once one text k.o o k.means means.1 in
        subst (IsObject t) same k.of_overlay

    module _ (in_turn : InTurnIsFold) (some : SomeAre) (represents : BaseTreeRepresents) (meaning : SourceIsMeaning) (plain : SourceIsPlain) where
      pub building_is_merging : WrittenIsWithin → BuildingIsMerging
      building_is_merging within text texts blob bytes each h =
          let out = h.outcome in
          let fine = base_fine text out.tree out.of_base in
          let b = base_is places some represents meaning plain text out.tree bytes out.of_base in
          let os = some_overlays out.tree texts h.result each out.steps in
          let w = steps_merge HasObject IsTextOf object_is in_turn out.tree texts os.0 b.meaning b.number h.result b.of_meaning fine.within (are_each texts os.0 each os.1) out.steps in
          let read = written_is_read reads within h.result blob (steps_fine HasBaseTree HasObject out.tree texts h.result fine out.steps) h.is h.size in
          record {
            result = w.0;
            merged = record { meaning = b.meaning; means = b.means; overlays = os.0; of_overlays = os.1; fold = w.2 };
            base_tree = out.tree;
            of_base = out.of_base;
            before = b.number;
            base_represents = b.of_meaning.represents;
            number = w.1;
            extends = w.4;
            of_meaning = record { tree = h.result; read = read; represents = w.3.represents; meaning = w.3.meaning; plain = w.3.plain };
            boot_cpu = steps_keep_boot_cpu HasObject out.tree texts h.result out.steps ∙ base_boot_cpu text out.tree out.of_base.of_text;
          }

      -- ---- refused

      module _ (only : SaidOnly) (meant : MeantIsNotRefused) (meant_overlay : OverlayIsNotRefused) where
        text_not_refused : (text : List ℕ) (o : Overlay) (e : Fault) → IsTextOf text o → WhyNoObject text e → e.kind ≢ NoMemory → e.kind ≢ Limit → ⊥
        text_not_refused text o e means (inl why) wanted low = wanted (only text means.1.says e means.1.parsed why)
        text_not_refused text o e means (inr why) wanted low = overlay_not_refused once only meant_overlay text o e means.1 why wanted low

        pub not_built_is_no_meaning : SitesAreOne → RefusedIsUndefined → NotBuiltIsNoMeaning
        not_built_is_no_meaning sites undefined text texts k e result bytes each why wanted low h = step k e why wanted low
          where
            step : (j : ℕ) (f : Fault) → WhyNoBlobBuilt text texts j f → f.kind ≢ NoMemory → f.kind ≢ Limit → ⊥
            step j _ (inputs.no_memory _ few) v l = v refl
            step _ f (inputs.no_base _ other) v l = meant_not_refused once only meant base text h.meaning f h.means other v l
            step j f (inputs.stopped t _ _ of_base stop) v l =
                let b = base_is places some represents meaning plain text t bytes of_base in
                let same : b.meaning ≡ h.meaning = meaning_once once base text b.meaning h.meaning b.means h.means in
                stopped_merge_not HasObject IsTextOf object_is in_turn WhyNoObject text_not_refused sites undefined
                t texts h.overlays h.meaning b.number j f result (subst (λ (m : Meaning). IsOf t m b.number) same b.of_meaning) (base_fine text t of_base)
                (are_each texts h.overlays each h.of_overlays) stop v l h.fold
            step _ _ (inputs.big t outcome more) v l = l refl
