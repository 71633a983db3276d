-- Where the objects of inputs are applied one after another, the overlays that the inputs mean are merged one after another.
use Rattle.std.proofs.Common.{◌≡◌, ◌≢◌, ℕ, List, [], ◌∷◌, ◌++◌, refl, ap, subst, ◌∙◌}
use Rattle.dt_model.specs.Path.{Path}
use Rattle.dt_model.specs.Meaning.{Meaning, Extends}
use Rattle.dt_model.specs.Merged.{Site, merged, IsDefined, IsFold}
use Rattle.dt_model.specs.Overlay.{Overlay}
use Rattle.dt_model.specs.Applied.{Write, writes, with_fragments, with_symbols_merged}
use Rattle.dt_model.specs.Tree.{Property, Reading}
use Rattle.dt_model.specs.Valid.{IsWithinLimits}
use Rattle.dt_names.specs.declared.fault.Fault.{Fault}
use Rattle.dt_names.specs.declared.fault.FaultKind.TheVariants.{NoMemory, Limit}
use Rattle.dt_model_laws.specs.Applying.{AreOf, IsObject, AreObjects}
use Rattle.dt_model.specs.Represents.{IsOf}
use Rattle.dt_overlay_model.specs.InTurn.{IsApplied, AreApplied, InTurnIsFold}
use Rattle.dt_overlay_model.specs.Joining.{SitesAreOne}
use Rattle.dt_overlay_model.specs.Walk.{new_numbers}
use Rattle.dt_overlay_laws.proofs.RefusedOutcomes.{comes_of}
use Rattle.dt_overlay_laws.specs.Outcomes.{RefusedIsUndefined}
use Rattle.dt_chain_promises.specs.Apply as inputs
use Rattle.dt_chain_promises.specs.Apply.{AreSteps, WhyNoStep, IsStopped}
use Rattle.dt_chain_promises.proofs.ChainOutcomes.{IsFine}

-- each input is one of an overlay
abbrev pub AreEach : (List ℕ → Overlay → Type 0) → List (List ℕ) → List Overlay → Type 0
AreEach of [] [] = Unit {0}
AreEach of [] (o ∷ overlays) = ⊥
AreEach of (x ∷ xs) [] = ⊥
AreEach of (x ∷ xs) (o ∷ overlays) = of x o × AreEach of xs overlays

-- ---- boot CPU

fragments_keep_boot_cpu : (ws : List Write) (numbers : List (Path × ℕ)) (object : Reading) (sites : List Site) (t : Reading) → (with_fragments t object ws numbers sites).boot_cpu ≡ t.boot_cpu
fragments_keep_boot_cpu ws numbers object [] t = refl
fragments_keep_boot_cpu ws numbers object (x ∷ sites) t = fragments_keep_boot_cpu ws numbers object sites _

symbols_keep_boot_cpu : (ps : List Property) (t : Reading) → (with_symbols_merged ps t).boot_cpu ≡ t.boot_cpu
symbols_keep_boot_cpu [] t = refl
symbols_keep_boot_cpu (p ∷ ps) t = refl

-- what an object is applied to keeps its boot CPU
application_keeps_boot_cpu : (base object result : Reading) → IsApplied base object result → result.boot_cpu ≡ base.boot_cpu
application_keeps_boot_cpu base object result h =
    let w = comes_of base object h.fixups result h.is in
    let numbers = new_numbers base object w.end in
    ap (λ (t : Reading). t.boot_cpu) w.is ∙ symbols_keep_boot_cpu _ _ ∙ fragments_keep_boot_cpu (writes base object h.fixups numbers) numbers object w.end.sites base

module _ (has_object : List ℕ → Reading → Type 0) where
  pub steps_keep_boot_cpu : (t : Reading) (xs : List (List ℕ)) (result : Reading) → AreSteps has_object t xs result → result.boot_cpu ≡ t.boot_cpu
  steps_keep_boot_cpu t [] result h = ap (λ (u : Reading). u.boot_cpu) h
  steps_keep_boot_cpu t (x ∷ xs) result h = steps_keep_boot_cpu h.1 xs result h.4 ∙ application_keeps_boot_cpu t h.0 h.1 h.3.applied

  module _ (of : List ℕ → Overlay → Type 0) (object : (x : List ℕ) (t : Reading) (o : Overlay) → has_object x t → of x o → IsObject t o) (in_turn : InTurnIsFold) where
    -- ---- what is applied

    in_objects : (t : Reading) (xs : List (List ℕ)) (overlays : List Overlay) (result : Reading) → IsWithinLimits t → AreEach of xs overlays → AreSteps has_object t xs result
        → (objects : List Reading) × AreObjects objects overlays × AreApplied t objects result
    in_objects t [] [] result few are h = ([], tt, h)
    in_objects t [] (o ∷ overlays) result few are h = absurd are
    in_objects t (x ∷ xs) [] result few are h = absurd are
    in_objects t (x ∷ xs) (o ∷ overlays) result few are h =
        let w = in_objects h.1 xs overlays result h.3.within are.1 h.4 in
        (h.0 ∷ w.0, (object x h.0 o h.2 are.0, w.1), (few, (h.1, h.3.applied, w.2)))

    pub steps_merge : (t : Reading) (xs : List (List ℕ)) (overlays : List Overlay) (m : Meaning) (number : Path → ℕ) (result : Reading)
        → IsOf t m number → IsWithinLimits t → AreEach of xs overlays → AreSteps has_object t xs result
        → (meaning : Meaning) × (number' : Path → ℕ) × IsFold m overlays meaning × IsOf result meaning number' × Extends m number number'
    steps_merge t xs overlays m number result is few are h =
        let w = in_objects t xs overlays result few are h in
        in_turn t w.0 m overlays number result is w.1 w.2

    -- ---- what is refused

    module _ (lacks_object : List ℕ → Fault → Type 0)
        (not : (x : List ℕ) (o : Overlay) (e : Fault) → of x o → lacks_object x e → e.kind ≢ NoMemory → e.kind ≢ Limit → ⊥)
        (sites_once : SitesAreOne) (undefined : RefusedIsUndefined) where
      refused_is_undefined : (t : Reading) (m : Meaning) (o : Overlay) (number : Path → ℕ) (x : List ℕ) (sites : List Site) (e : Fault)
          → IsOf t m number → IsFine t → of x o → WhyNoStep has_object lacks_object t x e → e.kind ≢ NoMemory → e.kind ≢ Limit → IsDefined m o sites → ⊥
      refused_is_undefined t m o number x sites _ is fine means inputs.no_memory wanted low applies = wanted refl
      refused_is_undefined t m o number x sites _ is fine means (inputs.no_object e why) wanted low applies = not x o e means why wanted low
      refused_is_undefined t m o number x sites _ is fine means (inputs.not_applied r kind h why) wanted low applies =
          let k = object x r o h means in
          let are : AreOf t r m o number k.local = record {
            represented = is.represents;
            encoded = k.encodes;
            meaning = is.meaning;
            plain = is.plain;
            overlay = k.overlay;
            valid_base = is.valid;
            valid_object = k.valid;
            few_in_base = fine.within;
            few_in_object = k.few;
          } in
          undefined t r m o number k.local kind sites are why wanted low applies

      stops_merge_not : (t : Reading) (front back : List (List ℕ)) (x : List ℕ) (overlays : List Overlay) (m : Meaning) (number : Path → ℕ) (before : Reading) (e : Fault) (result : Meaning)
          → IsOf t m number → IsFine t → AreEach of (front ++ x ∷ back) overlays → AreSteps has_object t front before → WhyNoStep has_object lacks_object before x e
          → e.kind ≢ NoMemory → e.kind ≢ Limit → IsFold m overlays result → ⊥
      stops_merge_not t [] back x [] m number before e result is fine are h why wanted low fold = are
      stops_merge_not t [] back x (o ∷ overlays) m number before e result is fine are h why wanted low fold =
          refused_is_undefined t m o number x fold.0 e is fine are.0 (subst (λ (u : Reading). WhyNoStep has_object lacks_object u x e) h why) wanted low fold.1
      stops_merge_not t (y ∷ front) back x [] m number before e result is fine are h why wanted low fold = are
      stops_merge_not t (y ∷ front) back x (o ∷ overlays) m number before e result is fine are h why wanted low fold =
          let k = object y h.0 o h.2 are.0 in
          let n = in_turn t (h.0 ∷ []) m (o ∷ []) number h.1 is (k, tt) (fine.within, (h.1, h.3.applied, refl)) in
          let same : n.2.0 ≡ fold.0 = sites_once m o n.2.0 fold.0 n.2.1 fold.1 in
          let next : IsOf h.1 (merged m o fold.0) n.1 = subst (λ (z : Meaning). IsOf h.1 z n.1) (n.2.2 ∙ ap (merged m o) same) n.3 in
          stops_merge_not h.1 front back x overlays (merged m o fold.0) n.1 before e result next (record { valid = h.3.valid; within = h.3.within }) are.1 h.4 why wanted low fold.2

      pub stopped_merge_not : (t : Reading) (xs : List (List ℕ)) (overlays : List Overlay) (m : Meaning) (number : Path → ℕ) (k : ℕ) (e : Fault) (result : Meaning)
          → IsOf t m number → IsFine t → AreEach of xs overlays → IsStopped has_object lacks_object t xs k e
          → e.kind ≢ NoMemory → e.kind ≢ Limit → IsFold m overlays result → ⊥
      stopped_merge_not t xs overlays m number k e result is fine are stop wanted low fold =
          stops_merge_not t stop.front stop.back stop.input overlays m number stop.before e result is fine (subst (λ (ys : List (List ℕ)). AreEach of ys overlays) stop.are are)
          stop.steps stop.why wanted low fold
