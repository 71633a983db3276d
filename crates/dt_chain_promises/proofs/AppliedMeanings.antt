-- What applying objects' blobs answers is a blob of the base's meaning with the overlays merged into it.
use Rattle.std.proofs.Common.{◌≡◌, ◌≢◌, ℕ, ◌≤◌, List, [], ◌∷◌, length, refl, sym, subst}
use Rattle.dt_model.specs.Limits.{most_bytes}
use Rattle.dt_model.specs.Format.{IsWithin}
use Rattle.dt_model.specs.Meaning.{Meaning}
use Rattle.dt_model.specs.Overlay.{Overlay}
use Rattle.dt_model.specs.Path.{Path}
use Rattle.dt_model.specs.Tree.{Reading}
use Rattle.dt_model.specs.Valid.{IsValid, IsWithinLimits}
use Rattle.dt_names.specs.declared.fault.Fault.{Fault}
use Rattle.dt_names.specs.declared.fault.FaultKind.TheVariants.{NoMemory, Limit}
use Rattle.dt_model_format.specs.Laws.{BlobHasNoFault}
use Rattle.dt_model_laws.specs.Applying.{IsObject}
use Rattle.dt_model.specs.Represents.{IsOf}
use Rattle.dt_overlay_model.specs.InTurn.{InTurnIsFold}
use Rattle.dt_overlay_model.specs.Joining.{SitesAreOne}
use Rattle.dt_overlay_laws.specs.Outcomes.{RefusedIsUndefined}
use Rattle.dt_write.specs.Written.{written}
use Rattle.dt_chain_promises.specs.Apply as inputs
use Rattle.dt_chain_promises.specs.Apply.{IsRead, IsNoBlob, WhyNoBlobApplied}
use Rattle.dt_chain_promises.specs.Laws.{IsBlobOfMeaning, IsBlobOfOverlay, AreBlobsOfOverlays, ApplyingIsMerging, RefusedIsNoMerge}
use Rattle.dt_chain_promises.proofs.Outcomes.{WrittenReads}
use Rattle.dt_chain_promises.proofs.ChainOutcomes.{IsFine, steps_fine}
use Rattle.dt_chain_promises.proofs.ChainMeanings.{AreEach, steps_merge, stopped_merge_not}
use Rattle.dt_chain_promises.proofs.AppliedOutcomes.{OneReading, read_once, read_fine}

-- the blob of a valid tree is within the limits where the tree is
abbrev pub WrittenIsWithin : Type 0
WrittenIsWithin = (t : Reading) → IsValid t → IsWithinLimits t → length (written t) ≤ most_bytes → IsWithin (written t) t

pub written_is_read : WrittenReads → WrittenIsWithin → (t : Reading) (blob : List ℕ) → IsFine t → blob ≡ written t → length blob ≤ most_bytes → IsRead blob t
written_is_read reads within t blob fine is size =
    let short : length (written t) ≤ most_bytes = subst (λ (b : List ℕ). length b ≤ most_bytes) is size in
    subst (λ (b : List ℕ). IsRead b t) (sym is) (record { reads = reads t fine.valid short; within = within t fine.valid fine.within short })

are_each : (objects : List (List ℕ)) (overlays : List Overlay) → AreBlobsOfOverlays objects overlays → AreEach IsBlobOfOverlay objects overlays
are_each [] [] are = tt
are_each [] (o ∷ overlays) are = absurd are
are_each (x ∷ objects) [] are = absurd are
are_each (x ∷ objects) (o ∷ overlays) are = (are.0, are_each objects overlays are.1)

-- the tree of a meaning's blob is of the meaning
pub tree_is_of : (bytes : List ℕ) (m : Meaning) (number : Path → ℕ) (h : IsBlobOfMeaning bytes m number) → IsOf h.tree m number
tree_is_of bytes m number h = record { represents = h.represents; meaning = h.meaning; plain = h.plain; valid = h.read.reads.valid }

module _ (one : OneReading) where
  -- the tree of an overlay's blob is an object of the overlay
  pub is_object : (bytes : List ℕ) (t : Reading) (o : Overlay) → IsRead bytes t → IsBlobOfOverlay bytes o → IsObject t o
  is_object bytes t o h k =
      let same : k.tree ≡ t = read_once one bytes k.tree t k.read h in
      subst (λ (u : Reading). IsObject u o) same
      (record { local = k.number; encodes = k.encodes; overlay = k.overlay; valid = k.read.reads.valid; few = k.read.within.tree })

  -- and that of a meaning's is of the meaning
  pub is_of : (bytes : List ℕ) (t : Reading) (m : Meaning) (number : Path → ℕ) → IsRead bytes t → IsBlobOfMeaning bytes m number → IsOf t m number
  is_of bytes t m number h k =
      let same : k.tree ≡ t = read_once one bytes k.tree t k.read h in
      subst (λ (u : Reading). IsOf u m number) same (tree_is_of bytes m number k)

  pub applying_is_merging : InTurnIsFold → WrittenReads → WrittenIsWithin → ApplyingIsMerging
  applying_is_merging in_turn reads within bytes objects blob m overlays number is are h =
      let o = h.outcome in
      let fine = read_fine bytes o.tree o.of_base in
      let w = steps_merge IsRead IsBlobOfOverlay is_object in_turn o.tree objects overlays m number h.result (is_of bytes o.tree m number o.of_base is) fine.within (are_each objects overlays are) o.steps in
      let read = written_is_read reads within h.result blob (steps_fine IsRead IsRead o.tree objects h.result fine o.steps) h.is h.size in
      (w.0, w.1, w.2, record { tree = h.result; read = read; represents = w.3.represents; meaning = w.3.meaning; plain = w.3.plain }, w.4)

  pub refused_is_no_merge : InTurnIsFold → BlobHasNoFault → SitesAreOne → RefusedIsUndefined → RefusedIsNoMerge
  refused_is_no_merge in_turn none sites undefined bytes objects k e m overlays number result is are why wanted low fold = step k e why wanted low
    where
      no_fault : (x : List ℕ) (t : Reading) (f : Fault) → IsRead x t → IsNoBlob x f → ⊥
      no_fault x t f h w = none x t w.fault f.at h.reads h.within w.first

      step : (j : ℕ) (f : Fault) → WhyNoBlobApplied bytes objects j f → f.kind ≢ NoMemory → f.kind ≢ Limit → ⊥
      step j _ (inputs.no_memory _ few) w l = w refl
      step _ f (inputs.no_base _ other) w l = no_fault bytes is.tree f is.read other
      step j f (inputs.stopped t _ _ of_base stop) w l =
          stopped_merge_not IsRead IsBlobOfOverlay is_object in_turn IsNoBlob (λ x o g h other v u. no_fault x h.tree g h.read other) sites undefined
          t objects overlays m number j f result (is_of bytes t m number of_base is) (read_fine bytes t of_base) (are_each objects overlays are) stop w l fold
      step _ _ (inputs.big t outcome more) w l = l refl
