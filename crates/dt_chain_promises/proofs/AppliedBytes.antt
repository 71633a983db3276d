-- An object applied to a base's bytes: one reading or one refusal, as of a list of one object.
use Rattle.std.proofs.Common.{◌≡◌, ◌≢◌, ℕ, List, [], ◌∷◌, inl, inr, refl, subst}
use Rattle.dt_model.specs.Tree.{Reading}
use Rattle.dt_model_format.specs.Laws.{BlobHasNoFault}
use Rattle.dt_names.specs.Fault.{placeless}
use Rattle.dt_names.specs.declared.fault.Fault.{Fault}
use Rattle.dt_names.specs.declared.fault.FaultKind.{FaultKind}
use Rattle.dt_names.specs.declared.fault.FaultKind.TheVariants.{NoMemory, Limit, NoSymbol, BadSymbol, NoTarget, BadFixup, BadLocalFixup, NoFragmentTarget, ReservedPlace}
use Rattle.dt_overlay_laws.specs.Outcomes.{AppliedIsNotRefused, LimitIsExceeded}
use Rattle.dt_overlay_laws.specs.Refusals.{has_many, WhyNotApplied}
use Rattle.dt_overlay_model.specs.InTurn.{AppliedIsOne, InTurnIsFold}
use Rattle.dt_resolve_model.specs.Laws.{MeaningIsResolved}
use Rattle.dt_chain_promises.specs.Apply as inputs
use Rattle.dt_chain_promises.specs.Apply.{IsRead, IsNoBlob, IsStep, IsStopped, WhyNoBlobApplied, WhyNoStep}
use Rattle.dt_chain_promises.specs.AppliedBytes as bytes
use Rattle.dt_chain_promises.specs.AppliedBytes.{IsFullOf, IsAppliedToBytes, WhyNotAppliedToBytes, OneReadingApplied, BytesAreAsLists, AppliedBytesAreNotRefused, OneRefusalOfBytes, RefusedBytesAreAsLists, ApplyingBytesIsMerging, RefusedBytesAreNoMerge, ApplyingBytesIsResolved, ApplyingBytesIsLimited, IsLimitedInBytes}
use Rattle.dt_chain_promises.specs.Laws.{IsBlobOfOverlay, OneRefusalToApply, RefusedIsNoMerge}
use Rattle.dt_chain_promises.proofs.AppliedMeanings.{is_object, is_of, tree_is_of}
use Rattle.dt_chain_promises.proofs.AppliedOutcomes.{OneReading, read_once, read_fine, read_has_no_fault}
use Rattle.dt_chain_promises.proofs.ChainMeanings.{steps_merge}
use Rattle.dt_chain_promises.proofs.ChainOutcomes.{applied_not_refused, outcome_once}
use Rattle.dt_chain_promises.proofs.LimitOutcomes.{read_beyond}

-- limits aside, what there is room for is in no refusal
counted : (full : Reading → Reading → Type 0) (kind : FaultKind) (t o : Reading) → kind ≢ NoMemory → kind ≢ Limit → WhyNotApplied full kind t o → WhyNotApplied has_many kind t o
counted full NoMemory t o m l why = absurd (m refl)
counted full Limit t o m l why = absurd (l refl)
counted full NoFragmentTarget t o m l why = why
counted full BadFixup t o m l why = why
counted full NoSymbol t o m l why = why
counted full BadSymbol t o m l why = why
counted full BadLocalFixup t o m l why = why
counted full NoTarget t o m l why = why
counted full ReservedPlace t o m l why = why
counted full _ t o m l why = absurd why

-- the first object of a list is the one that is refused
first : (t : Reading) (object : List ℕ) (e : Fault) → WhyNoStep IsRead IsNoBlob t object e → IsStopped IsRead IsNoBlob t (object ∷ []) 1 e
first t object e why = record { front = []; input = object; back = []; are = refl; number = refl; before = t; steps = refl; why = why }

pub refused_as_list : RefusedBytesAreAsLists
refused_as_list base object _ bytes.no_memory m l = absurd (m refl)
refused_as_list base object _ (bytes.no_base e why) m l = (0, inputs.no_base e why)
refused_as_list base object _ (bytes.no_object t e read why) m l = (1, inputs.stopped t 1 e read (first t object e (inputs.no_object e why)))
refused_as_list base object _ (bytes.long t o read of_object more) m l = absurd (l refl)
refused_as_list base object _ (bytes.not_applied t o copy kind read of_object of_base why) m l =
    (1, inputs.stopped t 1 (placeless kind) read (first t object (placeless kind) (inputs.not_applied o kind of_object (counted (IsFullOf copy) kind t o m l why))))

pub refused_once : OneRefusalToApply → OneRefusalOfBytes
refused_once once base object e f why also m l m' l' =
    let a = refused_as_list base object e why m l in
    let b = refused_as_list base object f also m' l' in
    (once base (object ∷ []) a.0 b.0 e f a.1 b.1 m m').1

pub reading_once : OneReading → AppliedIsOne → OneReadingApplied
reading_once one applied base object blob other h k = outcome_once IsRead IsRead (read_once one) (read_once one) applied base (object ∷ []) h.result k.result h.outcome k.outcome

pub as_list : OneReading → AppliedIsOne → BytesAreAsLists
as_list one applied base object blob other h k = outcome_once IsRead IsRead (read_once one) (read_once one) applied base (object ∷ []) h.result k.result h.outcome k.outcome

pub not_refused : OneReading → BlobHasNoFault → AppliedIsNotRefused → LimitIsExceeded → AppliedBytesAreNotRefused
not_refused one none not limit base object blob e h why m l = step e why m l
  where
    tree : Reading
    tree = h.outcome.tree

    overlay : Reading
    overlay = h.outcome.steps.0

    of_object : IsRead object overlay
    of_object = h.outcome.steps.2

    step : (f : Fault) → WhyNotAppliedToBytes base object f → f.kind ≢ NoMemory → f.kind ≢ Limit → ⊥
    step _ bytes.no_memory m l = m refl
    step _ (bytes.no_base f why) m l = m (read_has_no_fault none base tree f h.outcome.of_base why)
    step _ (bytes.no_object t f read why) m l = m (read_has_no_fault none object overlay f of_object why)
    step _ (bytes.long t o read also more) m l = l refl
    step _ (bytes.not_applied t o copy kind read also of_base why) m l =
        let same : t ≡ tree = read_once one base t tree read h.outcome.of_base in
        let object-same : o ≡ overlay = read_once one object o overlay also of_object in
        let here = subst (λ (u : Reading). WhyNotApplied has_many kind u overlay) same (subst (λ (v : Reading). WhyNotApplied has_many kind t v) object-same (counted (IsFullOf copy) kind t o m l why)) in
        m (applied_not_refused not limit tree overlay h.outcome.steps.1 kind (read_fine base tree h.outcome.of_base) (read_fine object overlay of_object).valid h.outcome.steps.3 here)

-- ---- what it means

pub bytes_merge : OneReading → InTurnIsFold → ApplyingBytesIsMerging
bytes_merge one in_turn base object blob m o number is of_object h =
    let out = h.outcome in
    let fine = read_fine base out.tree out.of_base in
    let w = steps_merge IsRead IsBlobOfOverlay (is_object one) in_turn out.tree (object ∷ []) (o ∷ []) m number h.result (is_of one base out.tree m number out.of_base is) fine.within (of_object, tt) out.steps in
    (w.0, w.1, w.2, record { tree = h.result; read = h.read; represents = w.3.represents; meaning = w.3.meaning; plain = w.3.plain }, w.4)

pub refused_no_merge : RefusedIsNoMerge → RefusedBytesAreNoMerge
refused_no_merge no_merge base object e m o number result is of_object why w l fold =
    let a = refused_as_list base object e why w l in
    no_merge base (object ∷ []) a.0 e m (o ∷ []) number result is (of_object, tt) a.1 w l fold

pub bytes_resolve : ApplyingBytesIsMerging → MeaningIsResolved → ApplyingBytesIsResolved
bytes_resolve merging resolved base object blob m o number of_base of_object h =
    let (result, number', fold, of_meaning, extends) = merging base object blob m o number of_base of_object h in
    (result, number', fold, of_meaning, extends, resolved of_meaning.tree result number' (tree_is_of blob result number' of_meaning))

-- ---- limits

pub bytes_limited : ApplyingBytesIsLimited
bytes_limited base object _ bytes.no_memory h = absurd cc
bytes_limited base object _ (bytes.no_base e why) h = bytes.of_base ((read_beyond base).0 (e, why, h))
bytes_limited base object _ (bytes.no_object t e read why) h = bytes.of_object ((read_beyond object).0 (e, why, h))
bytes_limited base object _ (bytes.long t o read also more) h = bytes.long more
bytes_limited base object _ (bytes.not_applied t o copy kind read also of_base why) h = elim (subst (λ (k : FaultKind). WhyNotApplied (IsFullOf copy) k t o) h why) [
  | inl sites ↦ bytes.deep t o read also sites
  | inr crowded ↦ bytes.full t o copy read also of_base crowded
]
