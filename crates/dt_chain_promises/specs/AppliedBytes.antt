-- What `apply_bytes` answers: an object is applied to the bytes of a base, and no tree is made of them.
use Rattle.std.specs.Prelude.{◌≡◌, ◌≢◌, ◌<◌, ℕ, List, [], ◌∷◌}
use Rattle.dt_model.specs.Checks.{strings_of, structure_of}
use Rattle.dt_model.specs.Limits.{most_bytes}
use Rattle.dt_model.specs.Meaning.{Meaning, Extends}
use Rattle.dt_model.specs.Merged.{IsFold}
use Rattle.dt_model.specs.Overlay.{Overlay}
use Rattle.dt_model.specs.Path.{Path}
use Rattle.dt_model.specs.Tree.{Reading}
use Rattle.dt_names.specs.Fault.{placeless}
use Rattle.dt_names.specs.declared.fault.Fault.{Fault}
use Rattle.dt_names.specs.declared.fault.FaultKind.{FaultKind}
use Rattle.dt_names.specs.declared.fault.FaultKind.TheVariants.{NoMemory, Limit}
use Rattle.dt_overlay_base.specs.Targets.{HasNoRoom}
use Rattle.dt_overlay_laws.specs.Refusals.{IsCrowded, HasNoSites, WhyNotApplied}
use Rattle.dt_resolve_model.specs.Laws.{IsResolvedIn}
use Rattle.dt_edit.specs.Buffers.{Follows, HasRoom}
use Rattle.dt_edit.specs.Editable.{opened_size, reading_in, IsWhole}
use Rattle.dt_chain_promises.specs.Apply.{IsOutcome, IsRead, IsNoBlob, IsBlobApplied, WhyNoBlobApplied}
use Rattle.dt_chain_promises.specs.Laws.{IsBlobOfMeaning, IsBlobOfOverlay}
use Rattle.dt_chain_promises.specs.Limits.{IsBlobBeyond}

-- ---- the answer

-- a blob has the reading, the NOPs and the strings of another, and its blocks follow one another
pub record IsCopy (bytes copy : List ℕ) : Type 0 where
  pub whole : IsWhole copy
  pub reads : reading_in copy ≡ reading_in bytes
  pub structure : structure_of copy ≡ structure_of bytes
  pub strings : strings_of copy ≡ strings_of bytes

-- the blob is read as what comes of the object on the base, with nothing behind it, and it comes of a copy of the base by changes
pub record IsAppliedToBytes (base object blob : List ℕ) : Type 0 where
  pub result : Reading
  pub outcome : IsOutcome IsRead IsRead base (object ∷ []) result
  pub read : IsRead blob result
  pub whole : IsWhole blob
  pub copy : List ℕ
  pub of_base : IsCopy base copy
  pub follows : Follows copy blob

-- a blob that comes of a copy by changes, and reads as t, has no room for next
abbrev pub IsFullOf : (copy : List ℕ) → Reading → Reading → Type 0
IsFullOf copy = HasNoRoom reading_in HasRoom Follows copy

-- Why there is none.
pub data WhyNotAppliedToBytes (base object : List ℕ) : Fault → Type 0 where
  -- memory may be refused at any time
  no_memory : WhyNotAppliedToBytes base object (placeless NoMemory)
  -- the base is no blob; or else the object is none
  no_base : (e : Fault) → IsNoBlob base e → WhyNotAppliedToBytes base object e
  no_object : (t : Reading) (e : Fault) → IsRead base t → IsNoBlob object e → WhyNotAppliedToBytes base object e
  -- the base's blocks one behind the other are longer than 16 MiB
  long : (t o : Reading) → IsRead base t → IsRead object o → most_bytes < opened_size base → WhyNotAppliedToBytes base object (placeless Limit)
  -- or the object isn't applied to a copy of the base
  not_applied : (t o : Reading) (copy : List ℕ) (kind : FaultKind) → IsRead base t → IsRead object o → IsCopy base copy
      → WhyNotApplied (IsFullOf copy) kind t o → WhyNotAppliedToBytes base object (placeless kind)

-- ---- one outcome

-- what is answered has one reading
abbrev pub OneReadingApplied : Type 0
OneReadingApplied = (base object blob other : List ℕ) (h : IsAppliedToBytes base object blob) (k : IsAppliedToBytes base object other) → h.result ≡ k.result

-- that of what applying a list of one object answers
abbrev pub BytesAreAsLists : Type 0
BytesAreAsLists = (base object blob other : List ℕ) (h : IsAppliedToBytes base object blob) (k : IsBlobApplied base (object ∷ []) other) → h.result ≡ k.result

-- memory and limits aside, it isn't refused too
abbrev pub AppliedBytesAreNotRefused : Type 0
AppliedBytesAreNotRefused = (base object blob : List ℕ) (e : Fault) → IsAppliedToBytes base object blob → WhyNotAppliedToBytes base object e
    → e.kind ≢ NoMemory → e.kind ≢ Limit → ⊥

-- there is one refusal
abbrev pub OneRefusalOfBytes : Type 0
OneRefusalOfBytes = (base object : List ℕ) (e f : Fault) → WhyNotAppliedToBytes base object e → WhyNotAppliedToBytes base object f
    → e.kind ≢ NoMemory → e.kind ≢ Limit → f.kind ≢ NoMemory → f.kind ≢ Limit → e ≡ f

-- and it is that of the list
abbrev pub RefusedBytesAreAsLists : Type 0
RefusedBytesAreAsLists = (base object : List ℕ) (e : Fault) → WhyNotAppliedToBytes base object e → e.kind ≢ NoMemory → e.kind ≢ Limit
    → (k : ℕ) × WhyNoBlobApplied base (object ∷ []) k e

-- ---- what it means

-- Whoever wrote them: the answer is a blob of the base's meaning with the overlay merged into it, by numbers that extend the base's.
abbrev pub ApplyingBytesIsMerging : Type 0
ApplyingBytesIsMerging = (base object blob : List ℕ) (m : Meaning) (o : Overlay) (number : Path → ℕ)
    → IsBlobOfMeaning base m number → IsBlobOfOverlay object o → IsAppliedToBytes base object blob
    → (result : Meaning) × (number' : Path → ℕ) × IsFold m (o ∷ []) result × IsBlobOfMeaning blob result number' × Extends m number number'

-- memory and limits aside it refuses only where that merge isn't defined
abbrev pub RefusedBytesAreNoMerge : Type 0
RefusedBytesAreNoMerge = (base object : List ℕ) (e : Fault) (m : Meaning) (o : Overlay) (number : Path → ℕ) (result : Meaning)
    → IsBlobOfMeaning base m number → IsBlobOfOverlay object o → WhyNotAppliedToBytes base object e
    → e.kind ≢ NoMemory → e.kind ≢ Limit → IsFold m (o ∷ []) result → ⊥

-- each region and each route that this meaning determines, an answer or a fault, is the one of the blob's tree
abbrev pub ApplyingBytesIsResolved : Type 0
ApplyingBytesIsResolved = (base object blob : List ℕ) (m : Meaning) (o : Overlay) (number : Path → ℕ)
    → IsBlobOfMeaning base m number → IsBlobOfOverlay object o → IsAppliedToBytes base object blob
    → (result : Meaning) × (number' : Path → ℕ) × IsFold m (o ∷ []) result × (h : IsBlobOfMeaning blob result number')
    × Extends m number number' × IsResolvedIn h.tree result

-- ---- when it reports a limit

-- Of a base and an object, something is beyond a limit.
pub data IsLimitedInBytes (base object : List ℕ) : Type 0 where
  -- the base itself, or the object
  of_base : IsBlobBeyond base → IsLimitedInBytes base object
  of_object : IsBlobBeyond object → IsLimitedInBytes base object
  -- the base's blocks one behind the other
  long : most_bytes < opened_size base → IsLimitedInBytes base object
  -- the path of the first node that the object may not bring
  deep : (t o : Reading) → IsRead base t → IsRead object o → HasNoSites Limit t o → IsLimitedInBytes base object
  -- a blob that comes of a copy of the base by changes, on the way to what would come of the object
  full : (t o : Reading) (copy : List ℕ) → IsRead base t → IsRead object o → IsCopy base copy → IsCrowded (IsFullOf copy) t o → IsLimitedInBytes base object

-- it reports a limit of these alone
abbrev pub ApplyingBytesIsLimited : Type 0
ApplyingBytesIsLimited = (base object : List ℕ) (e : Fault) → WhyNotAppliedToBytes base object e → e.kind ≡ Limit → IsLimitedInBytes base object
