-- What `apply_list` answers: the objects of inputs are applied to a base's tree one after another. `build` does so too, so all of it is by what an
-- input's tree is, and why it has none: a base's, and that of an object, which is that of an overlay.
use Rattle.std.specs.Prelude.{◌≡◌, ℕ, ◌<◌, ◌≤◌, suc, List, [], ◌∷◌, ◌++◌, length}
use Rattle.dt_model.specs.Checks.{BlobFault, IsFirstFault}
use Rattle.dt_model.specs.Format.{Reads, IsWithin}
use Rattle.dt_model.specs.Limits.{most_bytes}
use Rattle.dt_model.specs.Tree.{Reading}
use Rattle.dt_model.specs.Valid.{IsValid, IsWithinLimits}
use Rattle.dt_names.specs.Fault.{placeless}
use Rattle.dt_names.specs.declared.fault.Fault.{Fault}
use Rattle.dt_names.specs.declared.fault.FaultKind.{FaultKind}
use Rattle.dt_names.specs.declared.fault.FaultKind.TheVariants.{NoMemory, Limit}
use Rattle.dt_overlay_model.specs.InTurn.{IsApplied}
use Rattle.dt_overlay_laws.specs.Objects.{IsWellFormed}
use Rattle.dt_overlay_laws.specs.Refusals.{has_many, WhyNotApplied}
use Rattle.dt_read.specs.Kinds.{kind_of}
use Rattle.dt_write.specs.Written.{written}

-- ---- inputs, whatever they are

-- the object is applied to a tree, and a blob may hold what comes of it, within the limits
pub record IsStep (t object next : Reading) : Type 0 where
  pub well : IsWellFormed t object
  pub applied : IsApplied t object next
  pub valid : IsValid next
  pub within : IsWithinLimits next

-- the objects of the inputs are applied to a tree, one after another
abbrev pub AreSteps : (List ℕ → Reading → Type 0) → Reading → List (List ℕ) → Reading → Type 0
AreSteps has_object t [] result = result ≡ t
AreSteps has_object t (x ∷ inputs) result = (object next : Reading) × has_object x object × IsStep t object next × AreSteps has_object next inputs result

-- to the base's tree
pub record IsOutcome (has_base has_object : List ℕ → Reading → Type 0) (base : List ℕ) (inputs : List (List ℕ)) (result : Reading) : Type 0 where
  pub tree : Reading
  pub of_base : has_base base tree
  pub steps : AreSteps has_object tree inputs result

-- the blob is the writer's of what comes of it, and not too long
pub record IsBlobOfAll (has_base has_object : List ℕ → Reading → Type 0) (base : List ℕ) (inputs : List (List ℕ)) (blob : List ℕ) : Type 0 where
  pub result : Reading
  pub outcome : IsOutcome has_base has_object base inputs result
  pub is : blob ≡ written result
  pub size : length blob ≤ most_bytes

-- Why the object of an input isn't applied to a tree.
pub data WhyNoStep (has_object : List ℕ → Reading → Type 0) (lacks_object : List ℕ → Fault → Type 0) (t : Reading) (input : List ℕ) : Fault → Type 0 where
  -- memory may be refused at any time
  no_memory : WhyNoStep has_object lacks_object t input (placeless NoMemory)
  -- the input has no object
  no_object : (e : Fault) → lacks_object input e → WhyNoStep has_object lacks_object t input e
  -- or it has one, which isn't applied
  not_applied : (object : Reading) (kind : FaultKind) → has_object input object → WhyNotApplied has_many kind t object →
      WhyNoStep has_object lacks_object t input (placeless kind)

-- of the inputs, counted from 1, it is this one that isn't applied, where all before it are
pub record IsStopped (has_object : List ℕ → Reading → Type 0) (lacks_object : List ℕ → Fault → Type 0) (t : Reading)
    (inputs : List (List ℕ)) (k : ℕ) (e : Fault) : Type 0 where
  pub front : List (List ℕ)
  pub input : List ℕ
  pub back : List (List ℕ)
  pub are : inputs ≡ front ++ input ∷ back
  pub number : k ≡ suc (length front)
  pub before : Reading
  pub steps : AreSteps has_object t front before
  pub why : WhyNoStep has_object lacks_object before input e

-- Why there is none: the number of the input at which it shows, where the base has number 0, and its fault.
pub data WhyNoneOfAll (has_base has_object : List ℕ → Reading → Type 0) (lacks_base lacks_object : List ℕ → Fault → Type 0) (base : List ℕ)
    (inputs : List (List ℕ)) : ℕ → Fault → Type 0 where
  -- memory may be refused at any input
  no_memory : (k : ℕ) → k ≤ length inputs → WhyNoneOfAll has_base has_object lacks_base lacks_object base inputs k (placeless NoMemory)
  -- the base has no tree
  no_base : (e : Fault) → lacks_base base e → WhyNoneOfAll has_base has_object lacks_base lacks_object base inputs 0 e
  -- an input's object isn't applied to what has come of those before it
  stopped : (t : Reading) (k : ℕ) (e : Fault) → has_base base t → IsStopped has_object lacks_object t inputs k e
      → WhyNoneOfAll has_base has_object lacks_base lacks_object base inputs k e
  -- the blob of what comes of all would be longer than 16 MiB
  big : (t : Reading) → IsOutcome has_base has_object base inputs t → most_bytes < length (written t)
      → WhyNoneOfAll has_base has_object lacks_base lacks_object base inputs (length inputs) (placeless Limit)

-- ---- inputs that are blobs

-- the bytes are a blob within the limits, and this is its tree
pub record IsRead (bytes : List ℕ) (t : Reading) : Type 0 where
  pub reads : Reads bytes t
  pub within : IsWithin bytes t

-- they are none, by this fault, the first one
pub record IsNoBlob (bytes : List ℕ) (e : Fault) : Type 0 where
  pub fault : BlobFault
  pub kind : e.kind ≡ kind_of fault
  pub first : IsFirstFault bytes fault e.at

-- the blob is that of the base with the objects applied
abbrev pub IsBlobApplied : (base : List ℕ) (objects : List (List ℕ)) (blob : List ℕ) → Type 0
IsBlobApplied = IsBlobOfAll IsRead IsRead

-- why there is none
abbrev pub WhyNoBlobApplied : (base : List ℕ) (objects : List (List ℕ)) → ℕ → Fault → Type 0
WhyNoBlobApplied = WhyNoneOfAll IsRead IsRead IsNoBlob IsNoBlob
