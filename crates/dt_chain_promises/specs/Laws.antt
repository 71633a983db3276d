-- What is true of what is answered: one answer or one refusal, and what it means.
use Rattle.std.specs.Prelude.{◌≡◌, ◌≢◌, ◌<◌, ◌≤◌, ℕ, List, [], ◌∷◌, length}
use Rattle.std.specs.List.{AllByRecursion}
use Rattle.dt_model.specs.Format.{Reads}
use Rattle.dt_model.specs.Instance.{IsInstance}
use Rattle.dt_model.specs.Limits.{most_bytes}
use Rattle.dt_model.specs.Meaning.{Meaning, IsMeaning, IsPlain, Extends}
use Rattle.dt_model.specs.Merged.{IsFold}
use Rattle.dt_model.specs.Object.{Encodes}
use Rattle.dt_model.specs.Overlay.{Overlay, IsOverlay}
use Rattle.dt_model.specs.Path.{Path}
use Rattle.dt_model.specs.Represents.{Represents}
use Rattle.dt_model.specs.Source.{Mode, base, raw}
use Rattle.dt_model.specs.Tree.{Reading}
use Rattle.dt_names.specs.Fault.{placeless}
use Rattle.dt_names.specs.declared.fault.Fault.{Fault}
use Rattle.dt_names.specs.declared.fault.FaultKind.TheVariants.{NoMemory, Limit}
use Rattle.dt_resolve_model.specs.Laws.{IsResolvedIn}
use Rattle.dt_write.specs.Written.{written}
use Rattle.dt_chain_promises.specs.Apply.{IsRead, IsBlobApplied, WhyNoBlobApplied}
use Rattle.dt_chain_promises.specs.Build.{HasBaseTree, IsBlobBuilt, WhyNoBlobBuilt}
use Rattle.dt_chain_promises.specs.Compile.{TextMeans, OverlayTextMeans, TextHasTree, IsCompiled, WhyNotCompiled, IsCompiledOverlay, IsBlobOf, WhyNoBlob}
use Rattle.dt_chain_promises.specs.Decompile.{IsDecompiled, WhyNotDecompiled}

-- ---- one answer, or one refusal

-- a text means one thing
abbrev pub OneMeaning : Type 0
OneMeaning = (mode : Mode) (text : List ℕ) (m n : Meaning) → TextMeans mode text m → TextMeans mode text n → m ≡ n

-- and an overlay's means one overlay
abbrev pub OneOverlayMeaning : Type 0
OneOverlayMeaning = (text : List ℕ) (o q : Overlay) → OverlayTextMeans text o → OverlayTextMeans text q → o ≡ q

-- it is compiled to one blob, of a base or of an overlay
abbrev pub OneBlob : Type 0
OneBlob = (text blob other : List ℕ) → IsBlobOf text blob → IsBlobOf text other → blob ≡ other

-- or it is refused, and not both, unless memory is wanted
abbrev pub CompiledIsNotRefused : Type 0
CompiledIsNotRefused = (text blob : List ℕ) (e : Fault) → IsBlobOf text blob → WhyNoBlob text e → e.kind ≡ NoMemory

-- for one reason, unless memory is wanted
abbrev pub OneRefusal : Type 0
OneRefusal = (text : List ℕ) (e f : Fault) → WhyNoBlob text e → WhyNoBlob text f → e.kind ≢ NoMemory → f.kind ≢ NoMemory → e ≡ f

-- the same of raw sources
abbrev pub OneRawBlob : Type 0
OneRawBlob = (text blob other : List ℕ) → IsCompiled raw text blob → IsCompiled raw text other → blob ≡ other

abbrev pub RawIsNotRefused : Type 0
RawIsNotRefused = (text blob : List ℕ) (e : Fault) → IsCompiled raw text blob → WhyNotCompiled raw text e → e.kind ≡ NoMemory

abbrev pub OneRawRefusal : Type 0
OneRawRefusal = (text : List ℕ) (e f : Fault) → WhyNotCompiled raw text e → WhyNotCompiled raw text f → e.kind ≢ NoMemory → f.kind ≢ NoMemory → e ≡ f

-- applying answers one blob
abbrev pub OneBlobApplied : Type 0
OneBlobApplied = (bytes : List ℕ) (objects : List (List ℕ)) (blob other : List ℕ) → IsBlobApplied bytes objects blob
    → IsBlobApplied bytes objects other → blob ≡ other

-- or refuses, and not both, unless memory is wanted
abbrev pub AppliedIsNotRefused : Type 0
AppliedIsNotRefused = (bytes : List ℕ) (objects : List (List ℕ)) (blob : List ℕ) (k : ℕ) (e : Fault)
    → IsBlobApplied bytes objects blob → WhyNoBlobApplied bytes objects k e → e.kind ≡ NoMemory

-- memory aside, there is one refusal: of one input, for one fault
abbrev pub OneRefusalToApply : Type 0
OneRefusalToApply = (bytes : List ℕ) (objects : List (List ℕ)) (k j : ℕ) (e f : Fault)
    → WhyNoBlobApplied bytes objects k e → WhyNoBlobApplied bytes objects j f → e.kind ≢ NoMemory → f.kind ≢ NoMemory → (k ≡ j) × (e ≡ f)

-- the same of building
abbrev pub OneBlobBuilt : Type 0
OneBlobBuilt = (text : List ℕ) (overlays : List (List ℕ)) (blob other : List ℕ) → IsBlobBuilt text overlays blob
    → IsBlobBuilt text overlays other → blob ≡ other

abbrev pub BuiltIsNotRefused : Type 0
BuiltIsNotRefused = (text : List ℕ) (overlays : List (List ℕ)) (blob : List ℕ) (k : ℕ) (e : Fault)
    → IsBlobBuilt text overlays blob → WhyNoBlobBuilt text overlays k e → e.kind ≡ NoMemory

abbrev pub OneRefusalToBuild : Type 0
OneRefusalToBuild = (text : List ℕ) (overlays : List (List ℕ)) (k j : ℕ) (e f : Fault)
    → WhyNoBlobBuilt text overlays k e → WhyNoBlobBuilt text overlays j f → e.kind ≢ NoMemory → f.kind ≢ NoMemory → (k ≡ j) × (e ≡ f)

-- a blob has one text
abbrev pub OneText : Type 0
OneText = (bytes text other : List ℕ) → IsDecompiled bytes text → IsDecompiled bytes other → text ≡ other

-- or is refused, and not both, unless memory is wanted
abbrev pub DecompiledIsNotRefused : Type 0
DecompiledIsNotRefused = (bytes text : List ℕ) (e : Fault) → IsDecompiled bytes text → WhyNotDecompiled bytes e → e.kind ≡ NoMemory

-- for one reason, unless memory is wanted
abbrev pub OneRefusalToDecompile : Type 0
OneRefusalToDecompile = (bytes : List ℕ) (e f : Fault) → WhyNotDecompiled bytes e → WhyNotDecompiled bytes f → e.kind ≢ NoMemory → f.kind ≢ NoMemory → e ≡ f

-- ---- blobs of meanings

-- the bytes are a blob of the meaning, its keyed nodes by these numbers
pub record IsBlobOfMeaning (bytes : List ℕ) (m : Meaning) (number : Path → ℕ) : Type 0 where
  pub tree : Reading
  pub read : IsRead bytes tree
  pub represents : Represents tree m number
  pub meaning : IsMeaning m
  pub plain : IsPlain m

-- the bytes are an object of the overlay
pub record IsBlobOfOverlay (bytes : List ℕ) (o : Overlay) : Type 0 where
  pub tree : Reading
  pub read : IsRead bytes tree
  pub number : Path → ℕ
  pub encodes : Encodes tree o number
  pub overlay : IsOverlay o

abbrev pub AreBlobsOfOverlays : List (List ℕ) → List Overlay → Type 0
AreBlobsOfOverlays [] [] = Unit {0}
AreBlobsOfOverlays [] (o ∷ overlays) = ⊥
AreBlobsOfOverlays (x ∷ objects) [] = ⊥
AreBlobsOfOverlays (x ∷ objects) (o ∷ overlays) = IsBlobOfOverlay x o × AreBlobsOfOverlays objects overlays

-- ---- what is compiled, by what the text means

-- the text is one of bytes
abbrev pub IsOfBytes : List ℕ → Type 0
IsOfBytes text = AllByRecursion (λ b. b < 256) text

-- what a base is compiled to is a blob of its meaning, with boot CPU 0
pub record BlobRepresents (text blob : List ℕ) : Type 0 where
  pub meaning : Meaning
  pub means : TextMeans base text meaning
  pub number : Path → ℕ
  pub of_meaning : IsBlobOfMeaning blob meaning number
  pub boot_cpu : of_meaning.tree.boot_cpu ≡ 0

abbrev pub BaseRepresents : Type 0
BaseRepresents = (text blob : List ℕ) → IsOfBytes text → IsCompiled base text blob → BlobRepresents text blob

-- what a raw source is compiled to is read as the whole instance of its meaning, with boot CPU 0
pub record BlobIsInstance (text blob : List ℕ) : Type 0 where
  pub meaning : Meaning
  pub means : TextMeans raw text meaning
  pub tree : Reading
  pub read : IsRead blob tree
  pub number : Path → ℕ
  pub instance : IsInstance tree meaning number
  pub boot_cpu : tree.boot_cpu ≡ 0

abbrev pub RawIsInstance : Type 0
RawIsInstance = (text blob : List ℕ) → IsOfBytes text → IsCompiled raw text blob → BlobIsInstance text blob

-- what an overlay's source is compiled to is an object of the overlay that it means, with boot CPU 0
pub record BlobIsObject (text blob : List ℕ) : Type 0 where
  pub overlay : Overlay
  pub means : OverlayTextMeans text overlay
  pub of_overlay : IsBlobOfOverlay blob overlay
  pub boot_cpu : of_overlay.tree.boot_cpu ≡ 0

abbrev pub OverlayIsObject : Type 0
OverlayIsObject = (text blob : List ℕ) → IsOfBytes text → IsCompiledOverlay text blob → BlobIsObject text blob

-- memory and limits aside, a text is refused only where it means nothing, neither as a base nor as an overlay
abbrev pub NotCompiledIsNoMeaning : Type 0
NotCompiledIsNoMeaning = (text : List ℕ) (e : Fault) → WhyNoBlob text e → e.kind ≢ NoMemory → e.kind ≢ Limit
    → ((m : Meaning) → ¬ TextMeans base text m) × ((o : Overlay) → ¬ OverlayTextMeans text o)

-- and as it is only where it means nothing so
abbrev pub RawNotCompiledIsNoMeaning : Type 0
RawNotCompiledIsNoMeaning = (text : List ℕ) (e : Fault) (m : Meaning) → WhyNotCompiled raw text e → e.kind ≢ NoMemory → e.kind ≢ Limit → ¬ TextMeans raw text m

-- ---- what is applied, by the meanings

-- Whoever wrote them: what applying objects answers is a blob of the base's meaning with the overlays merged into it one after
-- another, by numbers that extend the base's.
abbrev pub ApplyingIsMerging : Type 0
ApplyingIsMerging = (bytes : List ℕ) (objects : List (List ℕ)) (blob : List ℕ) (m : Meaning) (overlays : List Overlay) (number : Path → ℕ)
    → IsBlobOfMeaning bytes m number → AreBlobsOfOverlays objects overlays → IsBlobApplied bytes objects blob
    → (result : Meaning) × (number' : Path → ℕ) × IsFold m overlays result × IsBlobOfMeaning blob result number' × Extends m number number'

-- memory and limits aside it refuses only where that merge isn't defined
abbrev pub RefusedIsNoMerge : Type 0
RefusedIsNoMerge = (bytes : List ℕ) (objects : List (List ℕ)) (k : ℕ) (e : Fault) (m : Meaning) (overlays : List Overlay) (number : Path → ℕ) (result : Meaning)
    → IsBlobOfMeaning bytes m number → AreBlobsOfOverlays objects overlays → WhyNoBlobApplied bytes objects k e
    → e.kind ≢ NoMemory → e.kind ≢ Limit → IsFold m overlays result → ⊥

-- ---- what is built, by the texts

-- each text means the overlay
abbrev pub TextsMean : List (List ℕ) → List Overlay → Type 0
TextsMean [] [] = Unit {0}
TextsMean [] (o ∷ overlays) = ⊥
TextsMean (x ∷ texts) [] = ⊥
TextsMean (x ∷ texts) (o ∷ overlays) = OverlayTextMeans x o × TextsMean texts overlays

-- the base's text means a meaning, and each overlay's text an overlay, and this is what they are, merged one after another
pub record TextsAreMerged (text : List ℕ) (texts : List (List ℕ)) (result : Meaning) : Type 0 where
  pub meaning : Meaning
  pub means : TextMeans base text meaning
  pub overlays : List Overlay
  pub of_overlays : TextsMean texts overlays
  pub fold : IsFold meaning overlays result

-- the texts mean one thing together
abbrev pub OneMergedMeaning : Type 0
OneMergedMeaning = (text : List ℕ) (texts : List (List ℕ)) (m n : Meaning) → TextsAreMerged text texts m → TextsAreMerged text texts n → m ≡ n

-- What building answers is a blob of the meaning of the base's text with those of the overlays' texts merged into it one after
-- another, each keyed node having one number of its own that every reference to it holds, with boot CPU 0. These numbers extend those of
-- the tree that the base's text is compiled to.
pub record BlobIsOfTexts (text : List ℕ) (texts : List (List ℕ)) (blob : List ℕ) : Type 0 where
  pub result : Meaning
  pub merged : TextsAreMerged text texts result
  pub base_tree : Reading
  pub of_base : HasBaseTree text base_tree
  pub before : Path → ℕ
  pub base_represents : Represents base_tree merged.meaning before
  pub number : Path → ℕ
  pub extends : Extends merged.meaning before number
  pub of_meaning : IsBlobOfMeaning blob result number
  pub boot_cpu : of_meaning.tree.boot_cpu ≡ 0

abbrev pub BuildingIsMerging : Type 0
BuildingIsMerging = (text : List ℕ) (texts : List (List ℕ)) (blob : List ℕ)
    → IsOfBytes text → AllByRecursion IsOfBytes texts → IsBlobBuilt text texts blob → BlobIsOfTexts text texts blob

-- memory and limits aside it refuses only where a text means nothing, or a merge isn't defined
abbrev pub NotBuiltIsNoMeaning : Type 0
NotBuiltIsNoMeaning = (text : List ℕ) (texts : List (List ℕ)) (k : ℕ) (e : Fault) (result : Meaning)
    → IsOfBytes text → AllByRecursion IsOfBytes texts → WhyNoBlobBuilt text texts k e → e.kind ≢ NoMemory → e.kind ≢ Limit
    → TextsAreMerged text texts result → ⊥

-- ---- addresses and routes

-- What building answers is a blob of the texts' merged meaning (see `BuildingIsMerging`), and each region and each route that this meaning
-- determines, an answer or a fault, is the one of the blob's tree.
abbrev pub BuildingIsResolved : Type 0
BuildingIsResolved = (text : List ℕ) (texts : List (List ℕ)) (blob : List ℕ)
    → IsOfBytes text → AllByRecursion IsOfBytes texts → IsBlobBuilt text texts blob → (h : BlobIsOfTexts text texts blob)
    × IsResolvedIn h.of_meaning.tree h.result

-- and so is what applying answers, whoever wrote the base and the objects (see `ApplyingIsMerging`)
abbrev pub ApplyingIsResolved : Type 0
ApplyingIsResolved = (bytes : List ℕ) (objects : List (List ℕ)) (blob : List ℕ) (m : Meaning) (overlays : List Overlay) (number : Path → ℕ)
    → IsBlobOfMeaning bytes m number → AreBlobsOfOverlays objects overlays → IsBlobApplied bytes objects blob
    → (result : Meaning) × (number' : Path → ℕ) × IsFold m overlays result × (h : IsBlobOfMeaning blob result number')
    × Extends m number number' × IsResolvedIn h.tree result

-- and what a base's text is compiled to (see `BaseRepresents`)
abbrev pub CompilingIsResolved : Type 0
CompilingIsResolved = (text blob : List ℕ) → IsOfBytes text → IsCompiled base text blob → (h : BlobRepresents text blob)
    × IsResolvedIn h.of_meaning.tree h.meaning

-- ---- what is printed is compiled again

-- a text has no place for the boot CPU
abbrev pub without_boot_cpu : Reading → Reading
without_boot_cpu t = record t { boot_cpu = 0 }

-- The text, taken as it is, has the tree, with boot CPU 0. Its blob is read as that tree; and it has one, memory aside, unless
-- that would be longer than 16 MiB, which it may be only where the names of the blob that was printed share their bytes.
pub record IsCompiledAgain (t : Reading) (text : List ℕ) : Type 0 where
  pub has_tree : TextHasTree raw text (without_boot_cpu t)
  pub reads : (blob : List ℕ) → IsCompiled raw text blob → Reads blob (without_boot_cpu t)
  pub refused : (e : Fault) → WhyNotCompiled raw text e → e.kind ≢ NoMemory → (e ≡ placeless Limit) × most_bytes < length (written (without_boot_cpu t))

-- so is each text of a blob that is no longer than a source may be
abbrev pub PrintedIsCompiledAgain : Type 0
PrintedIsCompiledAgain = (bytes text : List ℕ) (t : Reading) → AllByRecursion (λ b. b < 256) bytes → IsRead bytes t → IsDecompiled bytes text
    → length text ≤ most_bytes → IsCompiledAgain t text
