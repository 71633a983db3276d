-- What a text means, and what `compile` and `compile_raw` answer to it.
use Rattle.std.specs.Prelude.{◌≡◌, ◌⊎◌, ℕ, ◌+◌, ◌<◌, ◌≤◌, true, false, List, [], length}
use Rattle.dt_model.specs.Fixups.{IsObjectOf}
use Rattle.dt_model.specs.Instance.{IsTreeOf}
use Rattle.dt_model.specs.Limits.{most_bytes, most_nodes}
use Rattle.dt_model.specs.Meaning.{Meaning}
use Rattle.dt_model.specs.Overlay.{Overlay}
use Rattle.dt_model.specs.OverlaySource.{OverlayMeans}
use Rattle.dt_model.specs.Source.{Mode, base, SourceMeans}
use Rattle.dt_model.specs.Tree.{Reading}
use Rattle.dt_model.specs.Valid.{node_count, IsWithinLimits}
use Rattle.dt_names.specs.Fault.{placeless}
use Rattle.dt_names.specs.declared.fault.Fault.{Fault}
use Rattle.dt_names.specs.declared.fault.FaultKind.{FaultKind}
use Rattle.dt_names.specs.declared.fault.FaultKind.TheVariants as fault
use Rattle.dt_grammar.specs.Grammar.{Says}
use Rattle.dt_grammar.specs.Parsed.{IsParsed, WhyNotParsed}
use Rattle.dt_parse.specs.Reading.{IsSourceFault}
use Rattle.dt_source.specs.Refusals.{WhyNotNamed, WhyNoOverlay, fault_place}
use Rattle.dt_write.specs.Written.{written}

-- ---- what a text means

-- the text is a source that is no overlay's, and its places mean this
pub record TextMeans (mode : Mode) (text : List ℕ) (m : Meaning) : Type 0 where
  pub says : Says
  pub parsed : IsParsed text says
  pub plain : says.plugin ≡ false
  pub means : SourceMeans mode says.reservations says.places m

-- the same, and they are compiled to this tree
pub record TextHasTree (mode : Mode) (text : List ℕ) (t : Reading) : Type 0 where
  pub says : Says
  pub parsed : IsParsed text says
  pub plain : says.plugin ≡ false
  pub tree : IsTreeOf mode says.reservations says.places t

-- the text is an overlay's source, without reservations, and its places mean this
pub record OverlayTextMeans (text : List ℕ) (o : Overlay) : Type 0 where
  pub says : Says
  pub parsed : IsParsed text says
  pub plugin : says.plugin ≡ true
  pub reservations : says.reservations ≡ []
  pub means : OverlayMeans says.places o

-- the same, and they are compiled to this tree
pub record OverlayTextHasTree (text : List ℕ) (t : Reading) : Type 0 where
  pub says : Says
  pub parsed : IsParsed text says
  pub plugin : says.plugin ≡ true
  pub reservations : says.reservations ≡ []
  pub tree : IsObjectOf says.places t

-- ---- a base, or a raw source

-- the text has a tree, and the blob is the writer's of that tree; both are within the limits
pub record IsCompiled (mode : Mode) (text blob : List ℕ) : Type 0 where
  pub tree : Reading
  pub of_text : TextHasTree mode text tree
  pub is : blob ≡ written tree
  pub within : IsWithinLimits tree
  pub size : length blob ≤ most_bytes

-- Why a text has no tree within the limits.
pub data WhyNoTree (mode : Mode) (text : List ℕ) : Fault → Type 0 where
  -- memory may be refused at any time
  no_memory : WhyNoTree mode text (placeless fault.NoMemory)
  -- it isn't a source, by its first fault
  unparsed : (e : Fault) → WhyNotParsed text e → WhyNoTree mode text e
  -- it is an overlay's, or it means nothing, or too much
  unnamed : (s : Says) (kind : FaultKind) → IsParsed text s → WhyNotNamed mode kind s →
      WhyNoTree mode text (record { kind = kind; at = fault_place kind })
  -- with the node of its labels its tree has more than 65,536 nodes, the root among them
  many : (t : Reading) → TextHasTree mode text t → most_nodes < 1 + node_count t.children → WhyNoTree mode text (placeless fault.Limit)

-- Why a text isn't compiled.
pub data WhyNotCompiled (mode : Mode) (text : List ℕ) : Fault → Type 0 where
  -- memory may be refused at any time
  no_memory : WhyNotCompiled mode text (placeless fault.NoMemory)
  -- it has no tree within the limits
  no_tree : (e : Fault) → WhyNoTree mode text e → WhyNotCompiled mode text e
  -- the blob of its tree would be longer than 16 MiB
  big : (t : Reading) → TextHasTree mode text t → most_bytes < length (written t) → WhyNotCompiled mode text (placeless fault.Limit)

-- ---- an overlay's source

-- the text is an overlay's source, and the blob is the writer's of the tree that it is compiled to; both are within the limits
pub record IsCompiledOverlay (text blob : List ℕ) : Type 0 where
  pub tree : Reading
  pub of_text : OverlayTextHasTree text tree
  pub is : blob ≡ written tree
  pub within : IsWithinLimits tree
  pub size : length blob ≤ most_bytes

-- Why an overlay's source isn't compiled.
pub data WhyNotCompiledOverlay (text : List ℕ) : Fault → Type 0 where
  -- memory may be refused at any time
  no_memory : WhyNotCompiledOverlay text (placeless fault.NoMemory)
  -- it has reservations, or it means nothing, or too much
  refused : (s : Says) (kind : FaultKind) → IsParsed text s → WhyNoOverlay kind s →
      WhyNotCompiledOverlay text (record { kind = kind; at = fault_place kind })
  -- with the nodes that list its labels and its cells its tree has more than 65,536 nodes, or a path of more than 64 names
  large : (t : Reading) → OverlayTextHasTree text t → ¬ IsWithinLimits t → WhyNotCompiledOverlay text (placeless fault.Limit)
  -- the blob of its tree would be longer than 16 MiB
  big : (t : Reading) → OverlayTextHasTree text t → most_bytes < length (written t) → WhyNotCompiledOverlay text (placeless fault.Limit)

-- ---- either

-- the blob of a base, or of an overlay
abbrev pub IsBlobOf : (text blob : List ℕ) → Type 0
IsBlobOf text blob = IsCompiled base text blob ⊎ IsCompiledOverlay text blob

-- Why a text has no blob.
pub data WhyNoBlob (text : List ℕ) : Fault → Type 0 where
  -- memory may be refused at any time
  no_memory : WhyNoBlob text (placeless fault.NoMemory)
  -- it isn't a source, by its first fault
  unparsed : (e : Fault) → WhyNotParsed text e → WhyNoBlob text e
  -- it is no overlay's, and isn't compiled as a base
  as_base : (s : Says) (e : Fault) → IsParsed text s → s.plugin ≡ false → WhyNotCompiled base text e → WhyNoBlob text e
  -- it is an overlay's, and isn't compiled as one
  as_overlay : (s : Says) (e : Fault) → IsParsed text s → s.plugin ≡ true → WhyNotCompiledOverlay text e → WhyNoBlob text e

-- a fault that the compiler reports
abbrev pub IsCompilerFault : FaultKind → Type 0
IsCompilerFault fault.DuplicateProperty = Unit {0}
IsCompilerFault fault.DuplicateNode = Unit {0}
IsCompilerFault fault.DuplicateLabel = Unit {0}
IsCompilerFault fault.NoSuchTarget = Unit {0}
IsCompilerFault fault.UnresolvedReference = Unit {0}
IsCompilerFault fault.BadPhandle = Unit {0}
IsCompilerFault fault.DuplicatePhandle = Unit {0}
IsCompilerFault fault.ReservedName = Unit {0}
IsCompilerFault fault.OverlayDelete = Unit {0}
IsCompilerFault fault.OverlayPhandle = Unit {0}
IsCompilerFault fault.OverlayPathReference = Unit {0}
IsCompilerFault fault.OverlayReserve = Unit {0}
IsCompilerFault fault.OutsideContent = Unit {0}
IsCompilerFault fault.BadFragment = Unit {0}
IsCompilerFault kind = IsSourceFault kind
