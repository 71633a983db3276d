-- The flattened devicetree format (Devicetree Specification v0.4, chapter 5): which bytes are a blob, and of what tree.
-- It is a grammar in two levels: bytes are tokens, and tokens, without NOPs, are those of a tree.
use Rattle.std.specs.Prelude.{◌≡◌, ◌≢◌, ℕ, ◌+◌, ◌%◌, ◌<◌, ◌≤◌, ◌^◌, List, [], ◌∷◌, ◌++◌, length, take, drop, map, Option, Some, None, nat_le, if◌then◌else◌}
use Rattle.std.specs.List.{AllByRecursion, flat_map}
use Rattle.std.specs.Int.{w32, w64, to_be_bytes, from_be_bytes}
use Rattle.dt_model.specs.Limits.{most_bytes}
use Rattle.dt_model.specs.Names.{Name}
use Rattle.dt_model.specs.Tree.{Property, Forest, no_nodes, branch, Reading}
use Rattle.dt_model.specs.Valid.{IsValid, IsWithinLimits}

-- a 32-bit word, the highest byte first
abbrev pub word : ℕ → List ℕ
word n = to_be_bytes w32 n

-- ---- the structure block (5.4)

-- a token: the beginning and the end of a node, a property, a NOP, and the end of the tree
pub data Token : Type 0 where
  begin_node : (name : Name) → Token
  end_node : Token
  prop : (p : Property) → Token
  nop : Token
  end_tree : Token

-- bytes without a NUL
abbrev pub IsText : List ℕ → Type 0
IsText bytes = AllByRecursion (λ b. b ≢ 0) bytes

-- own is the content and any zero to three bytes up to a multiple of four
pub record IsPadded (content own : List ℕ) : Type 0 where
  pub padding : List ℕ
  pub whole : own ≡ content ++ padding
  pub short : length padding < 4
  pub aligned : length own % 4 ≡ 0

-- at the offset the strings block holds the name and a NUL, perhaps inside a longer name (5.5)
pub record HoldsName (strings : List ℕ) (offset : ℕ) (name : Name) : Type 0 where
  pub rest : List ℕ
  pub stands : drop offset strings ≡ name ++ 0 ∷ rest
  pub text : IsText name

-- PROP, the length of the value, the offset of the name, and the value
pub record SpellsProperty (strings : List ℕ) (p : Property) (own : List ℕ) : Type 0 where
  pub offset : ℕ
  pub offset_fits : offset < 2 ^ 32
  pub length_fits : length p.value < 2 ^ 32
  pub named : HoldsName strings offset p.name
  pub bytes : IsPadded (word 3 ++ (word (length p.value) ++ (word offset ++ p.value))) own

-- BEGIN_NODE, the name and a NUL
pub record SpellsBegin (name : Name) (own : List ℕ) : Type 0 where
  pub text : IsText name
  pub bytes : IsPadded (word 1 ++ (name ++ 0 ∷ [])) own

-- own is the token
abbrev pub Spells : List ℕ → Token → List ℕ → Type 0
Spells strings (begin_node name) own = SpellsBegin name own
Spells strings end_node own = own ≡ word 2
Spells strings (prop p) own = SpellsProperty strings p own
Spells strings nop own = own ≡ word 4
Spells strings end_tree own = own ≡ word 9

-- the bytes are these tokens, one after another
abbrev pub SpellsAll : List ℕ → List Token → List ℕ → Type 0
SpellsAll strings [] bytes = bytes ≡ []
SpellsAll strings (token ∷ tokens) bytes =
    (own rest : List ℕ) × (bytes ≡ own ++ rest) × Spells strings token own × SpellsAll strings tokens rest

-- the tokens of siblings: each begins, has its properties before its children, and ends
abbrev pub tokens_of_forest : Forest → List Token
tokens_of_forest no_nodes = []
tokens_of_forest (branch name properties children siblings) =
    begin_node name ∷ (map prop properties ++ (tokens_of_forest children ++ end_node ∷ tokens_of_forest siblings))

-- the tokens of the root, which has no name
abbrev pub tokens_of : List Property → Forest → List Token
tokens_of properties children = tokens_of_forest (branch [] properties children no_nodes)

abbrev pub without_nops : List Token → List Token
without_nops [] = []
without_nops (nop ∷ tokens) = without_nops tokens
without_nops (begin_node name ∷ tokens) = begin_node name ∷ without_nops tokens
without_nops (end_node ∷ tokens) = end_node ∷ without_nops tokens
without_nops (prop p ∷ tokens) = prop p ∷ without_nops tokens
without_nops (end_tree ∷ tokens) = end_tree ∷ without_nops tokens

-- a structure block: the tree's tokens with any NOPs before them, and END, once and last
pub record SpellsTree (strings : List ℕ) (properties : List Property) (children : Forest) (block : List ℕ) : Type 0 where
  pub tokens : List Token
  pub spelled : SpellsAll strings (tokens ++ end_tree ∷ []) block
  pub whole : without_nops tokens ≡ tokens_of properties children

-- ---- the memory reservation block (5.3)

-- a pair of 64-bit numbers
abbrev pub pair : ℕ × ℕ → List ℕ
pair r = to_be_bytes w64 r.0 ++ to_be_bytes w64 r.1

-- the pairs, and a pair of zeros
abbrev pub reservation_block : List (ℕ × ℕ) → List ℕ
reservation_block reservations = flat_map pair reservations ++ pair (0, 0)

-- ---- the header (5.2)

-- the 32-bit number at a place of the bytes, where four bytes stand there
abbrev pub word_at : List ℕ → ℕ → Option ℕ
word_at bytes at = if nat_le (at + 4) (length bytes) then Some (from_be_bytes w32 (take 4 (drop at bytes))) else None

pub record Header : Type 0 where
  pub total_size : ℕ
  pub structure_offset : ℕ
  pub strings_offset : ℕ
  pub reservations_offset : ℕ
  pub version : ℕ
  pub last_compatible_version : ℕ
  pub boot_cpu : ℕ
  pub strings_size : ℕ
  pub structure_size : ℕ

-- the ten words at the front of the bytes
pub record HasHeader (bytes : List ℕ) (h : Header) : Type 0 where
  pub magic : word_at bytes 0 ≡ Some 0xd00dfeed
  pub total_size : word_at bytes 4 ≡ Some h.total_size
  pub structure_offset : word_at bytes 8 ≡ Some h.structure_offset
  pub strings_offset : word_at bytes 12 ≡ Some h.strings_offset
  pub reservations_offset : word_at bytes 16 ≡ Some h.reservations_offset
  pub version : word_at bytes 20 ≡ Some h.version
  pub last_compatible_version : word_at bytes 24 ≡ Some h.last_compatible_version
  pub boot_cpu : word_at bytes 28 ≡ Some h.boot_cpu
  pub strings_size : word_at bytes 32 ≡ Some h.strings_size
  pub structure_size : word_at bytes 36 ≡ Some h.structure_size

-- a header of version 17 whose blocks lie inside the blob, which lies inside so many bytes
pub record IsSoundHeader (h : Header) (size : ℕ) : Type 0 where
  pub holds_header : 40 ≤ h.total_size
  pub inside : h.total_size ≤ size
  pub version : 17 ≤ h.version
  pub last_compatible_version : h.last_compatible_version ≤ 17
  pub reservations_aligned : h.reservations_offset % 8 ≡ 0
  pub structure_aligned : h.structure_offset % 4 ≡ 0
  pub structure_inside : h.structure_offset + h.structure_size ≤ h.total_size
  pub strings_inside : h.strings_offset + h.strings_size ≤ h.total_size

-- so many bytes at an offset
abbrev pub part : ℕ → ℕ → List ℕ → List ℕ
part offset size bytes = take size (drop offset bytes)

-- ---- the blob

-- the bytes are a blob that is read as the tree
pub record Reads (bytes : List ℕ) (t : Reading) : Type 0 where
  pub header : Header
  pub words : HasHeader bytes header
  pub sound : IsSoundHeader header (length bytes)
  pub boot_cpu : t.boot_cpu ≡ header.boot_cpu
  -- the pairs and the pair of zeros lie before the blob's end, whatever follows them
  pub behind : List ℕ
  pub reservations : drop header.reservations_offset (take header.total_size bytes) ≡ reservation_block t.reservations ++ behind
  pub structure : SpellsTree (part header.strings_offset header.strings_size bytes) t.properties t.children
      (part header.structure_offset header.structure_size bytes)
  pub valid : IsValid t

-- the blob is at most 16 MiB long, and its tree within the limits
pub record IsWithin (bytes : List ℕ) (t : Reading) : Type 0 where
  pub header : Header
  pub words : HasHeader bytes header
  pub size : header.total_size ≤ most_bytes
  pub tree : IsWithinLimits t
