-- What a reader of `__fixups__` still lists, as a function of what it has still to read.
use Rattle.std.specs.Prelude.{ℕ, ◌+◌, ◌==◌, Bool, false, nat_le, nat_lt, List, [], ◌∷◌, ◌++◌, length, Option, Some, None, option_and_then, Ok, Err, if◌then◌else◌}
use Rattle.std.specs.List.{list_all}
use Rattle.std.specs.Char.{digit_value}
use Rattle.std.specs.Str.Parse.{digits_value}
use Rattle.dt_model.specs.Names.{Name, is_property_name}
use Rattle.dt_model.specs.Path.{Path}
use Rattle.dt_model.specs.Tree.{Property, nodes_of, value_in}
use Rattle.dt_model.specs.Applied.{node_named}
use Rattle.dt_names.specs.Fault.{placeless}
use Rattle.dt_names.specs.declared.fault.FaultKind.TheVariants.{BadFixup}
use Rattle.dt_trees.specs.Placed.{PlacedTree, reading_of, place_of}
use Rattle.dt_overlay_texts.specs.Cuts.{texts_in}
use Rattle.dt_marks_read.specs.Listed.{ListedCell, Fixup}

-- ---- the cell of a text

-- a byte in front of the first part
abbrev pub onto_front : ℕ → Option (List ℕ × List ℕ) → Option (List ℕ × List ℕ)
onto_front b None = None
onto_front b (Some parts) = Some (b ∷ parts.0, parts.1)

-- the bytes before the first separator, and those behind it
abbrev pub cut_in : ℕ → List ℕ → Option (List ℕ × List ℕ)
cut_in separator [] = None
cut_in separator (b ∷ bytes) = if b == separator then Some ([], bytes) else onto_front b (cut_in separator bytes)

-- the number that decimal digits write
abbrev pub are_digits : List ℕ → Bool
are_digits [] = false
are_digits (d ∷ digits) = list_all (λ (b : ℕ). nat_lt (digit_value b) 10) (d ∷ digits)

abbrev pub number_of_digits : List ℕ → Option ℕ
number_of_digits digits = if are_digits digits then Some (digits_value 10 digits) else None

-- the cell at an offset of a value
abbrev pub cell_within : ℕ → Name → List ℕ → Option ℕ → Option ListedCell
cell_within node property value None = None
cell_within node property value (Some offset) =
    if nat_le (offset + 4) (length value) then Some (record { node = node; property = property; offset = offset }) else None

-- the cell at an offset of a property of a path's node
abbrev pub cell_at : PlacedTree → Path → Name → Option ℕ → Option ListedCell
cell_at t p property offset =
    option_and_then (λ node. option_and_then (λ value. cell_within node property value offset) (value_in (reading_of t) p property)) (place_of t p)

-- the cell of a path's text, a property and digits
abbrev pub cell_of_parts : PlacedTree → List ℕ → Name → List ℕ → Option ListedCell
cell_of_parts t front property digits =
    if is_property_name property
    then option_and_then (λ p. cell_at t p property (number_of_digits digits)) (node_named (nodes_of (reading_of t)) (front ++ 0 ∷ []))
    else None

-- the cell that a text names, where the tree has it
abbrev pub cell_in : PlacedTree → List ℕ → Option ListedCell
cell_in t text =
    option_and_then (λ first. option_and_then (λ second. cell_of_parts t first.0 second.0 second.1) (cut_in 58 first.1)) (cut_in 58 text)

-- ---- what is listed

-- a cell, and what is listed behind it, or a fault, behind which nothing is
abbrev pub told_next : Name → Option ListedCell → List Fixup → List Fixup
told_next label None rest = Err (placeless BadFixup) ∷ []
told_next label (Some x) rest = Ok (label, x) ∷ rest

-- of a label's texts, and then more
unfoldable pub told_of_texts : PlacedTree → Name → List (List ℕ) → List Fixup → List Fixup
told_of_texts t label [] more = more
told_of_texts t label (text ∷ texts) more = told_next label (cell_in t text) (told_of_texts t label texts more)

-- whether the last byte is a NUL
abbrev pub ends_with_nul : List ℕ → Bool
ends_with_nul [] = false
ends_with_nul (b ∷ []) = b == 0
ends_with_nul (b ∷ c ∷ bytes) = ends_with_nul (c ∷ bytes)

-- of properties
unfoldable pub told_of : PlacedTree → List Property → List Fixup
told_of t [] = []
told_of t (p ∷ ps) =
    if ends_with_nul p.value then told_of_texts t p.name (texts_in p.value) (told_of t ps) else Err (placeless BadFixup) ∷ []

-- of a label's texts, and of the properties behind it, if any
abbrev pub behind_label : Option (List Property) → List Property
behind_label None = []
behind_label (Some ps) = ps

abbrev pub fixups_left : PlacedTree → Option (List Property) → Name → List (List ℕ) → List Fixup
fixups_left t labels label texts = told_of_texts t label texts (told_of t (behind_label labels))
