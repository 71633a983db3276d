-- The text of a tree, as a source of DTS version 1 (Devicetree Specification v0.4, chapter 6). The boot CPU isn't part of it.
use Rattle.std.specs.Prelude.{ℕ, zero, suc, ◌/◌, ◌%◌, ◌&&◌, ◌==◌, Bool, true, false, not, nat_le, List, [], ◌∷◌, ◌++◌, length, replicate, slice_index, codes, if◌then◌else◌}
use Rattle.std.specs.Int.{w64, to_be_bytes}
use Rattle.dt_model.specs.Tree.{Property, Forest, no_nodes, branch, Reading}

-- ---- numbers

-- each byte as two lower-case hexadecimal digits
abbrev pub hexadecimal : List ℕ → List ℕ
hexadecimal [] = []
hexadecimal (b ∷ bytes) = slice_index (codes "0123456789abcdef") (b / 16) ∷ slice_index (codes "0123456789abcdef") (b % 16) ∷ hexadecimal bytes

-- the digits without zeros in front, the last digit apart
abbrev pub significant : List ℕ → List ℕ
significant [] = []
significant (d ∷ []) = d ∷ []
significant (d ∷ e ∷ digits) = if d == 48 then significant (e ∷ digits) else d ∷ e ∷ digits

-- ---- values

-- The bytes are the rest of texts: printable bytes and single NULs; the last byte is a NUL. A text begins here or doesn't.
abbrev pub ends_texts : (begins : Bool) → List ℕ → Bool
ends_texts begins [] = begins
ends_texts begins (zero ∷ bytes) = not begins && ends_texts true bytes
ends_texts begins (suc b ∷ bytes) = nat_le 0x20 (suc b) && nat_le (suc b) 0x7e && ends_texts false bytes

-- one or more texts, none of them empty, each with a NUL
abbrev pub are_texts : List ℕ → Bool
are_texts [] = false
are_texts (b ∷ bytes) = ends_texts true (b ∷ bytes)

-- a byte between quotes: a quote and a backslash have a backslash before them
abbrev pub quoted : ℕ → List ℕ
quoted b = if b == 34 then codes "\\\"" else (if b == 92 then codes "\\\\" else b ∷ [])

-- texts from the inside of the first on
abbrev pub texts_from : List ℕ → List ℕ
texts_from [] = []
texts_from (zero ∷ []) = codes "\""
texts_from (zero ∷ b ∷ bytes) = codes "\", \"" ++ texts_from (b ∷ bytes)
texts_from (suc b ∷ bytes) = quoted (suc b) ++ texts_from bytes

-- the cells of a value with blanks between them, each with the fewest digits
abbrev pub cells_text : List ℕ → List ℕ
cells_text (a ∷ b ∷ c ∷ d ∷ []) = codes "0x" ++ significant (hexadecimal (a ∷ b ∷ c ∷ d ∷ []))
cells_text (a ∷ b ∷ c ∷ d ∷ e ∷ bytes) = codes "0x" ++ (significant (hexadecimal (a ∷ b ∷ c ∷ d ∷ [])) ++ (codes " " ++ cells_text (e ∷ bytes)))
cells_text _ = []

-- the bytes of a value with blanks between them
abbrev pub bytes_text : List ℕ → List ℕ
bytes_text [] = []
bytes_text (b ∷ []) = hexadecimal (b ∷ [])
bytes_text (b ∷ c ∷ bytes) = hexadecimal (b ∷ []) ++ (codes " " ++ bytes_text (c ∷ bytes))

-- what follows a property's name: nothing for no bytes, else texts, cells or bytes, the first of these that fits
abbrev pub value_text : List ℕ → List ℕ
value_text [] = []
value_text (b ∷ bytes) =
    if are_texts (b ∷ bytes) then codes " = \"" ++ texts_from (b ∷ bytes)
    else (if length (b ∷ bytes) % 4 == 0 then codes " = <" ++ (cells_text (b ∷ bytes) ++ codes ">")
    else codes " = [" ++ (bytes_text (b ∷ bytes) ++ codes "]"))

-- ---- lines

-- the tabs of a line inside so many nodes
abbrev pub tabs : ℕ → List ℕ
tabs depth = replicate depth 9

abbrev pub property_line : ℕ → Property → List ℕ
property_line depth p = tabs depth ++ (p.name ++ (value_text p.value ++ codes ";\n"))

abbrev pub property_lines : ℕ → List Property → List ℕ
property_lines depth [] = []
property_lines depth (p ∷ ps) = property_line depth p ++ property_lines depth ps

-- siblings inside so many nodes
abbrev pub node_lines : ℕ → Forest → List ℕ
node_lines depth no_nodes = []
node_lines depth (branch name properties children siblings) =
    (tabs depth ++ (name ++ codes " {\n"))
    ++ (property_lines (suc depth) properties ++ (node_lines (suc depth) children ++ ((tabs depth ++ codes "};\n") ++ node_lines depth siblings)))

-- an address and a size, of sixteen digits each
abbrev pub reservation_line : ℕ × ℕ → List ℕ
reservation_line r =
    codes "/memreserve/ 0x" ++ (hexadecimal (to_be_bytes w64 r.0) ++ (codes " 0x" ++ (hexadecimal (to_be_bytes w64 r.1) ++ codes ";\n")))

abbrev pub reservation_lines : List (ℕ × ℕ) → List ℕ
reservation_lines [] = []
reservation_lines (r ∷ rs) = reservation_line r ++ reservation_lines rs

-- the whole text
abbrev pub printed : Reading → List ℕ
printed t =
    codes "/dts-v1/;\n" ++ (reservation_lines t.reservations
    ++ (codes "/ {\n" ++ (property_lines 1 t.properties ++ (node_lines 1 t.children ++ codes "};\n"))))
