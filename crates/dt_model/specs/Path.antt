-- Paths of nodes, and their texts (Devicetree Specification v0.4, 2.2.3).
use Rattle.std.specs.Prelude.{ℕ, Bool, true, false, ◌&&◌, ◌||◌, codes, List, [], ◌∷◌, ◌++◌, Option, Some, None, if◌then◌else◌}
use Rattle.std.specs.Str.{bytes_eq}
use Rattle.dt_model.specs.Names.{Name}

-- the names from the root down; the root's path is empty
abbrev pub Path : Type 0
Path = List Name

-- whether two paths have the same names
abbrev pub path_eq : Path → Path → Bool
path_eq [] [] = true
path_eq [] (y ∷ q) = false
path_eq (x ∷ p) [] = false
path_eq (x ∷ p) (y ∷ q) = bytes_eq x y && path_eq p q

-- the rest of the second path below the first, none where it neither is the first nor lies below it
abbrev pub below : Path → Path → Option Path
below [] q = Some q
below (x ∷ p) [] = None
below (x ∷ p) (y ∷ q) = if bytes_eq x y then below p q else None

-- the text of a path: `/`, or one `/name` for each node below the root
abbrev pub path_text : Path → List ℕ
path_text [] = codes "/"
path_text (x ∷ []) = codes "/" ++ x
path_text (x ∷ y ∷ p) = codes "/" ++ x ++ path_text (y ∷ p)

-- the text of a path as the value of a property, with a NUL at its end
abbrev pub path_value : Path → List ℕ
path_value p = path_text p ++ 0 ∷ []

-- the children of the root in which an object, or a blob that takes one, keeps labels and references
abbrev pub is_bookkeeping_name : Name → Bool
is_bookkeeping_name name =
    bytes_eq name (codes "__symbols__") || bytes_eq name (codes "__fixups__") || bytes_eq name (codes "__local_fixups__")

-- whether a path is one of these nodes or lies below one
abbrev pub is_bookkeeping : Path → Bool
is_bookkeeping [] = false
is_bookkeeping (x ∷ p) = is_bookkeeping_name x
