-- The node above a node (Devicetree Specification v0.4, 2.2.3).
use Rattle.std.specs.Prelude.{[], ◌∷◌, Option, Some, None}
use Rattle.dt_model.specs.Path.{Path}

-- a path without its last name
abbrev pub front : Path → Path
front [] = []
front (x ∷ []) = []
front (x ∷ y ∷ p) = x ∷ front (y ∷ p)

-- the node above one, none above the root
abbrev pub parent_of : Path → Option Path
parent_of [] = None
parent_of (x ∷ p) = Some (front (x ∷ p))
