-- The cells of a named tree that wait for nodes of some other tree, and those that hold numbers of its own nodes, among all
-- cells of its references.
use Rattle.std.proofs.Common.{◌≡◌, ℕ, List, [], ◌∷◌, ◌++◌, map, refl, sym, ap, subst, ◌∙◌, inl, inr}
use Rattle.std.specs.List.{flat_map}
use Rattle.dt_model.specs.Names.{Name}
use Rattle.dt_model.specs.Path.{Path}
use Rattle.dt_model.specs.Lists.{IsIn}
use Rattle.dt_model.specs.Object.{Cell, references_from}
use Rattle.dt_model.specs.Overlay.{inside, outside}
use Rattle.dt_model.specs.Valid.{AreDistinct}
use Rattle.dt_model.specs.Fixups.{outside_cell, outside_cells_of, outside_cells}
use Rattle.dt_model.specs.Named.{NodeReference, NamedProperty, Named, NamedPlaced, nodes_of}
use Rattle.dt_model.proofs.Distinct.{in_flat}
use Rattle.dt_model.proofs.Flat.{from_flat, distinct_flat}
use Rattle.dt_model_laws.proofs.ReferenceCells.{flat_of_flat, flat_same, cell_at, cells_of_property, cells_of_node, cells_in, only_cell}

abbrev outside_of : Cell × NodeReference → List (Name × Cell)
outside_of (c, inside k) = []
outside_of (c, outside l) = (l, c) ∷ []

abbrev pub inside_of : Cell × NodeReference → List Cell
inside_of (c, inside k) = c ∷ []
inside_of (c, outside l) = []

-- the cells that hold numbers of the tree's own nodes
abbrev pub inside_cells : Named NodeReference → List Cell
inside_cells t = flat_map inside_of (cells_in t)

-- ---- cells that wait

outside_one : (path : Path) (name : Name) (r : ℕ × NodeReference) → outside_cell path name r ≡ outside_of (cell_at path name r)
outside_one path name (k, inside n) = refl
outside_one path name (k, outside l) = refl

outside_property : (path : Path) (name : Name) (rs : List (ℕ × NodeReference)) → flat_map (outside_cell path name) rs ≡ flat_map outside_of (map (cell_at path name) rs)
outside_property path name [] = refl
outside_property path name (r ∷ rs) =
    ap (λ xs. xs ++ flat_map (outside_cell path name) rs) (outside_one path name r) ∙ ap (λ xs. outside_of (cell_at path name r) ++ xs) (outside_property path name rs)

outside_node : (n : NamedPlaced NodeReference) → outside_cells_of n ≡ flat_map outside_of (cells_of_node n)
outside_node n =
    flat_same (λ (p : NamedProperty NodeReference). flat_map (outside_cell n.path p.name) (references_from 0 p.value)) (λ (p : NamedProperty NodeReference). flat_map outside_of (cells_of_property n.path p))
    n.content.properties (λ p i. outside_property n.path p.name (references_from 0 p.value))
    ∙ sym (flat_of_flat outside_of (cells_of_property n.path) n.content.properties)

outside_all : (t : Named NodeReference) → outside_cells t ≡ flat_map outside_of (cells_in t)
outside_all t =
    flat_same outside_cells_of (λ n. flat_map outside_of (cells_of_node n)) (nodes_of t) (λ n i. outside_node n) ∙ sym (flat_of_flat outside_of cells_of_node (nodes_of t))

outside_has : (x : Cell × NodeReference) (l : Name) (c : Cell) → IsIn (l, c) (outside_of x) → x ≡ (c, outside l)
outside_has (d, inside k) l c i = absurd i
outside_has (d, outside m) l c (inl same) =
    let name : l ≡ m = ap (λ (y : Name × Cell). y.0) same in
    let at : c ≡ d = ap (λ (y : Name × Cell). y.1) same in
    λ i. (sym at i, outside (sym name i))
outside_has (d, outside m) l c (inr i) = absurd i

-- a cell waits for a label where the reference at the cell is by it
pub waiting_from : (t : Named NodeReference) (l : Name) (c : Cell) → IsIn (l, c) (outside_cells t) → IsIn (c, outside l) (cells_in t)
waiting_from t l c i =
    let w = from_flat outside_of (cells_in t) (l, c) (subst (IsIn (l, c)) (outside_all t) i) in
    subst (λ (x : Cell × NodeReference). IsIn x (cells_in t)) (outside_has w.0 l c w.2) w.1

pub waiting_in : (t : Named NodeReference) (l : Name) (c : Cell) → IsIn (c, outside l) (cells_in t) → IsIn (l, c) (outside_cells t)
waiting_in t l c i = subst (IsIn (l, c)) (sym (outside_all t)) (in_flat outside_of (cells_in t) (c, outside l) (l, c) i (inl refl))

one_outside : (x : Cell × NodeReference) → AreDistinct (outside_of x)
one_outside (c, inside k) = tt
one_outside (c, outside l) = (tt, tt)

outside_cell_is : (x : Cell × NodeReference) (y : Name × Cell) → IsIn y (outside_of x) → only_cell x ≡ y.1
outside_cell_is x y i = ap only_cell (outside_has x y.0 y.1 i)

pub waiting_once : (t : Named NodeReference) → AreDistinct (map only_cell (cells_in t)) → AreDistinct (outside_cells t)
waiting_once t d =
    subst AreDistinct (sym (outside_all t))
    (distinct_flat only_cell outside_of (cells_in t) d (λ x i. one_outside x) (λ x x' y i i' here there. outside_cell_is x y here ∙ sym (outside_cell_is x' y there)))

-- ---- cells that hold numbers of the tree's own nodes

inside_has : (x : Cell × NodeReference) (c : Cell) → IsIn c (inside_of x) → (k : ℕ) × (x ≡ (c, inside k))
inside_has (d, inside k) c (inl same) = (k, (λ i. (sym same i, inside k)))
inside_has (d, inside k) c (inr i) = absurd i
inside_has (d, outside l) c i = absurd i

pub local_from : (t : Named NodeReference) (c : Cell) → IsIn c (inside_cells t) → (k : ℕ) × IsIn (c, inside k) (cells_in t)
local_from t c i =
    let w = from_flat inside_of (cells_in t) c i in
    let x = inside_has w.0 c w.2 in
    (x.0, subst (λ (x : Cell × NodeReference). IsIn x (cells_in t)) x.1 w.1)

pub local_in : (t : Named NodeReference) (c : Cell) (k : ℕ) → IsIn (c, inside k) (cells_in t) → IsIn c (inside_cells t)
local_in t c k i = in_flat inside_of (cells_in t) (c, inside k) c i (inl refl)

one_inside : (x : Cell × NodeReference) → AreDistinct (inside_of x)
one_inside (c, inside k) = (tt, tt)
one_inside (c, outside l) = tt

pub local_once : (t : Named NodeReference) → AreDistinct (map only_cell (cells_in t)) → AreDistinct (inside_cells t)
local_once t d =
    distinct_flat only_cell inside_of (cells_in t) d (λ x i. one_inside x)
    (λ x x' c i i' here there. ap only_cell (inside_has x c here).1 ∙ sym (ap only_cell (inside_has x' c there).1))
