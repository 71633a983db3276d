-- What `__local_fixups__` lists: the cells that hold numbers of the tree's own nodes, where their offsets are 32-bit numbers.
use Rattle.std.proofs.Common.{◌≡◌, ℕ, ◌<◌, ◌^◌, ◌%◌, List, [], ◌∷◌, ◌++◌, append-nil, length, map, refl, sym, ap, ◌∙◌, inl, inr, arith}
use Rattle.std.specs.List.{flat_map}
use Rattle.std.proofs.lemmas.Nat.{from_be_bytes-to_be_bytes_4}
use Rattle.std.proofs.lemmas.List.{length-append}
use Rattle.std.proofs.lemmas.Grind.{flat_map-append}
use Rattle.dt_model.specs.Names.{Name}
use Rattle.dt_model.specs.Path.{Path}
use Rattle.dt_model.specs.Lists.{IsIn}
use Rattle.dt_model.specs.Meaning.{cell}
use Rattle.dt_model.specs.Object.{Cell, references_from, words_of, cells_of}
use Rattle.dt_model.specs.Overlay.{inside, outside}
use Rattle.dt_model.specs.Fixups.{inside_offset, offsets_as, local_properties, unless_empty, mirror}
use Rattle.dt_model.specs.Tree as tree
use Rattle.dt_model.specs.Tree.{Property, Forest}
use Rattle.dt_model.specs.Named.{NodeReference, NamedProperty, Content, NamedForest, no_nodes, branch, NamedPlaced, preorder}
use Rattle.dt_model.proofs.Tests.{in_left, in_right}
use Rattle.dt_model_laws.proofs.ReferenceCells.{flat_of_flat, flat_same, cell_at, cells_of_property, cells_of_node}
use Rattle.dt_model_laws.proofs.ObjectCells.{inside_of}

-- the offsets of a node's references are 32-bit numbers
abbrev pub HasLowOffsets : Content NodeReference → Type 0
HasLowOffsets c = (p : NamedProperty NodeReference) → IsIn p c.properties → (r : ℕ × NodeReference) → IsIn r (references_from 0 p.value) → r.0 < 2 ^ 32

-- ---- of a property

abbrev offset_cell : Path → Name → ℕ → Cell
offset_cell path name offset = record { path = path; property = name; offset = offset }

offsets_are : (path : Path) (name : Name) (rs : List (ℕ × NodeReference)) → ((r : ℕ × NodeReference) → IsIn r rs → r.0 < 2 ^ 32)
    → map (offset_cell path name) (words_of (flat_map inside_offset rs)) ≡ flat_map inside_of (map (cell_at path name) rs)
offsets_are path name [] low = refl
offsets_are path name ((k, inside n) ∷ rs) low =
    ap (λ o. offset_cell path name o ∷ map (offset_cell path name) (words_of (flat_map inside_offset rs))) (from_be_bytes-to_be_bytes_4 k (low (k, inside n) (inl refl)))
    ∙ ap (λ cs. offset_cell path name k ∷ cs) (offsets_are path name rs (λ r i. low r (inr i)))
offsets_are path name ((k, outside l) ∷ rs) low = offsets_are path name rs (λ r i. low r (inr i))

-- the cells that a property of the mirror lists
abbrev cells_listed : Path → Property → List Cell
cells_listed path p = map (offset_cell path p.name) (words_of p.value)

as_offsets : (path : Path) (name : Name) (bytes : List ℕ) → flat_map (cells_listed path) (offsets_as name bytes) ≡ map (offset_cell path name) (words_of bytes)
as_offsets path name [] = refl
as_offsets path name (b ∷ bytes) = append-nil (map (offset_cell path name) (words_of (b ∷ bytes)))

-- ---- of a node

pub node_cells : (n : NamedPlaced NodeReference) → HasLowOffsets n.content → cells_of (record { path = n.path; properties = local_properties n.content }) ≡ flat_map inside_of (cells_of_node n)
node_cells n low =
    flat_of_flat (cells_listed n.path) (λ (p : NamedProperty NodeReference). offsets_as p.name (flat_map inside_offset (references_from 0 p.value))) n.content.properties
    ∙ flat_same (λ (p : NamedProperty NodeReference). flat_map (cells_listed n.path) (offsets_as p.name (flat_map inside_offset (references_from 0 p.value))))
    (λ (p : NamedProperty NodeReference). flat_map inside_of (cells_of_property n.path p)) n.content.properties
    (λ p i. as_offsets n.path p.name (flat_map inside_offset (references_from 0 p.value)) ∙ offsets_are n.path p.name (references_from 0 p.value) (low p i))
    ∙ sym (flat_of_flat inside_of (cells_of_property n.path) n.content.properties)

-- ---- of all nodes

-- a node that is left out lists nothing
unless_empty_cells : (path : Path) (name : Name) (ps : List Property) (children siblings : Forest)
    → flat_map cells_of (tree.preorder path (unless_empty name ps children siblings))
    ≡ cells_of (record { path = path ++ name ∷ []; properties = ps }) ++ (flat_map cells_of (tree.preorder (path ++ name ∷ []) children) ++ flat_map cells_of (tree.preorder path siblings))
unless_empty_cells path name [] tree.no_nodes siblings = refl
unless_empty_cells path name [] (tree.branch x properties children others) siblings =
    flat_map-append cells_of (tree.preorder (path ++ name ∷ []) (tree.branch x properties children others)) (tree.preorder path siblings)
unless_empty_cells path name (p ∷ ps) children siblings =
    ap (λ cs. cells_of (record { path = path ++ name ∷ []; properties = p ∷ ps }) ++ cs) (flat_map-append cells_of (tree.preorder (path ++ name ∷ []) children) (tree.preorder path siblings))

pub mirrored_cells : (path : Path) (f : NamedForest NodeReference) → ((n : NamedPlaced NodeReference) → IsIn n (preorder path f) → HasLowOffsets n.content)
    → flat_map cells_of (tree.preorder path (mirror f)) ≡ flat_map inside_of (flat_map cells_of_node (preorder path f))
mirrored_cells path no_nodes low = refl
mirrored_cells path (branch name content children siblings) low =
    let at : Path = path ++ name ∷ [] in
    let here = node_cells (record { path = at; content = content }) (low (record { path = at; content = content }) (inl refl)) in
    let below = mirrored_cells at children (λ n i. low n (inr (in_left n (preorder at children) (preorder path siblings) i))) in
    let beside = mirrored_cells path siblings (λ n i. low n (inr (in_right n (preorder at children) (preorder path siblings) i))) in
    unless_empty_cells path name (local_properties content) (mirror children) (mirror siblings)
    ∙ (λ i. here i ++ (below i ++ beside i))
    ∙ sym (regroup (cells_of_node (record { path = at; content = content })) (preorder at children) (preorder path siblings))
  where
    regroup : (xs : List (Cell × NodeReference)) (a b : List (NamedPlaced NodeReference))
        → flat_map inside_of (xs ++ flat_map cells_of_node (a ++ b)) ≡ flat_map inside_of xs ++ (flat_map inside_of (flat_map cells_of_node a) ++ flat_map inside_of (flat_map cells_of_node b))
    regroup xs a b =
        flat_map-append inside_of xs (flat_map cells_of_node (a ++ b))
        ∙ ap (λ ys. flat_map inside_of xs ++ flat_map inside_of ys) (flat_map-append cells_of_node a b)
        ∙ ap (λ ys. flat_map inside_of xs ++ ys) (flat_map-append inside_of (flat_map cells_of_node a) (flat_map cells_of_node b))

-- ---- lengths

pub four_each : (rs : List (ℕ × NodeReference)) → length (flat_map inside_offset rs) % 4 ≡ 0
four_each [] = refl
four_each ((k, inside n) ∷ rs) =
    let l = length-append (cell k) (flat_map inside_offset rs) in
    let four : length (cell k) ≡ 4 = refl in
    let more = four_each rs in
    omega (arith, l, four, more)
four_each ((k, outside l) ∷ rs) = four_each rs
