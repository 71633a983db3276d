-- The references of a named tree's values, each with its cell: every one once, and none else.
use Rattle.std.proofs.Common.{◌≡◌, ◌≢◌, ℕ, ◌+◌, ◌≤◌, List, [], ◌∷◌, ◌++◌, map, length, refl, sym, ap, subst, ◌∙◌, inl, inr, Option, Some, None, arith}
use Rattle.std.specs.List.{flat_map}
use Rattle.std.specs.Option.{option_map_or}
use Rattle.std.proofs.lemmas.List.{length-append}
use Rattle.std.proofs.lemmas.Grind.{flat_map-append}
use Rattle.dt_model.specs.Names.{Name}
use Rattle.dt_model.specs.Path.{Path}
use Rattle.dt_model.specs.Lists.{IsIn}
use Rattle.dt_model.specs.Meaning.{Item, byte, reference, item_renamed, cell, value_bytes}
use Rattle.dt_model.specs.Object.{Cell, references_from}
use Rattle.dt_model.specs.Valid.{AreDistinct}
use Rattle.dt_model.specs.Named.{NamedProperty, Content, Named, NamedNode, NamedPlaced, value_of, node_at, content_in, nodes_of}
use Rattle.dt_model.proofs.Tests.{each_from, in_map, in_map_from}
use Rattle.dt_model.proofs.Distinct.{in_flat, not_twice}
use Rattle.dt_model.proofs.Flat.{map_flat, from_flat, distinct_flat}
use Rattle.dt_model_laws.proofs.Cells.{offset_from}
use Rattle.dt_model_laws.proofs.NamedListed.{IsApart, listed_at, at_listed}
use Rattle.dt_model_laws.proofs.NamedPaths.{paths_distinct}
use Rattle.dt_model_laws.proofs.NamedValues.{property_names, value_listed, listed_value}

-- ---- lists

pub flat_of_flat : {X Y Z : Type 0} (f : Y → List Z) (g : X → List Y) (xs : List X) → flat_map f (flat_map g xs) ≡ flat_map (λ x. flat_map f (g x)) xs
flat_of_flat f g [] = refl
flat_of_flat f g (x ∷ xs) = flat_map-append f (g x) (flat_map g xs) ∙ ap (λ zs. flat_map f (g x) ++ zs) (flat_of_flat f g xs)

pub flat_same : {X Y : Type 0} (f g : X → List Y) (xs : List X) → ((x : X) → IsIn x xs → f x ≡ g x) → flat_map f xs ≡ flat_map g xs
flat_same f g [] same = refl
flat_same f g (x ∷ xs) same = ap (λ ys. ys ++ flat_map f xs) (same x (inl refl)) ∙ ap (λ ys. g x ++ ys) (flat_same f g xs (λ y i. same y (inr i)))

-- elements whose images differ differ
distinct_of_images : {X Y : Type 0} (f : X → Y) (xs : List X) → AreDistinct (map f xs) → AreDistinct xs
distinct_of_images f [] d = tt
distinct_of_images f (x ∷ xs) d = (each_from (λ y. y ≢ x) xs (λ y i e. not_twice (f x) (map f xs) d (subst (λ z. IsIn z (map f xs)) (ap f e) (in_map f xs y i))), distinct_of_images f xs d.1)

-- ---- of a value

-- references that are told in another way keep their offsets
pub renamed_references : {R S : Type 0} (f : R → S) (k : ℕ) (items : List (Item R)) → references_from k (map (item_renamed f) items) ≡ map (λ r. (r.0, f r.1)) (references_from k items)
renamed_references f k [] = refl
renamed_references f k (byte b ∷ items) = renamed_references f (k + 1) items
renamed_references f k (reference r ∷ items) = ap (λ rs. (k, f r) ∷ rs) (renamed_references f (k + 4) items)

module _ {R : Type 0} where
  -- a reference's cell lies within the value
  pub offset_within : (number : R → ℕ) (k : ℕ) (items : List (Item R)) (r : ℕ × R) → IsIn r (references_from k items) → r.0 + 4 ≤ k + length (value_bytes number items)
  offset_within number k [] r i = absurd i
  offset_within number k (byte b ∷ items) r i = let l = offset_within number (k + 1) items r i in omega (arith, l)
  offset_within number k (reference s ∷ items) r (inl e) =
      let same : r.0 ≡ k = ap (λ x. x.0) e in
      let l = length-append (cell (number s)) (value_bytes number items) in
      let four : length (cell (number s)) ≡ 4 = refl in
      omega (arith, same, l, four)
  offset_within number k (reference s ∷ items) r (inr i) =
      let w = offset_within number (k + 4) items r i in
      let l = length-append (cell (number s)) (value_bytes number items) in
      let four : length (cell (number s)) ≡ 4 = refl in
      omega (arith, w, l, four)

  -- no two cells of a value have one offset
  offsets_distinct : (k : ℕ) (items : List (Item R)) → AreDistinct (map (λ (r : ℕ × R). r.0) (references_from k items))
  offsets_distinct k [] = tt
  offsets_distinct k (byte b ∷ items) = offsets_distinct (k + 1) items
  offsets_distinct k (reference s ∷ items) = (
    each_from (λ y. y ≢ k) (map (λ (r : ℕ × R). r.0) (references_from (k + 4) items))
        (λ y i e.
        let w = in_map_from (λ (r : ℕ × R). r.0) (references_from (k + 4) items) y i in
        let r = w.0 in
        let same : y ≡ r.0 = w.2 in
        let l : k + 4 ≤ r.0 = offset_from (k + 4) items r.0 r.1 w.1 in
        absurd (omega (arith, l, same, e))),
    offsets_distinct (k + 4) items,
  )

-- ---- of a tree

module _ {R : Type 0} where
  abbrev pub cell_at : Path → Name → ℕ × R → Cell × R
  cell_at path property r = (record { path = path; property = property; offset = r.0 }, r.1)

  abbrev pub cells_of_property : Path → NamedProperty R → List (Cell × R)
  cells_of_property path p = map (cell_at path p.name) (references_from 0 p.value)

  abbrev pub cells_of_node : NamedPlaced R → List (Cell × R)
  cells_of_node n = flat_map (cells_of_property n.path) n.content.properties

  -- nodes in preorder, and in the order of properties and offsets
  abbrev pub cells_in : Named R → List (Cell × R)
  cells_in t = flat_map cells_of_node (nodes_of t)

  abbrev pub only_cell : Cell × R → Cell
  only_cell x = x.0

  -- the reference is at the cell
  abbrev HasCell : Named R → Cell → R → Type 0
  HasCell t c r = (items : List (Item R)) × (value_of (content_in t c.path).properties c.property ≡ Some items) × IsIn (c.offset, r) (references_from 0 items)

  -- no two properties of a node have one name
  abbrev pub HaveOneEach : Named R → Type 0
  HaveOneEach t = (n : NamedPlaced R) → IsIn n (nodes_of t) → AreDistinct (property_names n.content.properties)

  content_of : Option (NamedNode R) → Content R
  content_of o = option_map_or (λ n. n.content) o (record { labels = []; properties = [] })

  pub cell_from : (t : Named R) → IsApart t → HaveOneEach t → (x : Cell × R) → IsIn x (cells_in t) → HasCell t x.0 x.1
  unfolding content_of
  cell_from t apart one x i =
      let n = from_flat cells_of_node (nodes_of t) x i in
      let p = from_flat (cells_of_property n.0.path) n.0.content.properties x n.2 in
      let r = in_map_from (cell_at n.0.path p.0.name) (references_from 0 p.0.value) x p.2 in
      let a = listed_at t n.0 apart n.1 in
      let content : content_in t n.0.path ≡ n.0.content = ap content_of a.is ∙ a.same in
      subst (λ (y : Cell × R). HasCell t y.0 y.1) (sym r.2)
      (p.0.value, ap (λ (c : Content R). value_of c.properties p.0.name) content ∙ listed_value n.0.content.properties p.0 (one n.0 n.1) p.1, r.1)

  pub cell_in : (t : Named R) (c : Cell) (r : R) → HasCell t c r → IsIn (c, r) (cells_in t)
  unfolding content_of
  cell_in t c r h = step (node_at t c.path) refl
    where
      step : (o : Option (NamedNode R)) → node_at t c.path ≡ o → IsIn (c, r) (cells_in t)
      step None e = absurd (let z : None ≡ Some h.0 = sym (ap (λ o. value_of (content_of o).properties c.property) e) ∙ h.1 in cc)
      step (Some n) e =
          let v : value_of n.content.properties c.property ≡ Some h.0 = sym (ap (λ o. value_of (content_of o).properties c.property) e) ∙ h.1 in
          let p : NamedProperty R = record { name = c.property; value = h.0 } in
          let x : NamedPlaced R = record { path = c.path; content = n.content } in
          in_flat cells_of_node (nodes_of t) x (c, r) (at_listed t c.path n e)
          (in_flat (cells_of_property c.path) n.content.properties p (c, r) (value_listed n.content.properties c.property h.0 v)
          (in_map (cell_at c.path c.property) (references_from 0 h.0) (c.offset, r) h.2))

  -- ---- each once

  offsets_back : (path : Path) (name : Name) (rs : List (ℕ × R)) → map (λ (c : Cell). c.offset) (map only_cell (map (cell_at path name) rs)) ≡ map (λ (r : ℕ × R). r.0) rs
  offsets_back path name [] = refl
  offsets_back path name (r ∷ rs) = ap (λ ks. r.0 ∷ ks) (offsets_back path name rs)

  of_property : (path : Path) (p : NamedProperty R) (c : Cell) → IsIn c (map only_cell (cells_of_property path p)) → (c.path ≡ path) × (c.property ≡ p.name)
  of_property path p c i =
      let x = in_map_from only_cell (cells_of_property path p) c i in
      let r = in_map_from (cell_at path p.name) (references_from 0 p.value) x.0 x.1 in
      let same : c ≡ (cell_at path p.name r.0).0 = x.2 ∙ ap only_cell r.2 in
      (ap (λ (c : Cell). c.path) same, ap (λ (c : Cell). c.property) same)

  once_in_property : (path : Path) (p : NamedProperty R) → AreDistinct (map only_cell (cells_of_property path p))
  once_in_property path p =
      distinct_of_images (λ (c : Cell). c.offset) (map only_cell (cells_of_property path p))
      (subst AreDistinct (sym (offsets_back path p.name (references_from 0 p.value))) (offsets_distinct 0 p.value))

  of_node : (n : NamedPlaced R) (c : Cell) → IsIn c (map only_cell (cells_of_node n)) → c.path ≡ n.path
  of_node n c i =
      let p = from_flat (λ (p : NamedProperty R). map only_cell (cells_of_property n.path p)) n.content.properties c (subst (IsIn c) (map_flat only_cell (cells_of_property n.path) n.content.properties) i) in
      (of_property n.path p.0 c p.2).0

  once_in_node : (n : NamedPlaced R) → AreDistinct (property_names n.content.properties) → AreDistinct (map only_cell (cells_of_node n))
  once_in_node n d =
      subst AreDistinct (sym (map_flat only_cell (cells_of_property n.path) n.content.properties))
      (distinct_flat (λ (p : NamedProperty R). p.name) (λ (p : NamedProperty R). map only_cell (cells_of_property n.path p)) n.content.properties d
      (λ p i. once_in_property n.path p)
      (λ p q c i j here there. sym (of_property n.path p c here).1 ∙ (of_property n.path q c there).1))

  pub cells_once : (t : Named R) → IsApart t → HaveOneEach t → AreDistinct (map only_cell (cells_in t))
  cells_once t apart one =
      subst AreDistinct (sym (map_flat only_cell cells_of_node (nodes_of t)))
      (distinct_flat (λ (n : NamedPlaced R). n.path) (λ (n : NamedPlaced R). map only_cell (cells_of_node n)) (nodes_of t) (paths_distinct t apart)
      (λ n i. once_in_node n (one n i))
      (λ n m c i j here there. sym (of_node n c here) ∙ of_node m c there))
