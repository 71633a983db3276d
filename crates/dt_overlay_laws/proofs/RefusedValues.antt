-- What the properties of a node hold, and the cells that an object's bookkeeping nodes list.
use Rattle.std.proofs.Common.{◌≡◌, ◌≢◌, ℕ, List, [], ◌∷◌, map, codes, refl, sym, ap, subst, inl, inr, Option, Some, None}
use Rattle.std.specs.Prelude.{option_and_then}
use Rattle.dt_model.specs.Names.{Name}
use Rattle.dt_model.specs.Path.{Path}
use Rattle.dt_model.specs.Lists.{IsIn}
use Rattle.dt_model.specs.Object.{Cell, AreCellTexts, AreFixups, properties_of, words_of, cells_of, nodes_from, local_cells}
use Rattle.dt_model.specs.Tree.{Property, Reading, Node, value_of, sibling, node_below, root_of, node_at, value_in}
use Rattle.dt_model.specs.Valid.{AreDistinct, IsValid}
use Rattle.dt_model.proofs.Tests.{bytes_eq_refl, bytes_eq_other, each_in, in_left, in_right, in_append, in_map, in_map_from}
use Rattle.dt_model.proofs.Distinct.{in_flat}
use Rattle.dt_model.proofs.Listed.{found_listed}
use Rattle.dt_model_laws.proofs.KeptNames.{good_below}
use Rattle.dt_model_laws.proofs.GoodResult.{good_root}

-- ---- properties

abbrev pub property_names : List Property → List Name
property_names ps = map (λ (p : Property). p.name) ps

-- a property's value is found by its name
listed_has : (ps : List Property) (x : Property) → AreDistinct (property_names ps) → IsIn x ps → value_of ps x.name ≡ Some x.value
listed_has [] x d i = absurd i
listed_has (p ∷ ps) x d (inl same) = rw same (rw (bytes_eq_refl p.name) refl)
listed_has (p ∷ ps) x d (inr i) =
    rw (bytes_eq_other x.name p.name (each_in (λ y. y ≢ p.name) (property_names ps) x.name d.0 (in_map (λ (p : Property). p.name) ps x i))) (listed_has ps x d.1 i)

-- no two properties of a node have one name
pub names_differ : (t : Reading) (p : Path) → IsValid t → AreDistinct (property_names (properties_of (node_at t p)))
names_differ t p valid = step (node_at t p) refl
  where
    step : (y : Option Node) → node_at t p ≡ y → AreDistinct (property_names (properties_of y))
    step None e = tt
    step (Some n) e = (good_below p (root_of t) n (good_root t valid) e).properties.distinct

-- a node has the values of its properties
pub property_value : (t : Reading) (p : Path) (x : Property) → IsValid t → IsIn x (properties_of (node_at t p)) → value_in t p x.name ≡ Some x.value
property_value t p x valid i = step (node_at t p) (names_differ t p valid) i
  where
    step : (y : Option Node) → AreDistinct (property_names (properties_of y)) → IsIn x (properties_of y) → option_and_then (λ (c : Node). value_of c.properties x.name) y ≡ Some x.value
    step None d i = absurd i
    step (Some n) d i = listed_has n.properties x d i

-- ---- the cells that `__fixups__` lists

-- the property's value is the texts of these of the cells, and no others wait for its name
abbrev pub HasTexts : List (Name × Cell) → Property → Type 0
HasTexts fixups x =
    (cells : List Cell) × AreCellTexts x.value cells × ((c : Cell) → IsIn c cells → IsIn (x.name, c) fixups) × ((c : Cell) → IsIn (x.name, c) fixups → IsIn c cells)

-- cells wait for names of properties
fixup_named : (ps : List Property) (fixups : List (Name × Cell)) (l : Name) (c : Cell) → AreFixups ps fixups → IsIn (l, c) fixups → IsIn l (property_names ps)
fixup_named [] fixups l c h i = subst (IsIn (l, c)) h i
fixup_named (p ∷ ps) fixups l c h i =
    elim (in_append (l, c) (map (λ c. (p.name, c)) h.0) h.1 (subst (IsIn (l, c)) h.2 i)) [
      | inl k ↦ let w = in_map_from (λ c. (p.name, c)) h.0 (l, c) k in inl (ap (λ z. z.0) w.2)
      | inr k ↦ inr (fixup_named ps h.1 l c h.4 k)
    ]

pub fixup_texts : (ps : List Property) (fixups : List (Name × Cell)) (x : Property) → AreDistinct (property_names ps) → AreFixups ps fixups → IsIn x ps → HasTexts fixups x
fixup_texts [] fixups x d h i = absurd i
fixup_texts (p ∷ ps) fixups x d h (inl same) = subst (HasTexts fixups) (sym same) (h.0, h.3, there, back)
  where
    there : (c : Cell) → IsIn c h.0 → IsIn (p.name, c) fixups
    there c j = subst (IsIn (p.name, c)) (sym h.2) (in_left (p.name, c) (map (λ c. (p.name, c)) h.0) h.1 (in_map (λ c. (p.name, c)) h.0 c j))

    back : (c : Cell) → IsIn (p.name, c) fixups → IsIn c h.0
    back c j = elim (in_append (p.name, c) (map (λ c. (p.name, c)) h.0) h.1 (subst (IsIn (p.name, c)) h.2 j)) [
      | inl k ↦ let w = in_map_from (λ c. (p.name, c)) h.0 (p.name, c) k in subst (λ z. IsIn z h.0) (sym (ap (λ z. z.1) w.2)) w.1
      | inr k ↦ absurd (each_in (λ y. y ≢ p.name) (property_names ps) p.name d.0 (fixup_named ps h.1 p.name c h.4 k) refl)
    ]
fixup_texts (p ∷ ps) fixups x d h (inr i) = step (fixup_texts ps h.1 x d.1 h.4 i)
  where
    other : x.name ≢ p.name
    other = each_in (λ y. y ≢ p.name) (property_names ps) x.name d.0 (in_map (λ (p : Property). p.name) ps x i)

    step : HasTexts h.1 x → HasTexts fixups x
    step w = (w.0, w.1, there, back)
      where
        there : (c : Cell) → IsIn c w.0 → IsIn (x.name, c) fixups
        there c j = subst (IsIn (x.name, c)) (sym h.2) (in_right (x.name, c) (map (λ c. (p.name, c)) h.0) h.1 (w.2 c j))

        back : (c : Cell) → IsIn (x.name, c) fixups → IsIn c w.0
        back c j = elim (in_append (x.name, c) (map (λ c. (p.name, c)) h.0) h.1 (subst (IsIn (x.name, c)) h.2 j)) [
          | inl k ↦ let u = in_map_from (λ c. (p.name, c)) h.0 (x.name, c) k in absurd (other (ap (λ z. z.0) u.2))
          | inr k ↦ w.3 c k
        ]

-- ---- the cells that `__local_fixups__` lists

-- a node below one is among those that are listed from there
node_listed : (y : Option Node) (p : Path) (n : Node) → option_and_then (λ c. node_below c p) y ≡ Some n → IsIn (record { path = p; properties = n.properties }) (nodes_from (option_and_then (λ c. Some c) y))
node_listed None p n e = absurd (let z : None ≡ Some n = e in cc)
node_listed (Some c) [] n e = let is : c ≡ n = cc in inl (ap (λ (z : Node). record { path = []; properties = z.properties }) (sym is))
node_listed (Some c) (x ∷ p) n e = inr (found_listed [] c.children x p n e)

abbrev pub cell_of : Path → Name → ℕ → Cell
cell_of path name offset = record { path = path; property = name; offset = offset }

-- an offset in a property of the mirror is a listed cell's
pub listed_cell : (t : Reading) (p : Path) (x : Property) (offset : ℕ) → IsIn x (properties_of (node_at t (codes "__local_fixups__" ∷ p))) → IsIn offset (words_of x.value)
    → IsIn (cell_of p x.name offset) (local_cells t)
listed_cell t p x offset i j = step (node_at t (codes "__local_fixups__" ∷ p)) refl i
  where
    step : (y : Option Node) → node_at t (codes "__local_fixups__" ∷ p) ≡ y → IsIn x (properties_of y) → IsIn (cell_of p x.name offset) (local_cells t)
    step None e i = absurd i
    step (Some n) e i =
        in_flat cells_of (nodes_from (node_at t (codes "__local_fixups__" ∷ []))) (record { path = p; properties = n.properties }) (cell_of p x.name offset) (node_listed (sibling t.children (codes "__local_fixups__")) p n e)
        (in_flat (λ (q : Property). map (cell_of p q.name) (words_of q.value)) n.properties x (cell_of p x.name offset) i (in_map (cell_of p x.name) (words_of x.value) offset j))
