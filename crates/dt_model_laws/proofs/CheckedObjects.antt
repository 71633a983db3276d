-- A tree that is an object of an overlay, by tests.
use Rattle.std.proofs.Common.{◌≡◌, ℕ, ◌%◌, Bool, true, false, ◌&&◌, List, [], ◌∷◌, length, map, Option, Some, None, is_some, refl, sym, ap, subst, ◌∙◌}
use Rattle.std.specs.Prelude.{codes, nat_eq, IsSome}
use Rattle.std.specs.List.{list_all, list_any}
use Rattle.std.specs.Option.{option_and_then}
use Rattle.std.specs.Str.{bytes_eq}
use Rattle.dt_model.specs.Names.{Name}
use Rattle.dt_model.specs.Path.{Path}
use Rattle.dt_model.specs.Lists.{IsIn}
use Rattle.dt_model.specs.Meaning.{Item}
use Rattle.dt_model.specs.Overlay.{object_number, OverlayReference, inside, outside, Fragment, Overlay}
use Rattle.dt_model.specs.Tree.{Property, Reading, Node, Placed, value_of, node_at, nodes_of, stands_in, value_in}
use Rattle.dt_model.specs.Object.{Cell, references_from, IsCellOf, properties_of, local_cells, fragment_names, Encodes}
use Rattle.dt_model.proofs.Tests.{and_left, and_right, all_at, any_from, bytes_eq_true}
use Rattle.dt_model.proofs.Cases.{some_there}
use Rattle.dt_model.proofs.Listed.{stands_listed, value_listed}
use Rattle.dt_model_laws.proofs.CheckedWords.{implies, has, has_in, in_same, are_distinct, distinct_by, number_same}
use Rattle.dt_model_laws.proofs.CheckedEvents.{property_of}
use Rattle.dt_model_laws.proofs.CheckedNumbers.{low_number, high_number, own_number}
use Rattle.dt_model_laws.proofs.CheckedInstances.{IsWithin, IsHeld, same_nodes, same_values, same_symbols}
use Rattle.dt_model_laws.proofs.CheckedReferences.{listed_references, references_pass, reference_passes}
use Rattle.dt_model_laws.proofs.CheckedOverlays.{of_overlay}
use Rattle.dt_model_laws.proofs.CheckedFixups.{cell_eq, same_cells, fixup_eq, same_fixups, Groups, fixups_of, fixup_properties, have_texts, has_fixups}

-- ---- cells of references

abbrev is_by : Name → OverlayReference → Bool
is_by l (inside p) = false
is_by l (outside m) = bytes_eq m l

abbrev is_inside : OverlayReference → Bool
is_inside (inside p) = true
is_inside (outside l) = false

by_is : (l : Name) (r : OverlayReference) → is_by l r ≡ true → r ≡ outside l
by_is l (inside p) h = cc
by_is l (outside m) h = ap outside (bytes_eq_true m l h)

inside_is : (r : OverlayReference) → is_inside r ≡ true → (p : Path) × (r ≡ inside p)
inside_is (inside p) h = (p, refl)
inside_is (outside l) h = cc

-- some reference of the cell's property stands at its offset and passes the test
abbrev has_cell : Overlay → (OverlayReference → Bool) → Cell → Bool
has_cell o test c = list_any (λ (x : ℕ × OverlayReference). nat_eq x.0 c.offset && test x.1) (listed_references (o.value c.path c.property))

value_there : (test : ℕ × OverlayReference → Bool) (v : Option (List (Item OverlayReference))) → list_any test (listed_references v) ≡ true
    → (items : List (Item OverlayReference)) × (v ≡ Some items) × (x : ℕ × OverlayReference) × IsIn x (references_from 0 items) × (test x ≡ true)
value_there test None h = cc
value_there test (Some items) h = let w = any_from test (references_from 0 items) h in (items, refl, w.0, w.1, w.2)

cell_there : (o : Overlay) (test : OverlayReference → Bool) (c : Cell) → has_cell o test c ≡ true → (r : OverlayReference) × (test r ≡ true) × IsCellOf o c r
cell_there o test c h =
    let w = value_there (λ (x : ℕ × OverlayReference). nat_eq x.0 c.offset && test x.1) (o.value c.path c.property) h in
    let x = w.2 in
    let offset = number_same x.0 c.offset (and_left (nat_eq x.0 c.offset) (test x.1) w.4) in
    (x.1, and_right (nat_eq x.0 c.offset) (test x.1) w.4, (w.0, w.1, in_same (c.offset, x.1) x (references_from 0 w.0) (λ i. (sym offset i, x.1)) w.3))

-- the reference's cell is among the fixups or the local cells
abbrev is_marked : List (Name × Cell) → List Cell → Path → Name → ℕ × OverlayReference → Bool
is_marked fixups locals p n (k, inside q) = has cell_eq locals (record { path = p; property = n; offset = k })
is_marked fixups locals p n (k, outside l) = has fixup_eq fixups (l, record { path = p; property = n; offset = k })

-- ---- the node `__local_fixups__`

abbrev is_whole : Reading → Path → Property → Bool
is_whole t p x = nat_eq (length x.value % 4) 0 && is_some (value_in t p x.name)

abbrev local_fits : Reading → Path → List Property → Bool
local_fits t [] ps = true
local_fits t (x ∷ p) ps = implies (bytes_eq x (codes "__local_fixups__")) (stands_in t p && list_all (is_whole t p) ps)

-- ---- the tests

abbrev is_used : List (Name × Cell) → Property → Bool
is_used fixups x = list_any (λ (f : Name × Cell). bytes_eq x.name f.0) fixups

pub record IsEncoded (qs : List Path) (ns : List Name) (t : Reading) (o : Overlay) (number : Path → ℕ) (groups : Groups) : Type 0 where
  pub held : IsHeld qs ns t (of_overlay o) number (object_number number)
  pub fragments : fragment_names t.children ≡ map (λ (f : Fragment). f.name) o.fragments
  pub fixups_text : properties_of (node_at t (codes "__fixups__" ∷ [])) ≡ fixup_properties groups
  pub fixups_named : have_texts groups ≡ true
  pub fixups_once : are_distinct fixup_eq (fixups_of groups) ≡ true
  pub fixups_outside : list_all (λ (f : Name × Cell). has_cell o (is_by f.0) f.1) (fixups_of groups) ≡ true
  pub fixups_used : list_all (is_used (fixups_of groups)) (properties_of (node_at t (codes "__fixups__" ∷ []))) ≡ true
  pub no_nodes_of_fixups : (x : Name) (p : Path) → stands_in t (codes "__fixups__" ∷ x ∷ p) ≡ false
  pub locals_once : are_distinct cell_eq (local_cells t) ≡ true
  pub locals_inside : list_all (has_cell o is_inside) (local_cells t) ≡ true
  pub locals_fit : list_all (λ (n : Placed). local_fits t n.path n.properties) (nodes_of t) ≡ true
  pub marked : references_pass qs ns o.value (is_marked (fixups_of groups) (local_cells t)) ≡ true

module _ (qs : List Path) (ns : List Name) (t : Reading) (o : Overlay) (number : Path → ℕ) (groups : Groups) (within : IsWithin qs ns (of_overlay o)) (h : IsEncoded qs ns t o number groups) where
  outside_there : (l : Name) (c : Cell) → IsIn (l, c) (fixups_of groups) → IsCellOf o c (outside l)
  outside_there l c i =
      let w = cell_there o (is_by l) c (all_at (λ (f : Name × Cell). has_cell o (is_by f.0) f.1) (fixups_of groups) (l, c) h.fixups_outside i) in
      subst (IsCellOf o c) (by_is l w.0 w.1) w.2

  inside_there : (c : Cell) → IsIn c (local_cells t) → (p : Path) × IsCellOf o c (inside p)
  inside_there c i =
      let w = cell_there o is_inside c (all_at (has_cell o is_inside) (local_cells t) c h.locals_inside i) in
      let p = inside_is w.0 w.1 in
      (p.0, subst (IsCellOf o c) p.1 w.2)

  mark : (c : Cell) (r : OverlayReference) → IsCellOf o c r → is_marked (fixups_of groups) (local_cells t) c.path c.property (c.offset, r) ≡ true
  mark c r k = reference_passes qs ns o.value within.values (is_marked (fixups_of groups) (local_cells t)) h.marked c.path c.property k.0 (c.offset, r) k.1 k.2

  fixup_there : (l : Name) (p : Path) (o : Option Node) → option_and_then (λ (n : Node). value_of n.properties l) o ≡ value_of (properties_of o) l
  fixup_there l p None = refl
  fixup_there l p (Some n) = refl

  used : (l : Name) → IsSome (value_in t (codes "__fixups__" ∷ []) l) → (c : Cell) × IsIn (l, c) (fixups_of groups)
  used l k =
      let v = some_there (value_in t (codes "__fixups__" ∷ []) l) k in
      let at = node_at t (codes "__fixups__" ∷ []) in
      let x = property_of (properties_of at) l v.0 (sym (fixup_there l [] at) ∙ v.1) in
      let f = any_from (λ (f : Name × Cell). bytes_eq x.0.name f.0) (fixups_of groups) (all_at (is_used (fixups_of groups)) (properties_of at) x.0 h.fixups_used x.1) in
      let same : l ≡ f.0.0 = x.2 ∙ bytes_eq_true x.0.name f.0.0 f.2 in
      (f.0.1, in_same (l, f.0.1) f.0 (fixups_of groups) (λ i. (same i, f.0.1)) f.1)

  fits_at : (p : Path) (n : Placed) → IsIn n (nodes_of t) → n.path ≡ codes "__local_fixups__" ∷ p → (stands_in t p && list_all (is_whole t p) n.properties) ≡ true
  fits_at p n i e = subst (λ q. local_fits t q n.properties ≡ true) e (all_at (λ (n : Placed). local_fits t n.path n.properties) (nodes_of t) n h.locals_fit i)

  local_value : (p : Path) (name : Name) (v : List ℕ) → value_in t (codes "__local_fixups__" ∷ p) name ≡ Some v → (x : Property) × (name ≡ x.name) × (x.value ≡ v) × (is_whole t p x ≡ true)
  local_value p name v k =
      let w = value_listed t (codes "__local_fixups__" ∷ p) name v k in
      let x = property_of w.0.properties name v w.3 in
      (x.0, x.2, x.3, all_at (is_whole t p) w.0.properties x.0 (and_right (stands_in t p) (list_all (is_whole t p) w.0.properties) (fits_at p w.0 w.1 w.2)) x.1)

  pub is_encoded : Encodes t o number
  is_encoded = record {
    low = low_number qs o.keyed number within.keyed h.held.numbers;
    high = high_number qs o.keyed number within.keyed h.held.numbers;
    own = own_number qs o.keyed number within.keyed h.held.numbers;
    nodes = same_nodes qs ns t (of_overlay o) number (object_number number) within h.held;
    values = same_values qs ns t (of_overlay o) number (object_number number) within h.held;
    fragments = h.fragments;
    symbols = same_symbols qs ns t (of_overlay o) number (object_number number) within h.held;
    fixups = fixups_of groups;
    fixups_listed = has_fixups t groups h.fixups_text h.fixups_named;
    fixups_once = distinct_by fixup_eq same_fixups (fixups_of groups) h.fixups_once;
    fixups_exact = λ l c. (outside_there l c, λ k. has_in fixup_eq same_fixups (fixups_of groups) (l, c) (mark c (outside l) k));
    fixups_used = used;
    no_nodes_of_fixups = h.no_nodes_of_fixups;
    locals_once = distinct_by cell_eq same_cells (local_cells t) h.locals_once;
    locals_exact = λ c. (inside_there c, λ k. has_in cell_eq same_cells (local_cells t) c (mark c (inside k.0) k.1));
    locals_words = λ p name v k.
        let x = local_value p name v k in
        ap (λ v. length v % 4) (sym x.2) ∙ number_same (length x.0.value % 4) 0 (and_left (nat_eq (length x.0.value % 4) 0) (is_some (value_in t p x.0.name)) x.3);
    locals_nodes = λ p k. let w = stands_listed t (codes "__local_fixups__" ∷ p) k in and_left (stands_in t p) (list_all (is_whole t p) w.0.properties) (fits_at p w.0 w.1 w.2);
    locals_values = λ p name k.
        let v = some_there (value_in t (codes "__local_fixups__" ∷ p) name) k in
        let x = local_value p name v.0 v.1 in
        ap (λ n. is_some (value_in t p n)) x.1 ∙ and_right (nat_eq (length x.0.value % 4) 0) (is_some (value_in t p x.0.name)) x.3;
  }
