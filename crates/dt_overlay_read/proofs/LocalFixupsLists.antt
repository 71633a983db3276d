-- Writes that are listed one after the other.
use Rattle.std.proofs.Common.{◌≡◌, ℕ, ◌%◌, List, [], ◌∷◌, ◌++◌, length, map, Some, None, sym, ap, subst, ◌∙◌, inl, inr, append_assoc}
use Rattle.std.specs.Prelude.{unwrap_or, option_and_then}
use Rattle.std.specs.List.{AllByRecursion, flat_map}
use Rattle.std.proofs.lemmas.List.{append-nil, map-append}
use Rattle.dt_model.specs.Names.{Name}
use Rattle.dt_model.specs.Path.{Path}
use Rattle.dt_model.specs.Tree.{Property, Reading, value_in, nodes_of}
use Rattle.dt_model.specs.Object.{Cell, words_of, HasCell}
use Rattle.dt_model.specs.Numbers.{number_in}
use Rattle.dt_model.specs.Applied.{Write, local_write, node_numbered, number_at}
use Rattle.dt_model.proofs.Tests.{each_append}
use Rattle.dt_trees.specs.Placed.{PlacedTree, reading_of, IsAt}
use Rattle.dt_names.specs.declared.fault.Fault.{Fault}
use Rattle.dt_overlay_laws.specs.Objects.{IsLocalCell, IsLocalFixup}
use Rattle.dt_overlay_object.specs.declared.kept.Write.{Write as KeptWrite}
use Rattle.dt_overlay_object.specs.Plans.{AreWritesOf, IsLocalNumber}
use Rattle.dt_overlay_read.specs.LocalFixups.{IsLocalFault, ListsCells, ListsOffsets, ListsProperties, Left, offset_cell, property_cells}

-- a fault is handed on, which has a further reason
pub fault_for : (A B : Type 0) (fault : Fault) → (A → B) → IsLocalFault A fault → IsLocalFault B fault
fault_for A B fault further (at, inl memory) = (at, inl memory)
fault_for A B fault further (at, inr (bad, why)) = (at, inr (bad, further why))

-- ---- any cells

-- kept writes that stand for some, and others behind them
writes-append : (t : PlacedTree) (xs ys : List KeptWrite) (us vs : List Write) → AreWritesOf t xs us → AreWritesOf t ys vs → AreWritesOf t (xs ++ ys) (us ++ vs)
writes-append t [] ys [] vs f g = g
writes-append t [] ys (u ∷ us) vs f g = absurd f
writes-append t (x ∷ xs) ys [] vs f g = absurd f
writes-append t (x ∷ xs) ys (u ∷ us) vs f g = (f.0, writes-append t xs ys us vs f.1 g)

-- nothing is listed for no cells
pub cells-none : (t : PlacedTree) (numbers : List (Path × ℕ)) (out : List KeptWrite) → ListsCells t numbers [] out out
cells-none t numbers out = record { more = []; appended = sym (append-nil out); writes = tt; there = tt }

-- some cells, and others behind them
pub cells-append : (t : PlacedTree) (numbers : List (Path × ℕ)) (xs ys : List Cell) (a b c : List KeptWrite) → ListsCells t numbers xs a b → ListsCells t numbers ys b c → ListsCells t numbers (xs ++ ys) a c
cells-append t numbers xs ys a b c f g = record {
  more = f.more ++ g.more;
  appended = g.appended ∙ ap (λ (ws : List KeptWrite). ws ++ g.more) f.appended ∙ append_assoc a f.more g.more;
  writes = subst (AreWritesOf t (f.more ++ g.more)) (sym (map-append (local_write (reading_of t) numbers) xs ys))
      (writes-append t f.more g.more (map (local_write (reading_of t) numbers) xs) (map (local_write (reading_of t) numbers) ys) f.writes g.writes);
  there = each_append (HasCell (reading_of t)) xs ys f.there g.there;
}

-- what lists those that are left lists all, where those behind some of them do
pub left-step : {X : Type 0} (lists : X → List KeptWrite → List KeptWrite → Type 0) (all left rest : X) (old now next : List KeptWrite)
    → ((new : List KeptWrite) → lists rest next new → lists left now new) → Left lists all left old now → Left lists all rest old next
left-step lists all left rest old now next more so_far = λ new others. so_far new (more new others)

-- ---- offsets

module _ (t : PlacedTree) (numbers : List (Path × ℕ)) (p : Path) (name : Name) (value : List ℕ) where
  -- nothing is listed for no offsets
  pub offsets-none : (out : List KeptWrite) → ListsOffsets t numbers p name value [] out out
  offsets-none out = record { listed = cells-none t numbers out; well = tt }

  -- an offset, and others behind it
  pub offsets-more : (offset : ℕ) (offsets : List ℕ) (a b c : List KeptWrite) → ListsOffsets t numbers p name value (offset ∷ []) a b → ListsOffsets t numbers p name value offsets b c
      → ListsOffsets t numbers p name value (offset ∷ offsets) a c
  offsets-more offset offsets a b c f g = record {
    listed = cells-append t numbers (offset_cell p name offset ∷ []) (map (offset_cell p name) offsets) a b c f.listed g.listed;
    well = (f.well.0, g.well);
  }

  -- a cell gets its number
  pub offset_listed : (offset number : ℕ) (w : KeptWrite) (old new : List KeptWrite) → IsAt t p w.node → value_in (reading_of t) p name ≡ Some value
      → IsLocalNumber (reading_of t) numbers p value offset number → w.property.now ≡ name → w.offset ≡ offset → w.number ≡ number → new ≡ old ++ w ∷ []
      → ListsOffsets t numbers p name value (offset ∷ []) old new
  offset_listed offset number w old new at led local same_name same_offset same_number e = record {
    listed = record {
      more = w ∷ [];
      appended = e;
      writes = (
        record {
          node = at;
          property = same_name;
          offset = same_offset;
          number = same_number ∙ local.is ∙ ap (λ (v : List ℕ). given (number_at v offset)) (ap (λ o. unwrap_or o []) (sym led));
        },
        tt,
      );
      there = ((value, led, local.cell.there), tt);
    };
    well = (local.cell, tt);
  }
    where
      given : ℕ → ℕ
      given n = unwrap_or (option_and_then (number_in numbers) (node_numbered (nodes_of (reading_of t)) n)) n

-- ---- properties

module _ (t : PlacedTree) (numbers : List (Path × ℕ)) (p : Path) where
  -- nothing is listed for no properties
  pub properties-none : (out : List KeptWrite) → ListsProperties t numbers p [] out out
  properties-none out = record { listed = cells-none t numbers out; well = tt }

  -- a property, and others behind it
  pub properties-more : (x : Property) (xs : List Property) (a b c : List KeptWrite) → ListsProperties t numbers p (x ∷ []) a b → ListsProperties t numbers p xs b c → ListsProperties t numbers p (x ∷ xs) a c
  properties-more x xs a b c f g = record {
    listed = cells-append t numbers (property_cells p x) (flat_map (property_cells p) xs) a b c
        (subst (λ (cells : List Cell). ListsCells t numbers cells a b) (append-nil (property_cells p x)) f.listed) g.listed;
    well = (f.well.0, g.well);
  }

  -- the offsets that a property lists
  pub property_listed : (x : Property) (value : List ℕ) (a b : List KeptWrite) → value_in (reading_of t) p x.name ≡ Some value → length x.value % 4 ≡ 0
      → ListsOffsets t numbers p x.name value (words_of x.value) a b → ListsProperties t numbers p (x ∷ []) a b
  property_listed x value a b led words f = record {
    listed = subst (λ (cells : List Cell). ListsCells t numbers cells a b) (sym (append-nil (property_cells p x))) f.listed;
    well = (record { value = value; there = led; words = words; cells = f.well }, tt);
  }

-- ---- what isn't as it has to be

module _ (object : Reading) (p : Path) (x : Property) where
  -- the node has no such property
  pub no_value : value_in object p x.name ≡ None → ¬ IsLocalFixup object p x
  no_value none = λ well. let both : None ≡ Some well.value = sym none ∙ well.there in cc

  -- one of the cells isn't as it has to be
  pub no_cells : (value : List ℕ) → value_in object p x.name ≡ Some value → ¬ AllByRecursion (IsLocalCell object p value) (words_of x.value) → ¬ IsLocalFixup object p x
  no_cells value led bad = λ well.
      let same : well.value ≡ value = (let both : Some well.value ≡ Some value = sym well.there ∙ led in cc) in
      bad (subst (λ (v : List ℕ). AllByRecursion (IsLocalCell object p v) (words_of x.value)) same well.cells)
