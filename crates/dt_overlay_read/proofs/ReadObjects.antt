-- What was listed of an object is all that is known of it when it is read.
use Rattle.std.proofs.Common.{ℕ, refl, List, [], ◌∷◌, map, sym, subst}
use Rattle.std.specs.List.{AllByRecursion, flat_map}
use Rattle.dt_model.specs.Names.{Name}
use Rattle.dt_model.specs.Path.{Path}
use Rattle.dt_model.specs.Tree.{Reading}
use Rattle.dt_model.specs.Valid.{IsValid, IsWithinLimits}
use Rattle.dt_model.specs.Object.{Cell, fragment_names, local_cells, HasCell}
use Rattle.dt_model.specs.Applied.{Write, label_write, local_write}
use Rattle.dt_trees.specs.Placed.{PlacedTree, reading_of}
use Rattle.dt_overlay_laws.specs.Objects.{symbols_in}
use Rattle.dt_overlay_object.specs.Stages.{IsReadFor}
use Rattle.dt_overlay_object.specs.declared.object.Object.{Object}
use Rattle.dt_overlay_read.proofs.Told.{all_held}
use Rattle.dt_overlay_object.specs.declared.kept.Symbol.{Symbol}
use Rattle.dt_overlay_object.specs.declared.kept.Write.{Write as KeptWrite}
use Rattle.dt_overlay_object.specs.Plans.{AreFragmentsOf, AreWritesOf, AreBroughtBy, AreSymbolsOf, ListsFixups, ListsLocalFixups, ListsSymbols, symbol_brought}

-- ---- cells

label_cells : (base object : Reading) (fixups : List (Name × Cell)) → AllByRecursion (λ (x : Name × Cell). HasCell object x.1) fixups
    → AllByRecursion (λ (w : Write). HasCell object w.cell) (map (label_write base) fixups)
label_cells base object [] h = tt
label_cells base object ((l, c) ∷ fixups) h = (h.0, label_cells base object fixups h.1)

own_cells : (object : Reading) (numbers : List (Path × ℕ)) (cells : List Cell) → AllByRecursion (HasCell object) cells
    → AllByRecursion (λ (w : Write). HasCell object w.cell) (map (local_write object numbers) cells)
own_cells object numbers [] h = tt
own_cells object numbers (c ∷ cells) h = (h.0, own_cells object numbers cells h.1)

-- ---- what is read

pub read_for : {V : Type 0} (tree : V → PlacedTree) (base : Reading) (o : Object V) → IsValid (reading_of (tree o.tree.now)) → IsWithinLimits (reading_of (tree o.tree.now))
    → AreFragmentsOf (tree o.tree.now) o.fragments.items (fragment_names (reading_of (tree o.tree.now)).children)
    → ListsFixups base (tree o.tree.now) [] o.label_writes.items
    → AreBroughtBy (tree o.tree.now) [] o.brought
    → ListsLocalFixups (tree o.tree.now) [] [] o.own_writes.items
    → ListsSymbols (tree o.tree.now) [] o.symbols.items
    → IsReadFor tree base (reading_of (tree o.tree.now)) o
read_for tree base o valid few fragments labels brought locals symbols =
    let t = tree o.tree.now in
    record {
      valid = valid;
      few = few;
      fixups = labels.fixups;
      listed = labels.listed;
      well = record {
        targets = all_held t o.fragments.items (fragment_names (reading_of t).children) fragments;
        fixups = labels.well;
        mirror = locals.well;
        symbols = symbols.well;
      };
      seen = record {
        reads = refl;
        fragments = fragments;
        own = subst (λ (xs : List KeptWrite). AreWritesOf t xs (map (local_write (reading_of t) []) (local_cells (reading_of t)))) (sym locals.appended) locals.writes;
        labels = subst (λ (xs : List KeptWrite). AreWritesOf t xs (map (label_write base) labels.fixups)) (sym labels.appended) labels.writes;
        own_there = own_cells (reading_of t) [] (local_cells (reading_of t)) locals.cells;
        labels_there = label_cells base (reading_of t) labels.fixups labels.cells;
        symbols = subst (λ (xs : List Symbol). AreSymbolsOf t xs (flat_map (symbol_brought (reading_of t)) (symbols_in (reading_of t)))) (sym symbols.appended) symbols.symbols;
        brought = brought;
      };
    }
