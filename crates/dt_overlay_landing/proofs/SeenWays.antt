-- What becomes of an object that was read: its nodes and its cells get numbers.
use Rattle.std.proofs.Common.{◌≡◌, ℕ, List, [], ◌∷◌, map, sym, ap, subst, ◌∙◌, Option, Some, None, refl}
use Rattle.std.specs.Prelude.{option_and_then, unwrap_or}
use Rattle.std.specs.Global.{Vec}
use Rattle.std.specs.List.{AllByRecursion}
use Rattle.dt_model.specs.Path.{Path}
use Rattle.dt_model.specs.Tree.{Reading, nodes_of, value_in}
use Rattle.dt_model.specs.Object.{Cell, local_cells, HasCell}
use Rattle.dt_model.specs.Numbers.{number_in}
use Rattle.dt_model.specs.Applied.{Write, local_write, node_numbered, number_at}
use Rattle.dt_overlay_object.specs.Objects.{Seen, IsSeenIn}
use Rattle.dt_overlay_object.specs.declared.object.Object.{Object}
use Rattle.dt_overlay_object.specs.declared.brought.Brought.{Brought}
use Rattle.dt_overlay_object.specs.declared.kept.Write.{Write as KeptWrite}
use Rattle.dt_overlay_object.specs.Plans.{IsWriteOf, AreWritesOf, AreBroughtBy, own_number, renumbered}
use Rattle.dt_trees.specs.Placed.{PlacedTree}

-- its nodes get these numbers
pub seen_numbered : {V : Type 0} (t : PlacedTree) (o : Object V) (s : Seen) (b : Brought) (numbers : List (Path × ℕ)) → IsSeenIn t o s → AreBroughtBy t numbers b
    → IsSeenIn t (record o { brought = b }) (record s { numbers = numbers })
seen_numbered t o s b numbers is brought = record {
  reads = is.reads;
  fragments = is.fragments;
  own = is.own;
  labels = is.labels;
  own_there = is.own_there;
  labels_there = is.labels_there;
  symbols = is.symbols;
  brought = brought;
}

-- the cells get the numbers of their nodes
renumbered_writes : (t : PlacedTree) (object : Reading) (numbers : List (Path × ℕ)) (xs : List KeptWrite) (cells : List Cell) → AreWritesOf t xs (map (local_write object []) cells)
    → AreWritesOf t (map (renumbered object numbers) xs) (map (local_write object numbers) cells)
renumbered_writes t object numbers [] [] h = tt
renumbered_writes t object numbers [] (c ∷ cells) h = absurd h
renumbered_writes t object numbers (x ∷ xs) [] h = absurd h
renumbered_writes t object numbers (x ∷ xs) (c ∷ cells) h =
    let first : IsWriteOf t x (local_write object [] c) = h.0 in (
      record { node = first.node; property = first.property; offset = first.offset; number = ap (own_number object numbers) (first.number ∙ without (node_numbered (nodes_of object) (number_of c)) (number_of c)) },
      renumbered_writes t object numbers xs cells h.1,
    )
  where
    number_of : Cell → ℕ
    number_of c = number_at (unwrap_or (value_in object c.path c.property) []) c.offset

    without : (o : Option Path) (n : ℕ) → unwrap_or (option_and_then (number_in []) o) n ≡ n
    without None n = refl
    without (Some p) n = refl

same_cells : (object : Reading) (old new : List (Path × ℕ)) (cells : List Cell) → AllByRecursion (λ (w : Write). HasCell object w.cell) (map (local_write object old) cells)
    → AllByRecursion (λ (w : Write). HasCell object w.cell) (map (local_write object new) cells)
same_cells object old new [] h = tt
same_cells object old new (c ∷ cells) h = (h.0, same_cells object old new cells h.1)

pub seen_renumbered : {V : Type 0} (t : PlacedTree) (o : Object V) (s : Seen) (xs : Vec KeptWrite) → IsSeenIn t o s → s.own ≡ map (local_write s.reading []) (local_cells s.reading)
    → xs.items ≡ map (renumbered s.reading s.numbers) o.own_writes.items
    → IsSeenIn t (record o { own_writes = xs }) (record s { own = map (local_write s.reading s.numbers) (local_cells s.reading) })
seen_renumbered t o s xs is first new = record {
  reads = is.reads;
  fragments = is.fragments;
  own = subst (λ (ys : List KeptWrite). AreWritesOf t ys (map (local_write s.reading s.numbers) (local_cells s.reading))) (sym new)
      (renumbered_writes t s.reading s.numbers o.own_writes.items (local_cells s.reading) (subst (AreWritesOf t o.own_writes.items) first is.own));
  labels = is.labels;
  own_there = subst (λ (r : Reading). AllByRecursion (λ (w : Write). HasCell r w.cell) (map (local_write s.reading s.numbers) (local_cells s.reading))) (sym is.reads)
      (same_cells s.reading [] s.numbers (local_cells s.reading) (subst (AllByRecursion (λ (w : Write). HasCell s.reading w.cell)) first
      (subst (λ (r : Reading). AllByRecursion (λ (w : Write). HasCell r w.cell) s.own) is.reads is.own_there)));
  labels_there = is.labels_there;
  symbols = is.symbols;
  brought = is.brought;
}
