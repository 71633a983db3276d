use Rattle.std.proofs.Common.{◌≡◌, ◌↔◌, ℕ, List, Option, Some, None, is_some, true, false, MatchOption, sym, subst}
use Rattle.dt_model.specs.Object.{Cell}
use Rattle.dt_trees.specs.Placed.{reading_of, IsAt}
use Rattle.dt_overlay_texts.specs.Cells.{cell_told, HasTold}
use Rattle.dt_overlay_read.proofs.FixupsTold.{HasCells, HasAllTold, told_begins, told_others, told_not}
use Rattle.dt_overlay_read.proofs.fixups.are_cells.Goals as goal

-- what is told of nothing, and of something
none_of : {X : Type 0} (o : Option X) (P : Type 0) (Q : X → Type 0) → is_some o ≡ false → MatchOption o P Q → P
none_of None P Q e m = m
none_of (Some x) P Q e m = absurd cc

some_of : {X : Type 0} (o : Option X) (P : Type 0) (Q : X → Type 0) → is_some o ≡ true → MatchOption o P Q → (x : X) × Q x
some_of None P Q e m = absurd cc
some_of (Some x) P Q e m = (x, m)

pub loop-text-init : goal.loop-text-init
loop-text-init g c = record {
  next = tt;
  ends = tt;
  left = subst (λ (xs : List (List ℕ)). HasCells (reading_of (g.V.TreeView.tree c.args.object.now)) c.args.value.now ↔ HasAllTold (reading_of (g.V.TreeView.tree c.args.object.now)) xs) (sym c.into_iter-text-iterator.ensures.into_iter_gives)
      (told_begins c.texts_are_one.ensures.texts c.cell_texts_are_texts.ensures (reading_of (g.V.TreeView.tree c.args.object.now)) c.args.value.now c.in-Some.texts c.in-Some.ensures.0 c.in-Some.ensures.1);
}

pub returns-then-is_none : goal.returns-then-is_none
returns-then-is_none g c =
    let a = g.V.TreeView.tree c.args.object.now in
    let text = c.in-Some-text.text.now in
    let never = none_of c.cell_at.result ((d : Cell) → ¬ HasTold (reading_of a) text d) (λ found. HasTold (reading_of a) text (cell_told found.1) × IsAt a found.1.path found.0) c.if-is_none.ensures c.cell_at.ensures in
    (λ e. absurd cc, λ has. absurd (told_not (reading_of a) text c.loop-text.text-iterator c.next.new.self c.in-Some-text.ensures.steps never (c.loop-text.invariant.left.0 has)))

pub loop-text-preserved : goal.loop-text-preserved
loop-text-preserved g c =
    let a = g.V.TreeView.tree c.args.object.now in
    let text = c.in-Some-text.text.now in
    let some = some_of c.cell_at.result ((d : Cell) → ¬ HasTold (reading_of a) text d) (λ found. HasTold (reading_of a) text (cell_told found.1) × IsAt a found.1.path found.0) c.if-is_none.ensures c.cell_at.ensures in
    record {
      next = tt;
      ends = tt;
      left = told_others (reading_of a) c.args.value.now text c.loop-text.text-iterator c.next.new.self (cell_told some.0.1) c.in-Some-text.ensures.steps some.1.0 c.loop-text.invariant.left;
    }
