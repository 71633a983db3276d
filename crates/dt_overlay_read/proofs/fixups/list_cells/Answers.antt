use Rattle.std.proofs.Common.{rules, ◌≡◌, ◌⊎◌, inl, inr, List, None, IfErr}
use Rattle.std.proofs.lemmas.Result.{IfErr-weaker}
use Rattle.dt_model.specs.Object.{Cell}
use Rattle.dt_names.specs.declared.fault.Fault.{Fault}
use Rattle.dt_names.specs.declared.fault.FaultKind.TheVariants.{NoMemory, BadFixup}
use Rattle.dt_trees.specs.Placed.{reading_of}
use Rattle.dt_overlay_laws.specs.Objects.{AreCellsOf}
use Rattle.dt_overlay_texts.specs.Cells.{HasTold}
use Rattle.dt_overlay_read.proofs.FixupsTold.{cells_begin, cells_step, told_not}
use Rattle.dt_overlay_read.proofs.fixups.list_cells.Goals as goal

pub loop-text-init : goal.loop-text-init
loop-text-init g c = record {
  next = tt;
  ends = tt;
  left = cells_begin c.texts_are_one.ensures.texts c.cell_texts_are_texts.ensures (g.V.TreeView.tree c.args.object.now) c.args.value.now c.in-Some.texts c.into_iter-text-iterator.result c.args.number
      c.args.out.now.items c.into_iter-text-iterator.ensures.into_iter_gives c.in-Some.ensures.0 c.in-Some.ensures.1;
}

pub loop-text-preserved : goal.loop-text-preserved
loop-text-preserved g c = record {
  next = tt;
  ends = tt;
  left = cells_step (g.V.TreeView.tree c.args.object.now) c.args.value.now c.in-Some-text.text.now c.loop-text.text-iterator c.next.new.self c.args.number c.args.out.now.items c.loop-text.out.items
      c.list_cell.new.out.items c.in-Some-text.ensures.steps c.loop-text.invariant.left c.in_ok-list_cell.ensures.listed;
}

pub returns-in_err-list_cell-clause-refused : goal.returns-in_err-list_cell-clause-refused
returns-in_err-list_cell-clause-refused g c =
    let object = reading_of (g.V.TreeView.tree c.args.object.now) in
    let text = c.in-Some-text.text.now in
    let value = c.args.value.now in
    let told : IfErr c.from_residual.result (λ (fault : Fault). (fault.at ≡ None) × ((fault.kind ≡ NoMemory) ⊎ ((fault.kind ≡ BadFixup) × ((d : Cell) → ¬ HasTold object text d)))) = search rules in
    IfErr-weaker c.from_residual.result (λ (fault : Fault). (fault.at ≡ None) × ((fault.kind ≡ NoMemory) ⊎ ((fault.kind ≡ BadFixup) × ((d : Cell) → ¬ HasTold object text d))))
    (λ (fault : Fault). (fault.at ≡ None) × ((fault.kind ≡ NoMemory) ⊎ ((fault.kind ≡ BadFixup) × ((cells : List Cell) → ¬ AreCellsOf object value cells))))
    (λ fault why. (
      why.0,
      elim why.1 [
        | inl memory ↦ inl memory
        | inr bad ↦ inr (bad.0, λ cells has. told_not object text c.loop-text.text-iterator c.next.new.self c.in-Some-text.ensures.steps bad.1 (c.loop-text.invariant.left.has.0 (cells, has)))
      ],
    )) told
