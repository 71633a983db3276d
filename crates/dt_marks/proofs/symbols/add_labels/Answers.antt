use Rattle.std.proofs.Common.{[], arith, ◌∙◌, Bor}
use Rattle.dt_model.specs.Names.{Name}
use Rattle.dt_marks.proofs.Setting.{label_is_name, first_label, label_turn, label_new, label_fresh}
use Rattle.dt_marks.proofs.symbols.add_labels.Goals as goal

abbrev none : Bor Name
none = record { ref_ptr = (0, 0); now = [] }

pub known-name-requires : goal.known-name-requires
known-name-requires c =
    label_is_name _ (first_label c.args.labels.now c.loop-label.label-index none (omega arith) c.loop-label.invariant.labels).0

pub loop-label-preserved : goal.loop-label-preserved
loop-label-preserved c =
    let labels = c.args.labels.now in
    let i = c.loop-label.label-index in
    let first = first_label labels i none (omega arith) c.loop-label.invariant.labels in
    let turn = label_turn c.loop-label.tree c.plant_prop.new.self c.args.symbols c.args.path.now labels i none c.known-name.result c.loop-label.invariant.there (omega arith)
    c.known-name.ensures c.in_ok-plant_prop.ensures.ok in
    record {
      there = turn.0;
      labels = first.1;
      new = label_new c.loop-label.tree c.plant_prop.new.self c.args.symbols c.args.path.now labels i none c.known-name.result (omega arith) c.known-name.ensures c.loop-label.invariant.new c.in_ok-plant_prop.ensures.ok;
      same = turn.1 ∙ c.loop-label.invariant.same;
    }

pub plant_prop-requires-clause-fresh : goal.plant_prop-requires-clause-fresh
plant_prop-requires-clause-fresh c =
    label_fresh c.loop-label.tree.slots c.args.symbols c.args.path.now c.args.labels.now c.loop-label.label-index none c.known-name.result (omega arith) c.known-name.ensures c.loop-label.invariant.new
