use Rattle.std.proofs.Common.{map, Bor, ◌∙◌, subst}
use Rattle.std.proofs.lemmas.Result.{on_ok_weaker}
use Rattle.dt_model.specs.Names.{Name}
use Rattle.dt_flat.specs.Planted.{MaySetAll}
use Rattle.dt_flat.proofs.Plantable.{may_set_parts}
use Rattle.dt_source_named_tree.specs.Said.{node_said}
use Rattle.dt_marks.specs.Paths.{label_property, symbols_behind, all_symbols}
use Rattle.dt_marks.proofs.Setting.{still_there, all_parts, both_set, both_new}
use Rattle.dt_marks.proofs.symbols.add_all.Goals as goal

pub add_labels-requires-clause-new : goal.add_labels-requires-clause-new
add_labels-requires-clause-new c =
    let path = c.args.path.now in
    let own = map (label_property c.as_slice.result.now) (map (λ (l : Bor Name). l.now) c.deref.result.now) in
    let others = symbols_behind path.value.items path.lengths.items (map node_said c.in-Some.others.now) in
    let parts = all_parts c.args.nodes.now c.in-Some.others.now c.in-Some.root.now c.as_slice.result.now path.value.items path.lengths.items c.deref.result.now
    c.in-Some.ensures.cases.0 c.as_slice.ensures c.deref.ensures.value c.requires.begins.0 c.requires.begins.1 in
    (may_set_parts c.args.tree.now.slots c.args.symbols own others (subst (MaySetAll c.args.tree.now.slots c.args.symbols) parts c.requires.new)).0

pub add_others-requires-clause-there : goal.add_others-requires-clause-there
add_others-requires-clause-there c =
    let own = map (label_property c.as_slice.result.now) (map (λ (l : Bor Name). l.now) c.deref.result.now) in
    still_there c.args.tree.now c.add_labels.new.tree c.args.symbols own c.requires.there c.in_ok-add_labels.ensures.tree

pub add_others-requires-clause-new : goal.add_others-requires-clause-new
add_others-requires-clause-new c =
    let path = c.args.path.now in
    let own = map (label_property c.as_slice.result.now) (map (λ (l : Bor Name). l.now) c.deref.result.now) in
    let others = symbols_behind path.value.items path.lengths.items (map node_said c.in-Some.others.now) in
    let parts = all_parts c.args.nodes.now c.in-Some.others.now c.in-Some.root.now c.as_slice.result.now path.value.items path.lengths.items c.deref.result.now
    c.in-Some.ensures.cases.0 c.as_slice.ensures c.deref.ensures.value c.requires.begins.0 c.requires.begins.1 in
    both_new c.args.tree.now c.add_labels.new.tree c.args.symbols own others (all_symbols (map node_said c.args.nodes.now)) parts c.requires.new c.in_ok-add_labels.ensures.tree

pub returns-clause-tree : goal.returns-clause-tree
returns-clause-tree c =
    let path = c.args.path.now in
    let own = map (label_property c.as_slice.result.now) (map (λ (l : Bor Name). l.now) c.deref.result.now) in
    let others = symbols_behind path.value.items path.lengths.items (map node_said c.in-Some.others.now) in
    let parts = all_parts c.args.nodes.now c.in-Some.others.now c.in-Some.root.now c.as_slice.result.now path.value.items path.lengths.items c.deref.result.now
    c.in-Some.ensures.cases.0 c.as_slice.ensures c.deref.ensures.value c.requires.begins.0 c.requires.begins.1 in
    on_ok_weaker c.add_others.result
    (λ set. set ∙ both_set c.args.tree.now c.add_labels.new.tree c.args.symbols own others (all_symbols (map node_said c.args.nodes.now)) parts c.in_ok-add_labels.ensures.tree)
    c.add_others.ensures.tree
