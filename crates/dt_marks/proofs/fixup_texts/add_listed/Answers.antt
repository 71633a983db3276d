use Rattle.std.proofs.Common.{◌≡◌, List, [], ap, sym, ◌∙◌, subst, map}
use Rattle.std.specs.List.{AllByRecursion}
use Rattle.dt_model.specs.Names.{IsLabel}
use Rattle.dt_model.specs.Tree.{Property}
use Rattle.dt_source_named_tree.specs.Said.{node_said}
use Rattle.dt_marks.specs.Waiting.{with_texts, all_texts}
use Rattle.dt_marks.proofs.FirstCome.{labelled_texts}
use Rattle.dt_marks.proofs.fixup_texts.add_listed.Goals as goal

pub add_node-requires-clause-labels : goal.add_node-requires-clause-labels
add_node-requires-clause-labels c =
    let texts = all_texts (map node_said c.args.nodes.now) in
    let is : c.list_all.new.table ≡ with_texts [] texts = c.in_ok-list_all.ensures ∙ ap (λ (ps : List Property). with_texts ps texts) c.requires.empty in
    subst (AllByRecursion (λ (p : Property). IsLabel p.name)) (sym is) (labelled_texts texts [] c.requires.labels tt)
