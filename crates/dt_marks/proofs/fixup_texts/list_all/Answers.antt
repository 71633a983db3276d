use Rattle.std.proofs.Common.{ℕ, List, [], ◌∷◌, map, codes, ◌∙◌, sym, ap}
use Rattle.std.specs.List.{flat_map}
use Rattle.std.proofs.lemmas.Result.{on_ok_weaker}
use Rattle.dt_model.specs.Names.{Name}
use Rattle.dt_source_named_tree.specs.Said.{property_said, node_said}
use Rattle.dt_source_named_tree.specs.declared.named.NamedNode.{NamedNode}
use Rattle.dt_marks.specs.Waiting.{with_texts, property_texts, texts_behind, all_texts}
use Rattle.dt_marks.proofs.Listing.{texts-append}
use Rattle.dt_marks.proofs.fixup_texts.list_all.Goals as goal

pub returns : goal.returns
returns c =
    let root = c.in-Some.root.now in
    let others = c.in-Some.others.now in
    let own : List (Name × List ℕ) = flat_map (property_texts (codes "/")) (map property_said root.properties.items) in
    let rest : List (Name × List ℕ) = texts_behind [] (0 ∷ []) (map node_said others) in
    let old = c.args.table.now in
    on_ok_weaker c.list_others.result
    (λ set. set
    ∙ (λ i. with_texts (c.in_ok-list_properties.ensures i) (texts_behind (c.requires.begins.0 i) (c.requires.begins.1 i) (map node_said others)))
    ∙ (λ i. with_texts (with_texts old (flat_map (property_texts (c.as_slice.ensures i)) (map property_said (c.deref.ensures.value i)))) rest)
    ∙ sym (texts-append old own rest)
    ∙ ap (λ (ns : List NamedNode). with_texts old (all_texts (map node_said ns))) (sym c.in-Some.ensures.cases.0))
    c.list_others.ensures
