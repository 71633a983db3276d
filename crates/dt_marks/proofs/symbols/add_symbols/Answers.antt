use Rattle.std.proofs.Common.{◌≡◌, ◌<◌, List, map, length, None, sym, ap, ◌∙◌, subst}
use Rattle.std.proofs.lemmas.Result.{on_ok_weaker, IfErr-weaker}
use Rattle.dt_model.specs.Instance.{symbols_of, with_symbols}
use Rattle.dt_model.specs.Named.{tree_of}
use Rattle.dt_model.specs.Tree.{Property}
use Rattle.dt_model.specs.Valid.{AreDistinct}
use Rattle.dt_names.specs.declared.fault.Fault.{Fault}
use Rattle.dt_source_named_tree.specs.Said.{node_said}
use Rattle.dt_flat.specs.Arena.{reading}
use Rattle.dt_marks.specs.Paths.{all_symbols, AreAll}
use Rattle.dt_marks.specs.Refusals.{WhyFull, WhyNoSymbols}
use Rattle.dt_marks.proofs.PathTexts.{symbols_are}
use Rattle.dt_marks.proofs.Labels.{are_all, differ, none_stand, some_stand}
use Rattle.dt_marks.proofs.SymbolTrees.{read_after}
use Rattle.dt_marks.proofs.Refused.{why_no_symbols}
use Rattle.dt_marks.proofs.symbols.add_symbols.Goals as goal

pub returns-then-not-have_labels-clause-added : goal.returns-then-not-have_labels-clause-added
returns-then-not-have_labels-clause-added c =
    let t = tree_of c.args.named.now in
    let none = none_stand c.nodes-nodes.result.now (sym c.if-not-have_labels.ensures) in
    ap (λ (xs : List Property). with_symbols xs (reading c.args.tree.now)) (sym none ∙ ap all_symbols (c.nodes-nodes.ensures ∙ sym c.validity.ensures.preorder) ∙ symbols_are t)

pub add_node-requires-clause-all : goal.add_node-requires-clause-all
add_node-requires-clause-all c =
    subst AreAll (c.validity.ensures.preorder ∙ sym c.nodes-nodes.ensures) (are_all (tree_of c.args.named.now) c.validity.ensures.named)

pub add_node-requires-clause-apart : goal.add_node-requires-clause-apart
add_node-requires-clause-apart c =
    let t = tree_of c.args.named.now in
    let same = ap all_symbols (c.nodes-nodes.ensures ∙ sym c.validity.ensures.preorder) ∙ symbols_are t in
    subst (λ (xs : List Property). AreDistinct (map (λ x. x.name) xs)) (sym same) (differ t c.validity.ensures.named)

pub returns-clause-added : goal.returns-clause-added
returns-clause-added c =
    let t = tree_of c.args.named.now in
    let listed = all_symbols (map node_said c.nodes-nodes.result.now) in
    let same : listed ≡ symbols_of t = ap all_symbols (c.nodes-nodes.ensures ∙ sym c.validity.ensures.preorder) ∙ symbols_are t in
    let some = some_stand c.nodes-nodes.result.now (sym c.if-not-have_labels.ensures) in
    on_ok_weaker c.add_node.result
    (read_after c.args.tree.now c.add_node.new.tree listed (symbols_of t) c.add_node.ensures.rooted same (differ t c.validity.ensures.named) some)
    c.add_node.ensures.tree

pub returns-clause-refused : goal.returns-clause-refused
returns-clause-refused c =
    let t = tree_of c.args.named.now in
    let same = ap all_symbols (c.nodes-nodes.ensures ∙ sym c.validity.ensures.preorder) ∙ symbols_are t in
    let some = subst (λ (xs : List Property). 0 < length xs) same (some_stand c.nodes-nodes.result.now (sym c.if-not-have_labels.ensures)) in
    let slots = c.args.tree.now.slots in
    IfErr-weaker c.add_node.result (λ (fault : Fault). WhyFull fault.kind slots × (fault.at ≡ None)) (λ fault. WhyNoSymbols fault.kind slots (symbols_of t) × (fault.at ≡ None))
    (λ fault why. (why_no_symbols fault.kind slots (symbols_of t) some why.0, why.1)) c.add_node.ensures.refused
