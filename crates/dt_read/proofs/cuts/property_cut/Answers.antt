use Rattle.std.proofs.Common.{◌≡◌, ◌-◌, ℕ, List, Some, sym, ap, subst, ◌∙◌, arith}
use Rattle.dt_model.specs.Tree.{Property, value_of}
use Rattle.dt_read.specs.Cuts.{IsPropertyCut}
use Rattle.dt_read.specs.Parsing.{left_by}
use Rattle.dt_read.specs.TreeTokens.{marks_in}
use Rattle.dt_read.proofs.Walks.{next_of_node, properties_of_parts}
use Rattle.dt_read.proofs.CutTrees.{cut_node}
use Rattle.dt_read.proofs.NodeCuts.{head_found, property_cut_is}
use Rattle.dt_read.proofs.cuts.property_cut.Goals as goal

pub overflow_sub-result : goal.overflow_sub-result
overflow_sub-result c =
    let node = cut_node c.args.bytes.now c.args.node c.requires.blob c.requires.node in
    let head = head_found c.node_from.result.0.now c.args.node c.node_from.result.1.now c.in-Some.head.at c.in-Some.head.token c.in-Some.head.behind c.in-Some.head.rest.now
    c.in-Some.ensures.no_nop c.in-Some.ensures.next c.in-Some.ensures.lies c.in-Some.ensures.nops in
    omega (arith, c.number.ensures.value, node.from, head.begun, c.property_extent-extent.ensures.first)

pub returns : goal.returns
returns c =
    let bytes = c.args.bytes.now in
    let strings = c.node_from.result.0.now in
    let left = c.node_from.result.1.now in
    let extent = c.property_extent-extent.result in
    let f = c.node_from.ensures in
    let marks = marks_in strings c.in-Some.head.behind c.in-Some.head.rest.now in
    let own = next_of_node c.args.node f.parts (marks_in strings c.args.node left) marks (Some (c.in-Some.head.at, c.in-Some.head.token)) f.begins c.in-Some.ensures.next in
    let properties : (left_by marks).properties ≡ f.parts.properties = properties_of_parts f.parts f.begins.more marks own in
    let head = head_found strings c.args.node left c.in-Some.head.at c.in-Some.head.token c.in-Some.head.behind c.in-Some.head.rest.now
    c.in-Some.ensures.no_nop c.in-Some.ensures.next c.in-Some.ensures.lies c.in-Some.ensures.nops in
    subst (λ (n : ℕ). IsPropertyCut bytes c.args.node c.args.name.now (extent.from - n) (extent.to - extent.from)) (sym c.number.ensures.value)
    (property_cut_is bytes c.args.node c.args.name.now strings left c.in-Some.head.behind c.in-Some.head.rest.now extent.from extent.to
    (cut_node bytes c.args.node c.requires.blob c.requires.node) f.names f.block head (λ x. f.value x ∙ ap (λ (ps : List Property). value_of ps x) (sym properties)) c.property_extent-extent.ensures)
