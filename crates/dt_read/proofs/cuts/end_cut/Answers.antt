use Rattle.std.proofs.Common.{◌-◌, ℕ, sym, subst, arith}
use Rattle.dt_read.specs.Cuts.{IsEndCut}
use Rattle.dt_read.proofs.CutTrees.{cut_node}
use Rattle.dt_read.proofs.NodeCuts.{head_found, end_cut_is, content_behind}
use Rattle.dt_read.proofs.cuts.end_cut.Goals as goal

pub end_place-requires-clause-ends : goal.end_place-requires-clause-ends
end_place-requires-clause-ends c =
    let strings = c.node_from.result.0.now in
    let left = c.node_from.result.1.now in
    let head = head_found strings c.args.node left c.in-Some.head.at c.in-Some.head.token c.in-Some.head.behind c.in-Some.head.rest.now
    c.in-Some.ensures.no_nop c.in-Some.ensures.next c.in-Some.ensures.lies c.in-Some.ensures.nops in
    content_behind c.args.bytes.now c.args.node strings left c.in-Some.head.behind c.in-Some.head.rest.now (cut_node c.args.bytes.now c.args.node c.requires.blob c.requires.node)
    c.node_from.ensures.names c.node_from.ensures.block head

pub overflow_sub-result : goal.overflow_sub-result
overflow_sub-result c =
    let node = cut_node c.args.bytes.now c.args.node c.requires.blob c.requires.node in
    let head = head_found c.node_from.result.0.now c.args.node c.node_from.result.1.now c.in-Some.head.at c.in-Some.head.token c.in-Some.head.behind c.in-Some.head.rest.now
    c.in-Some.ensures.no_nop c.in-Some.ensures.next c.in-Some.ensures.lies c.in-Some.ensures.nops in
    omega (arith, c.number.ensures.value, node.from, head.begun, c.end_place.ensures.first)

pub returns : goal.returns
returns c =
    let bytes = c.args.bytes.now in
    let strings = c.node_from.result.0.now in
    let left = c.node_from.result.1.now in
    let head = head_found strings c.args.node left c.in-Some.head.at c.in-Some.head.token c.in-Some.head.behind c.in-Some.head.rest.now
    c.in-Some.ensures.no_nop c.in-Some.ensures.next c.in-Some.ensures.lies c.in-Some.ensures.nops in
    subst (λ (n : ℕ). IsEndCut bytes c.args.node (c.end_place.result - n)) (sym c.number.ensures.value)
    (end_cut_is bytes c.args.node strings left c.in-Some.head.behind c.in-Some.head.rest.now c.end_place.result
    (cut_node bytes c.args.node c.requires.blob c.requires.node) c.node_from.ensures.names c.node_from.ensures.block head c.end_place.ensures)
