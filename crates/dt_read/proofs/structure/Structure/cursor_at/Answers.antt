use Rattle.std.proofs.Common.{◌-◌, sym, ap, ◌∙◌, subst}
use Rattle.std.proofs.lemmas.List.{take_rest}
use Rattle.dt_read.specs.TreeTokens.{node_of, BeginsNode, marks_in}
use Rattle.dt_read.proofs.Nodes.{place_of, is_some_node, if_some_node}
use Rattle.dt_read.proofs.structure.Structure.cursor_at.Goals as goal

pub overflow_sub-node : goal.overflow_sub-node
overflow_sub-node c =
    let n = is_some_node (node_of c.args.self.now c.args.node) c.requires in
    (place_of c.self.inside.strings.now c.self.inside.at c.self.inside.block.now c.args.node n.0 c.self.invariant (ap (λ t. node_of t c.args.node) c.self.view_is ∙ n.1)).behind

pub slice_bounds-new-count : goal.slice_bounds-new-count
slice_bounds-new-count c =
    let n = is_some_node (node_of c.args.self.now c.args.node) c.requires in
    (place_of c.self.inside.strings.now c.self.inside.at c.self.inside.block.now c.args.node n.0 c.self.invariant (ap (λ t. node_of t c.args.node) c.self.view_is ∙ n.1)).within

pub new-requires : goal.new-requires
new-requires c =
    let n = is_some_node (node_of c.args.self.now c.args.node) c.requires in
    rw (take_rest c.self.inside.block.now (c.args.node - c.self.inside.at))
    (place_of c.self.inside.strings.now c.self.inside.at c.self.inside.block.now c.args.node n.0 c.self.invariant (ap (λ t. node_of t c.args.node) c.self.view_is ∙ n.1)).tokens

pub returns : goal.returns
returns c =
    let n = is_some_node (node_of c.args.self.now c.args.node) c.requires in
    let p = place_of c.self.inside.strings.now c.self.inside.at c.self.inside.block.now c.args.node n.0 c.self.invariant (ap (λ t. node_of t c.args.node) c.self.view_is ∙ n.1) in
    let same = ap (marks_in c.self.inside.strings.now c.args.node) (take_rest c.self.inside.block.now (c.args.node - c.self.inside.at)) in
    if_some_node (BeginsNode c.new.result c.args.node) (node_of c.args.self.now c.args.node) n.0 n.1
    (subst (λ s. BeginsNode s c.args.node n.0) (sym (c.new.ensures ∙ same)) p.begins)

pub slice_bounds-new-start : goal.slice_bounds-new-start
slice_bounds-new-start c = slice_bounds-new-count c
