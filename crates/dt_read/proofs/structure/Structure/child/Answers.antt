use Rattle.std.proofs.Common.{◌≡◌, ap, ◌∙◌}
use Rattle.dt_read.specs.TreeTokens.{node_of, heads_of, head_named}
use Rattle.dt_read.proofs.Nodes.{is_some_node, if_some_node, at_node}
use Rattle.dt_read.proofs.structure.Structure.child.Goals as goal

pub returns : goal.returns
returns c =
    let n = is_some_node (node_of c.args.self.now c.args.node) c.requires in
    let s = at_node (λ parts. c.siblings.result ≡ heads_of parts.children) (node_of c.args.self.now c.args.node) n.0 n.1 c.siblings.ensures in
    if_some_node (λ parts. c.sibling_in.result ≡ head_named (heads_of parts.children) c.args.name.now) (node_of c.args.self.now c.args.node) n.0 n.1
    (c.sibling_in.ensures ∙ ap (λ hs. head_named hs c.args.name.now) s)
