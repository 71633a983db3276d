use Rattle.std.proofs.Common.{◌≡◌, sym, ap, ◌∙◌, subst}
use Rattle.dt_read.specs.TreeTokens.{node_of, BeginsNode, AreSiblings, heads_of, heads_left}
use Rattle.dt_read.proofs.Nodes.{is_some_node, if_some_node, at_node}
use Rattle.dt_read.proofs.Walks.{siblings_of_parts, past_begin}
use Rattle.dt_read.proofs.structure.Structure.siblings.Goals as goal

pub new-requires : goal.new-requires
new-requires c =
    let n = is_some_node (node_of c.args.self.now c.args.node) c.requires in
    let b = at_node (BeginsNode c.cursor_at-cursor.result c.args.node) (node_of c.args.self.now c.args.node) n.0 n.1 c.cursor_at-cursor.ensures in
    let rest = past_begin c.args.node n.0 c.cursor_at-cursor.result c.next_tag.new.self c.next_tag.result b c.next_tag.ensures.next in
    subst AreSiblings (sym c.skip_properties.ensures) (siblings_of_parts n.0 b.more c.next_tag.new.self rest).0

pub returns : goal.returns
returns c =
    let n = is_some_node (node_of c.args.self.now c.args.node) c.requires in
    let b = at_node (BeginsNode c.cursor_at-cursor.result c.args.node) (node_of c.args.self.now c.args.node) n.0 n.1 c.cursor_at-cursor.ensures in
    let rest = past_begin c.args.node n.0 c.cursor_at-cursor.result c.next_tag.new.self c.next_tag.result b c.next_tag.ensures.next in
    if_some_node (λ parts. c.new.result ≡ heads_of parts.children) (node_of c.args.self.now c.args.node) n.0 n.1
    (c.new.ensures ∙ ap heads_left c.skip_properties.ensures ∙ (siblings_of_parts n.0 b.more c.next_tag.new.self rest).1)
