use Rattle.std.proofs.Common.{◌≡◌, ap, ◌∙◌}
use Rattle.std.specs.Option.{option_copied}
use Rattle.dt_model.specs.Tree.{value_of}
use Rattle.dt_read.specs.TreeTokens.{node_of, BeginsNode}
use Rattle.dt_read.proofs.Nodes.{is_some_node, if_some_node, at_node}
use Rattle.dt_read.proofs.Walks.{properties_of_parts, past_begin}
use Rattle.dt_read.proofs.structure.Structure.value.Goals as goal

pub returns : goal.returns
returns c =
    let n = is_some_node (node_of c.args.self.now c.args.node) c.requires in
    let b = at_node (BeginsNode c.cursor_at-cursor.result c.args.node) (node_of c.args.self.now c.args.node) n.0 n.1 c.cursor_at-cursor.ensures in
    let rest = past_begin c.args.node n.0 c.cursor_at-cursor.result c.next_tag.new.self c.next_tag.result b c.next_tag.ensures.next in
    if_some_node (λ parts. option_copied c.value_in.result ≡ value_of parts.properties c.args.name.now) (node_of c.args.self.now c.args.node) n.0 n.1
    (c.value_in.ensures ∙ ap (λ ps. value_of ps c.args.name.now) (properties_of_parts n.0 b.more c.next_tag.new.self rest))
