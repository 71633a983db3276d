use Rattle.std.proofs.Common.{◌≡◌, ◌∷◌, Some, None, sym, ap, ◌∙◌}
use Rattle.dt_read.specs.View.{tag_mark}
use Rattle.dt_read.specs.TreeTokens.{node_of, BeginsNode, past, first_place}
use Rattle.dt_read.proofs.Behind.{first_begins, none_begins, ends_at}
use Rattle.dt_read.proofs.Cursors.{past_node}
use Rattle.dt_read.proofs.Nodes.{is_some_node, if_some_node, at_node}
use Rattle.dt_read.proofs.Walks.{past_begin}
use Rattle.dt_read.proofs.structure.Structure.next_sibling.Goals as goal

pub returns-in-Some : goal.returns-in-Some
returns-in-Some c =
    let n = is_some_node (node_of c.args.self.now c.args.node) c.requires in
    let b = at_node (BeginsNode c.cursor_at-cursor.result c.args.node) (node_of c.args.self.now c.args.node) n.0 n.1 c.cursor_at-cursor.ensures in
    let behind = c.skip_node.ensures ∙ ap (λ m. past m 1) (past_begin c.args.node n.0 c.cursor_at-cursor.result c.next_tag.new.self c.next_tag.result b c.next_tag.ensures.next) ∙ past_node n.0 b.more in
    let here = c.in-Some.ensures in
    if_some_node (λ parts. Some c.in-Some.sibling ≡ first_place parts.siblings) (node_of c.args.self.now c.args.node) n.0 n.1
    (first_begins n.0.siblings b.follows.rest here.1 c.in-Some.sibling here.0 b.follows.ends (sym (behind ∙ b.follows.whole) ∙ here.2))

pub returns-in_err-sibling : goal.returns-in_err-sibling
returns-in_err-sibling c =
    let n = is_some_node (node_of c.args.self.now c.args.node) c.requires in
    let b = at_node (BeginsNode c.cursor_at-cursor.result c.args.node) (node_of c.args.self.now c.args.node) n.0 n.1 c.cursor_at-cursor.ensures in
    let behind = c.skip_node.ensures ∙ ap (λ m. past m 1) (past_begin c.args.node n.0 c.cursor_at-cursor.result c.next_tag.new.self c.next_tag.result b c.next_tag.ensures.next) ∙ past_node n.0 b.more in
    if_some_node (λ parts. c.from_residual.result ≡ first_place parts.siblings) (node_of c.args.self.now c.args.node) n.0 n.1
    (c.from_residual.ensures ∙ none_begins n.0.siblings b.follows.rest _ (sym (behind ∙ b.follows.whole) ∙ c.in_err-sibling.ensures.next.0) tt)

pub returns-in_default-tag : goal.returns-in_default-tag
returns-in_default-tag c =
    let n = is_some_node (node_of c.args.self.now c.args.node) c.requires in
    let b = at_node (BeginsNode c.cursor_at-cursor.result c.args.node) (node_of c.args.self.now c.args.node) n.0 n.1 c.cursor_at-cursor.ensures in
    let behind = c.skip_node.ensures ∙ ap (λ m. past m 1) (past_begin c.args.node n.0 c.cursor_at-cursor.result c.next_tag.new.self c.next_tag.result b c.next_tag.ensures.next) ∙ past_node n.0 b.more in
    let here = c.in_ok-sibling.ensures.next in
    if_some_node (λ parts. None ≡ first_place parts.siblings) (node_of c.args.self.now c.args.node) n.0 n.1
    (none_begins n.0.siblings b.follows.rest _ (sym (behind ∙ b.follows.whole) ∙ here.1) (ends_at c.in_ok-sibling.sibling c.in_ok-sibling.tag here.0 c.next_tag-2.new.self c.in_default-tag.not-BeginNode))

pub returns : goal.returns
returns c =
    let n = is_some_node (node_of c.args.self.now c.args.node) c.requires in
    let b = at_node (BeginsNode c.cursor_at-cursor.result c.args.node) (node_of c.args.self.now c.args.node) n.0 n.1 c.cursor_at-cursor.ensures in
    let behind = c.skip_node.ensures ∙ ap (λ m. past m 1) (past_begin c.args.node n.0 c.cursor_at-cursor.result c.next_tag.new.self c.next_tag.result b c.next_tag.ensures.next) ∙ past_node n.0 b.more in
    let next = c.in_ok-sibling.ensures.next in
    let here = next.1 ∙ ap (λ t. tag_mark c.in_ok-sibling.sibling t next.0 ∷ c.next_tag-2.new.self) c.in-BeginNode.is in
    if_some_node (λ parts. Some c.in_ok-sibling.sibling ≡ first_place parts.siblings) (node_of c.args.self.now c.args.node) n.0 n.1
    (first_begins n.0.siblings b.follows.rest c.next_tag-2.new.self c.in_ok-sibling.sibling c.in-BeginNode.field-0.now b.follows.ends (sym (behind ∙ b.follows.whole) ∙ here))
