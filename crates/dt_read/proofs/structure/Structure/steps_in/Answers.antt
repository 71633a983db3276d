use Rattle.std.proofs.Common.{◌≡◌, List, ◌∷◌, ◌++◌, map, ◌∙◌}
use Rattle.dt_read.specs.StepsLeft.{steps_left}
use Rattle.dt_read.specs.TreeTokens.{node_of, BeginsNode}
use Rattle.dt_read.specs.Walked.{Step, holds, closes, steps_of_nodes}
use Rattle.dt_read.proofs.Nodes.{is_some_node, if_some_node, at_node}
use Rattle.dt_read.proofs.StepLemmas.{steps_of_parts}
use Rattle.dt_read.proofs.Walks.{past_begin}
use Rattle.dt_read.proofs.structure.Structure.steps_in.Goals as goal

pub returns : goal.returns
returns c =
    let n = is_some_node (node_of c.args.self.now c.args.node) c.requires in
    let b = at_node (BeginsNode c.cursor_at-cursor.result c.args.node) (node_of c.args.self.now c.args.node) n.0 n.1 c.cursor_at-cursor.ensures in
    let rest = past_begin c.args.node n.0 c.cursor_at-cursor.result c.next_tag.new.self c.next_tag.result b c.next_tag.ensures.next in
    if_some_node (λ parts. (behind : List Step) × (c.new.result ≡ map holds parts.properties ++ (steps_of_nodes parts.children ++ closes ∷ behind))) (node_of c.args.self.now c.args.node) n.0 n.1
    (steps_left b.more, c.new.ensures ∙ steps_of_parts n.0 b.more c.next_tag.new.self rest)
