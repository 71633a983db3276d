use Rattle.std.proofs.Common.{refl, sym, ◌∙◌}
use Rattle.dt_read.proofs.StepLemmas.{begins_mark}
use Rattle.dt_read.proofs.cursor.Cursor.node_at_front.Goals as goal

pub returns-then-begins_a_node : goal.returns-then-begins_a_node
returns-then-begins_a_node c =
    let at = c.self.inside in
    let b = begins_mark at.strings.now at.at at.rest.now c.self.invariant (c.if-begins_a_node.ensures refl) in
    (b.0, b.1, sym c.self.view_is ∙ b.2)
