use Rattle.std.proofs.Common.{sym, ap, ◌∙◌}
use Rattle.dt_read.proofs.Nodes.{marks_in_is}
use Rattle.dt_read.proofs.Walks.{root_stands}
use Rattle.dt_read.proofs.structure.Structure.root.Goals as goal

pub unreachable-requires : goal.unreachable-requires
unreachable-requires c =
    let tokens = marks_in_is c.self.inside.strings.now c.self.inside.at c.self.inside.block.now c.self.invariant in
    let none = c.in-None.ensures.next.0 in
    let all = c.new-cursor.ensures in
    cc

pub returns : goal.returns
returns c =
    let tokens = marks_in_is c.self.inside.strings.now c.self.inside.at c.self.inside.block.now c.self.invariant in
    root_stands _ c.in-Some.node c.in-Some.field-0-1 _ _ (sym tokens ∙ sym c.new-cursor.ensures ∙ c.in-Some.ensures.next) ∙ ap (λ t. t.place) c.self.view_is
