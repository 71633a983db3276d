use Rattle.std.proofs.Common.{◌∙◌, List, ℕ, sym, ap}
use Rattle.dt_model.specs.Names.{Name}
use Rattle.dt_model.specs.Tree.{Forest}
use Rattle.dt_flat.specs.Arena.{below}
use Rattle.dt_write.specs.Written.{used_by, used_below}
use Rattle.dt_write.specs.Parts.{trees_at}
use Rattle.dt_write.proofs.Puts.{below_is}
use Rattle.dt_write.proofs.names.Names.+note_node.Goals as goal

pub returns : goal.returns
returns t c =
    let slots = c.args.tree.now.slots in
    let own = c.note_properties.new.self in
    ap (λ (ps : List ℕ). used_below c.loop-child.self (trees_at slots ps)) (sym c.in-None.ensures.steps.0) ∙ c.loop-child.invariant.left
    ∙ ap (λ (f : Forest). used_below own f) (sym (below_is slots c.args.node))
    ∙ ap (λ (ns : List Name). used_below ns (below slots c.args.node)) (c.in_ok-note_properties.ensures ∙ ap (used_by c.args.self.now) c.props.ensures)
