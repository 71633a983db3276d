use Rattle.std.proofs.Common.{◌≡◌, ◌+◌, ◌-◌, ◌*◌, length, refl, ap, ◌∙◌, arith}
use Rattle.std.proofs.lemmas.List.{length-drop}
use Rattle.dt_trees.specs.Placed.{reading_of}
use Rattle.dt_resolve_model.specs.World.{tree_world}
use Rattle.dt_resolve_model.specs.Regions.{region}
use Rattle.dt_resolve_model.proofs.Entries.{one_entry}
use Rattle.dt_ranges.proofs.Listed.{left_behind}
use Rattle.dt_ranges.proofs.listing.Regions.next.Goals as goal

pub returns-in_default-clause-is : goal.returns-in_default-clause-is
returns-in_default-clause-is g c = λ p i left.
    (ap (region (tree_world (reading_of (g.V.TreeView.tree c.args.view.now))) p) (let e : i ≡ i + 0 = omega arith in e) ∙ c.in_default.ensures.is p i left, left)

pub cells_after-self-requires : goal.cells_after-self-requires
cells_after-self-requires g c =
    let left = c.requires.2 in
    let room = one_entry c.args.self.now.count (4 * (c.args.self.now.bus.cells.address + c.args.self.now.bus.cells.size)) c.in-Some.ensures.there in
    omega (arith, room, left.long)

pub overflow_sub-self : goal.overflow_sub-self
overflow_sub-self g c = let some = c.in-Some.ensures.there in omega arith

pub returns-clause-is : goal.returns-clause-is
returns-clause-is g c = λ p i left.
    let some = c.in-Some.ensures.there in (
      ap (region (tree_world (reading_of (g.V.TreeView.tree c.args.view.now))) p) (let e : i ≡ i + 0 = omega arith in e) ∙ c.in-Some.ensures.is p i left,
      left_behind (g.V.TreeView.tree c.args.view.now) p i (c.args.self.now.count - 1) _ _ left (omega arith) refl refl refl (ap length c.cells_after-self.ensures.bytes ∙ length-drop (4 * (c.args.self.now.bus.cells.address + c.args.self.now.bus.cells.size)) c.args.self.now.rest.now) c.cells_after-self.ensures.cells,
    )

pub returns-clause-fewer : goal.returns-clause-fewer
returns-clause-fewer g c = let some = c.in-Some.ensures.there in omega arith
