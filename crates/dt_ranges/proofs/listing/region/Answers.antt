use Rattle.std.proofs.Common.{◌≡◌, ◌+◌, sym, ap, ◌∙◌, arith}
use Rattle.dt_names.specs.declared.fault.FaultKind.TheVariants.{NoReg}
use Rattle.dt_trees.specs.Placed.{path_at, reading_of}
use Rattle.dt_resolve_model.specs.World.{tree_world}
use Rattle.dt_resolve_model.specs.Regions.{region}
use Rattle.dt_resolve_model.proofs.Told.{refuses, told_fault}
use Rattle.dt_ranges.proofs.listing.region.Goals as goal

pub returns-in_err-of : goal.returns-in_err-of
returns-in_err-of g c =
    let e = c.in_err-of.field-0.0 in
    told_fault c.from_residual.result e (λ a. a) c.from_residual.ensures.1 ∙ sym (c.in_err-of.ensures.refused c.args.index)

pub returns-in-Some : goal.returns-in-Some
returns-in-Some g c =
    let t = g.V.TreeView.tree c.args.view.now in
    let p = path_at t c.args.node in
    sym (c.in-Some.ensures.is p 0 c.in_ok-of.ensures.left) ∙ ap (region (tree_world (reading_of t)) p) (let e : 0 + c.args.index ≡ c.args.index = omega arith in e)

pub returns-in-None : goal.returns-in-None
returns-in-None g c =
    let t = g.V.TreeView.tree c.args.view.now in
    let p = path_at t c.args.node in
    refuses c.of-in-None.result NoReg c.of-in-None.ensures.kind c.of-in-None.ensures.at
    ∙ sym (c.in-None.ensures.is p 0 c.in_ok-of.ensures.left) ∙ ap (region (tree_world (reading_of t)) p) (let e : 0 + c.args.index ≡ c.args.index = omega arith in e)
