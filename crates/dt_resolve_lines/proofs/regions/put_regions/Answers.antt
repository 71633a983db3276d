use Rattle.std.proofs.Common.{◌≡◌, ◌⊎◌, inl, inr, ap}
use Rattle.dt_names.specs.declared.fault.FaultKind.TheVariants.{NoReg, BadCells}
use Rattle.dt_trees.specs.Placed.{path_at, reading_of}
use Rattle.dt_resolve_model.specs.Answers.{refused}
use Rattle.dt_resolve_lines.specs.AllLines.{regions_told, is_bad_cells, is_no_reg}
use Rattle.dt_resolve_lines.proofs.Going.{going_starts, going_ends, last_passes, last_fails}
use Rattle.dt_resolve_lines.proofs.regions.put_regions.Goals as goal

pub returns-in-NoReg-clause-written : goal.returns-in-NoReg-clause-written
returns-in-NoReg-clause-written g c =
    let t = g.V.TreeView.tree c.args.view.now in
    let told = regions_told (reading_of t) (path_at t c.args.node) in
    going_ends told (refused c.in-Err.fault) (c.in-Err.ensures.refused 0) (going_starts told _) (ap is_no_reg c.in-NoReg.is)

pub returns-in_default : goal.returns-in_default
returns-in_default g c =
    let t = g.V.TreeView.tree c.args.view.now in
    let told = regions_told (reading_of t) (path_at t c.args.node) in
    let kind = other c.in-Err.ensures.kind in
    let last = last_passes told (refused c.in-Err.fault) (c.in-Err.ensures.refused 0) (going_starts told _) _ c.put_line.result (ap is_no_reg kind) (ap is_bad_cells kind) c.put_line.ensures.written in
    record {
      written = last;
      refused = last_fails told (refused c.in-Err.fault) (c.in-Err.ensures.refused 0) (going_starts told _) _ c.put_line.result (ap is_no_reg kind) c.put_line.ensures.refused;
    }
  where
    other : (c.in-Err.fault.kind ≡ NoReg) ⊎ (c.in-Err.fault.kind ≡ BadCells) → c.in-Err.fault.kind ≡ BadCells
    other (inl is) = absurd (c.in_default.not-NoReg is)
    other (inr is) = is
