use Rattle.std.proofs.Common.{sym, ◌∙◌, refl, arith}
use Rattle.dt_names.specs.declared.fault.FaultKind.TheVariants.{NoReg}
use Rattle.dt_trees.specs.Placed.{path_at, reading_of}
use Rattle.dt_resolve_model.specs.Answers.{told, refuse}
use Rattle.dt_resolve_lines.specs.AllLines.{regions_told}
use Rattle.dt_resolve_lines.proofs.Going.{going_starts, going_on, going_ends, going_ends_behind, going_fails}
use Rattle.dt_resolve_model.proofs.Told.{if_fault}
use Rattle.dt_resolve_lines.proofs.regions.put_entries.Goals as goal

pub loop-region-init : goal.loop-region-init
loop-region-init g c =
    let t = g.V.TreeView.tree c.args.view.now in (
      c.requires.regions,
      going_starts (regions_told (reading_of t) (path_at t c.args.node)) _,
      omega arith,
    )

pub next-requires : goal.next-requires
next-requires g c =
    let t = g.V.TreeView.tree c.args.view.now in
    (path_at t c.args.node, c.loop-region.index, c.loop-region.invariant.0)

pub returns-then-is_silent-clause-written : goal.returns-then-is_silent-clause-written
returns-then-is_silent-clause-written g c =
    let t = g.V.TreeView.tree c.args.view.now in
    let p = path_at t c.args.node in
    let next = c.in-Some.ensures.is p c.loop-region.index c.loop-region.invariant.0 in
    going_ends (regions_told (reading_of t) p) (told c.in-Some.region) next.0 c.loop-region.invariant.1 (sym c.is_silent.ensures ∙ c.if-is_silent.true)

pub returns-in_err-put_line-clause-refused : goal.returns-in_err-put_line-clause-refused
returns-in_err-put_line-clause-refused g c =
    let t = g.V.TreeView.tree c.args.view.now in
    let p = path_at t c.args.node in
    let next = c.in-Some.ensures.is p c.loop-region.index c.loop-region.invariant.0 in
    if_fault _ _ _ c.from_residual.ensures.1
    (going_fails (regions_told (reading_of t) p) (told c.in-Some.region) next.0 c.loop-region.invariant.1 (sym c.is_silent.ensures ∙ c.if-is_silent.false) c.in_err-put_line.ensures.refused)

pub returns-then-is_last-clause-written : goal.returns-then-is_last-clause-written
returns-then-is_last-clause-written g c =
    let t = g.V.TreeView.tree c.args.view.now in
    let p = path_at t c.args.node in
    let next = c.in-Some.ensures.is p c.loop-region.index c.loop-region.invariant.0 in
    going_ends_behind (regions_told (reading_of t) p) (told c.in-Some.region) next.0 c.loop-region.invariant.1 (sym c.is_silent.ensures ∙ c.if-is_silent.false) (sym c.is_last.ensures ∙ c.if-is_last.true) c.in_ok-put_line.ensures.written

pub loop-region-smaller : goal.loop-region-smaller
loop-region-smaller g c = c.in-Some.ensures.fewer

pub loop-region-preserved : goal.loop-region-preserved
loop-region-preserved g c =
    let t = g.V.TreeView.tree c.args.view.now in
    let p = path_at t c.args.node in
    let next = c.in-Some.ensures.is p c.loop-region.index c.loop-region.invariant.0 in
    let room = c.loop-region.invariant.2 in
    let less = c.in-Some.ensures.fewer in (
      next.1,
      going_on (regions_told (reading_of t) p) (told c.in-Some.region) next.0 c.loop-region.invariant.1 (sym c.is_silent.ensures ∙ c.if-is_silent.false) (sym c.is_last.ensures ∙ c.if-is_last.false) c.in_ok-put_line.ensures.written,
      omega (arith, room, less),
    )

pub returns-clause-written : goal.returns-clause-written
returns-clause-written g c =
    let t = g.V.TreeView.tree c.args.view.now in
    let p = path_at t c.args.node in
    going_ends (regions_told (reading_of t) p) (refuse NoReg) (c.in_default.ensures.is p c.loop-region.index c.loop-region.invariant.0).0 c.loop-region.invariant.1 refl
