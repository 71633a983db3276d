use Rattle.std.proofs.Common.{◌<◌, ap, subst, refl, arith}
use Rattle.dt_names.specs.declared.fault.FaultKind.TheVariants.{NoInterrupts}
use Rattle.dt_trees.specs.Placed.{path_at, reading_of}
use Rattle.dt_resolve_model.specs.Answers.{answer, refused, refuse, told_as}
use Rattle.dt_resolve_model.specs.World.{tree_world}
use Rattle.dt_resolve_model.specs.Interrupts.{IsRoute}
use Rattle.dt_irq.specs.Seen.{route_in}
use Rattle.std.specs.Prelude.{OnOk}
use Rattle.dt_irq.specs.RoutesLeft.{length_left}
use Rattle.dt_resolve_lines.specs.AllLines.{routes_told}
use Rattle.dt_resolve_lines.proofs.Going.{going_starts, going_on, going_ends, going_fails, finish_passes, finish_fails}
use Rattle.dt_resolve_model.proofs.Told.{if_fault}
use Rattle.dt_resolve_lines.proofs.routes.put_entries.Goals as goal

pub loop-entry-init : goal.loop-entry-init
loop-entry-init g c =
    let t = g.V.TreeView.tree c.args.view.now in (
      c.requires.routes,
      going_starts (routes_told (reading_of t) (path_at t c.args.node)) _,
      omega arith,
    )

pub returns-in_err-put_line-in-Ok-clause-refused : goal.returns-in_err-put_line-in-Ok-clause-refused
returns-in_err-put_line-in-Ok-clause-refused g c =
    let t = g.V.TreeView.tree c.args.view.now in
    let p = path_at t c.args.node in
    let i = c.loop-entry.index in
    let next = c.in-Some.ensures.is p i c.loop-entry.invariant.0 in
    let is = subst (IsRoute (tree_world (reading_of t)) p i) (ap (told_as (route_in t)) c.in-Ok.is) next.0 in
    if_fault _ _ _ c.from_residual.ensures.1
    (going_fails (routes_told (reading_of t) p) (answer (route_in t c.in-Ok.route)) is c.loop-entry.invariant.1 refl c.in_err-put_line-in-Ok.ensures.refused)

pub returns-in-Err-clause-written : goal.returns-in-Err-clause-written
returns-in-Err-clause-written g c =
    let t = g.V.TreeView.tree c.args.view.now in
    let p = path_at t c.args.node in
    let i = c.loop-entry.index in
    let next = c.in-Some.ensures.is p i c.loop-entry.invariant.0 in
    let is = subst (IsRoute (tree_world (reading_of t)) p i) (ap (told_as (route_in t)) c.in-Err.is) next.0 in
    finish_passes (routes_told (reading_of t) p) (refused c.in-Err.fault) is c.loop-entry.invariant.1 _ c.put_last.result refl c.put_last.ensures.written

pub returns-in-Err-clause-refused : goal.returns-in-Err-clause-refused
returns-in-Err-clause-refused g c =
    let t = g.V.TreeView.tree c.args.view.now in
    let p = path_at t c.args.node in
    let i = c.loop-entry.index in
    let next = c.in-Some.ensures.is p i c.loop-entry.invariant.0 in
    let is = subst (IsRoute (tree_world (reading_of t)) p i) (ap (told_as (route_in t)) c.in-Err.is) next.0 in
    finish_fails (routes_told (reading_of t) p) (refused c.in-Err.fault) is c.loop-entry.invariant.1 _ c.put_last.result c.put_last.ensures.refused

pub loop-entry-preserved : goal.loop-entry-preserved
loop-entry-preserved g c =
    let t = g.V.TreeView.tree c.args.view.now in
    let p = path_at t c.args.node in
    let i = c.loop-entry.index in
    let next = c.in-Some.ensures.is p i c.loop-entry.invariant.0 in
    let is = subst (IsRoute (tree_world (reading_of t)) p i) (ap (told_as (route_in t)) c.in-Ok.is) next.0 in
    let room = c.loop-entry.invariant.2 in
    let less : length_left c.next.new.self < length_left c.loop-entry.entries = subst (λ r. OnOk r (length_left c.next.new.self < length_left c.loop-entry.entries)) c.in-Ok.is c.in-Some.ensures.shorter in (
      next.1,
      going_on (routes_told (reading_of t) p) (answer (route_in t c.in-Ok.route)) is c.loop-entry.invariant.1 refl refl c.in_ok-put_line-in-Ok.ensures.written,
      omega (arith, room, less),
    )

pub returns-clause-written : goal.returns-clause-written
returns-clause-written g c =
    let t = g.V.TreeView.tree c.args.view.now in
    let p = path_at t c.args.node in
    going_ends (routes_told (reading_of t) p) (refuse NoInterrupts) (c.in_default.ensures.is p c.loop-entry.index c.loop-entry.invariant.0).0 c.loop-entry.invariant.1 refl
