use Rattle.std.proofs.Common.{subst}
use Rattle.std.specs.Prelude.{IfErr}
use Rattle.dt_model.specs.Tree.{Reading}
use Rattle.dt_names.specs.Fault.{IsMemoryOr}
use Rattle.dt_overlay_landing.specs.Turns.{LacksSite}
use Rattle.dt_overlay_landing.proofs.MarksMade.{marks_read}
use Rattle.dt_overlay_landing.proofs.sites.find_sites.Goals as goal

pub find_each_site-requires-clause-marked : goal.find_each_site-requires-clause-marked
find_each_site-requires-clause-marked g c =
    let read = c.requires.read.1 in (
      read.fixups,
      marks_read g.V.TreeView.tree (g.T.Target.reading c.args.target.now) c.requires.read.0 c.args.object.now read c.validity-2.ensures.places c.validity.ensures.cells
          c.deref.result.now c.deref-2.result.now c.in_ok-marks.marks.entries c.deref.ensures.value c.deref-2.ensures.value c.in_ok-marks.ensures,
    )

pub returns-clause-found : goal.returns-clause-found
returns-clause-found g c object read =
    let base = g.T.Target.reading c.args.target.now in
    let marked = marks_read g.V.TreeView.tree base object c.args.object.now read c.validity-2.ensures.places c.validity.ensures.cells
    c.deref.result.now c.deref-2.result.now c.in_ok-marks.marks.entries c.deref.ensures.value c.deref-2.ensures.value c.in_ok-marks.ensures in
    c.find_each_site.ensures.found read.fixups marked

pub returns-clause-refused : goal.returns-clause-refused
returns-clause-refused g c object read =
    let base = g.T.Target.reading c.args.target.now in
    let marked = marks_read g.V.TreeView.tree base object c.args.object.now read c.validity-2.ensures.places c.validity.ensures.cells
    c.deref.result.now c.deref-2.result.now c.in_ok-marks.marks.entries c.deref.ensures.value c.deref-2.ensures.value c.in_ok-marks.ensures in
    subst (λ (r : Reading). IfErr c.find_each_site.result (IsMemoryOr (LacksSite base r read.fixups))) read.seen.reads (c.find_each_site.ensures.refused read.fixups marked)
