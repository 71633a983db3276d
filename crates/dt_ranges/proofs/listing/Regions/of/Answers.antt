use Rattle.std.proofs.Common.{sym, ◌∙◌, arith}
use Rattle.dt_names.specs.declared.fault.FaultKind.TheVariants.{NoReg}
use Rattle.dt_trees.specs.Placed.{path_at, reading_of}
use Rattle.dt_resolve_model.proofs.Told.{refuses, if_fault}
use Rattle.dt_ranges.proofs.Listed.{region_unlisted, region_refused, listed_left}
use Rattle.dt_ranges.proofs.listing.Regions.of.Goals as goal

pub returns-in_default-clause-refused : goal.returns-in_default-clause-refused
returns-in_default-clause-refused g c =
    let t = g.V.TreeView.tree c.args.view.now in
    λ i. region_unlisted (reading_of t) (path_at t c.args.node) i c.in_default.ensures ∙ sym (refuses c.of.result NoReg c.of.ensures.kind c.of.ensures.at)

pub returns-in_err-own-clause-refused : goal.returns-in_err-own-clause-refused
returns-in_err-own-clause-refused g c =
    let t = g.V.TreeView.tree c.args.view.now in
    let e = c.in_err-own.field-0.0 in
    if_fault c.from_residual.result e _ c.from_residual.ensures.1
    (λ i. region_refused (reading_of t) (path_at t c.args.node) (path_at t c.in-Some-parent.bus) i c.in-Some.reg.now e c.in-Some-parent.ensures.2 c.in-Some-parent.ensures.1 c.in-Some.ensures c.in_err-own.ensures.is)

pub returns-clause-left : goal.returns-clause-left
returns-clause-left g c =
    let t = g.V.TreeView.tree c.args.view.now in
    let own = c.in_ok-own.own in
    let few = c.in_ok-own.ensures.few in
    record {
      bus = c.in-Some-parent.ensures.0;
      cells = sym c.in_ok-own.ensures.is;
      address = few.0;
      size = few.1;
      long = search arith;
      left = λ k. listed_left (reading_of t) (path_at t c.args.node) (path_at t c.in-Some-parent.bus) c.in-Some.reg.now own k c.in-Some-parent.ensures.2 c.in-Some-parent.ensures.1 c.in-Some.ensures c.in_ok-own.ensures.is (omega (arith, c.if-width-eq0.false)) c.if-reg-width-ne0.false;
    }
