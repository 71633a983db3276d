use Rattle.dt_trees.specs.Placed.{path_at, reading_of}
use Rattle.std.proofs.Common.{◌≡◌, [], sym, ap, ◌∙◌}
use Rattle.dt_model.specs.Path.{Path}
use Rattle.dt_resolve_model.specs.declared.regions.BusAddress.{BusAddress}
use Rattle.dt_resolve_model.specs.Above.{front}
use Rattle.dt_resolve_model.specs.Answers.{Answer, refused, answer, ◌>>=◌}
use Rattle.dt_resolve_model.specs.World.{tree_world}
use Rattle.dt_resolve_model.specs.Regions.{risen, translated, finished, region_at}
use Rattle.dt_resolve_model.proofs.Told.{told_fault}
use Rattle.dt_ranges.proofs.Rising.{risen_once, front_shorter}
use Rattle.dt_ranges.proofs.translating.region_at.Goals as goal

pub returns-in_err-here : goal.returns-in_err-here
returns-in_err-here g c =
    let w = tree_world (reading_of (g.V.TreeView.tree c.args.view.now)) in
    let p = path_at (g.V.TreeView.tree c.args.view.now) c.loop-above.here.bus.node in
    let q = path_at (g.V.TreeView.tree c.args.view.now) c.in-Some.above in
    let size = c.args.size in
    let e = c.in_err-here.field-0.0 in
    let up = risen_once w c.args.name.now p q size c.loop-above.here.at c.in-Some.ensures.2 c.in-Some.ensures.1 in
    let done : refused e ≡ region_at w c.args.name.now (path_at (g.V.TreeView.tree c.args.view.now) c.args.bus.node) c.args.address c.args.size =
    ap (finished w size) (sym (up ∙ ap (λ (x : Answer BusAddress). x >>= translated w c.args.name.now [] q size) c.in_err-here.ensures)) ∙ c.loop-above.invariant.on in
    told_fault c.from_residual.result e (λ a. a) c.from_residual.ensures.1 ∙ done

pub loop-above-smaller : goal.loop-above-smaller
loop-above-smaller g c =
    let t = g.V.TreeView.tree c.args.view.now in
    front_shorter (path_at t c.loop-above.here.bus.node) (path_at t c.in_ok-here.here.bus.node) c.in-Some.ensures.2 (ap (path_at t) c.in_ok-here.ensures.1 ∙ c.in-Some.ensures.1)

pub loop-above-preserved : goal.loop-above-preserved
loop-above-preserved g c =
    let t = g.V.TreeView.tree c.args.view.now in
    let w = tree_world (reading_of t) in
    let p = path_at t c.loop-above.here.bus.node in
    let q = path_at t c.in-Some.above in
    let size = c.args.size in
    let up = risen_once w c.args.name.now p q size c.loop-above.here.at c.in-Some.ensures.2 c.in-Some.ensures.1 in
    record {
      there = c.in_ok-here.ensures.0;
      on = ap (finished w size) (ap (λ (x : Path). translated w c.args.name.now [] x size c.in_ok-here.here.at) (ap (path_at t) c.in_ok-here.ensures.1)
          ∙ sym (up ∙ ap (λ (x : Answer BusAddress). x >>= translated w c.args.name.now [] q size) c.in_ok-here.ensures.2)) ∙ c.loop-above.invariant.on;
    }
