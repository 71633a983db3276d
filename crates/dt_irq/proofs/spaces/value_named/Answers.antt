use Rattle.std.proofs.Common.{◌<◌, ◌++◌, length, length-append, ap, arith}
use Rattle.dt_trees.specs.Placed.{path_at, reading_of}
use Rattle.dt_irq.proofs.LongNames.{too_long}
use Rattle.dt_irq.proofs.spaces.value_named.Goals as goal

pub returns-then-not-joined : goal.returns-then-not-joined
returns-then-not-joined g c =
    let t = g.V.TreeView.tree c.args.view.now in
    let before = c.args.before.now in
    let kind = c.args.kind.now in
    let behind = c.args.behind.now in
    let long : 255 < length (c.new-name.result.items ++ before) = c.if-not-joined.ensures.long in
    too_long (reading_of t) (path_at t c.args.node) (before ++ kind ++ behind) c.validity.ensures.valid
    (omega (arith, long, ap length c.new-name.ensures, length-append c.new-name.result.items before, length-append before kind, length-append (before ++ kind) behind))

pub returns-then-not-joined-2 : goal.returns-then-not-joined-2
returns-then-not-joined-2 g c =
    let t = g.V.TreeView.tree c.args.view.now in
    let before = c.args.before.now in
    let kind = c.args.kind.now in
    let behind = c.args.behind.now in
    let long : 255 < length (c.joined.new.name.items ++ kind) = c.if-not-joined-2.ensures.long in
    too_long (reading_of t) (path_at t c.args.node) (before ++ kind ++ behind) c.validity.ensures.valid
    (omega (arith, long, ap length c.new-name.ensures, ap length c.if-not-joined.ensures.joined, length-append c.new-name.result.items before, length-append c.joined.new.name.items kind, length-append before kind, length-append (before ++ kind) behind))

pub returns-then-not-joined-3 : goal.returns-then-not-joined-3
returns-then-not-joined-3 g c =
    let t = g.V.TreeView.tree c.args.view.now in
    let before = c.args.before.now in
    let kind = c.args.kind.now in
    let behind = c.args.behind.now in
    let long : 255 < length (c.joined-2.new.name.items ++ behind) = c.if-not-joined-3.ensures.long in
    too_long (reading_of t) (path_at t c.args.node) (before ++ kind ++ behind) c.validity.ensures.valid
    (omega (
      arith,
      long,
      ap length c.new-name.ensures,
      ap length c.if-not-joined.ensures.joined,
      ap length c.if-not-joined-2.ensures.joined,
      length-append c.new-name.result.items before,
      length-append c.joined.new.name.items kind,
      length-append c.joined-2.new.name.items behind,
      length-append before kind,
      length-append (before ++ kind) behind,
    ))
