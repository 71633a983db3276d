use Rattle.std.proofs.Common.{◌+◌, drop, arith}
use Rattle.std.proofs.lemmas.List.{drop_all, drop_more}
use Rattle.dt_overlay_landing.proofs.ValuesKept.{writes_begun, next_write, writes_over}
use Rattle.dt_overlay_landing.proofs.values.Values.write_all.Goals as goal

pub loop-write-init : goal.loop-write-init
loop-write-init g c written all may = writes_begun (g.V.TreeView.tree c.args.object.now) c.args.self.now written c.args.writes.now all may

pub write-requires : goal.write-requires
write-requires g c =
    let xs = c.args.writes.now in
    let i = c.loop-write.write-index in
    let next = next_write (g.V.TreeView.tree c.args.object.now) c.loop-write.self c.requires.0 (drop i xs) (drop (i + 1) xs) _ c.requires.1 (drop_more xs i _ (omega arith))
    (c.loop-write.invariant c.requires.0 c.requires.1 c.requires.2) in
    (next.done, next.write, next.may)

pub loop-write-preserved : goal.loop-write-preserved
loop-write-preserved g c written all may =
    let xs = c.args.writes.now in
    let i = c.loop-write.write-index in
    let next = next_write (g.V.TreeView.tree c.args.object.now) c.loop-write.self written (drop i xs) (drop (i + 1) xs) _ all (drop_more xs i _ (omega arith))
    (c.loop-write.invariant written all may) in
    next.on c.write.new.self (c.in_ok-write.ensures next.done next.write next.may)

pub returns : goal.returns
returns g c written more may =
    let i = c.loop-write.write-index in
    writes_over (g.V.TreeView.tree c.args.object.now) c.loop-write.self written (drop i c.args.writes.now) more (drop_all i c.args.writes.now (omega arith)) (c.loop-write.invariant written more may)
