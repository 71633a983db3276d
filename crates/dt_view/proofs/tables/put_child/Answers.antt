use Rattle.dt_view.proofs.Children.{child_from_updates}
use Rattle.dt_view.proofs.tables.put_child.Goals as goal

pub returns-in_ok-insert : goal.returns-in_ok-insert
returns-in_ok-insert c = rw c.in-Some.is (child_from_updates c.args.children.now c.insert.new.self (c.in-Some.above, c.args.name) c.args.node c.in_ok-insert.ensures.updates)
