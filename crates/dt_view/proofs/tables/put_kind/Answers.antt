use Rattle.dt_view.proofs.Kinded.{puts_from_updates}
use Rattle.dt_view.proofs.tables.put_kind.Goals as goal

pub returns : goal.returns
returns c = λ k x. puts_from_updates c.args.kinds.now c.insert.new.self (c.args.node, c.args.name) _ c.in_ok-insert.ensures.updates k x
