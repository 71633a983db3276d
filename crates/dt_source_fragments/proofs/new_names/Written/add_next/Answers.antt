use Rattle.std.proofs.Common.{length, arith}
use Rattle.dt_source_fragments.proofs.NamesMade.{free_near}
use Rattle.dt_source_fragments.proofs.new_names.Written.add_next.Goals as goal

pub overflow_add-result : goal.overflow_add-result
overflow_add-result c =
    let near = free_near c.args.self.now (length c.args.self.now) c.args.next in
    omega (arith, c.in_ok-number.ensures)
