use Rattle.dt_bytes.proofs.Placed.{placed}
use Rattle.std.specs.Int.{w32, to_be_bytes}
use Rattle.dt_bytes.proofs.put32.Goals as goal

pub returns-clause-number : goal.returns-clause-number
returns-clause-number c = placed c.args.bytes.now c.write_u32.new.buf (to_be_bytes w32 c.args.number) c.args.at c.write_u32.ensures
