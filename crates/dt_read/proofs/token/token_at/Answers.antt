use Rattle.std.proofs.Common.{arith}
use Rattle.dt_read.proofs.Tokens.{found_takes}
use Rattle.dt_read.proofs.token.token_at.Goals as goal

pub returns-clause-takes : goal.returns-clause-takes
returns-clause-takes c = found_takes c.args.strings.now c.args.bytes.now c.token_of.result (λ i. omega (arith, c.type_inv.bytes i)) c.token_of.ensures
