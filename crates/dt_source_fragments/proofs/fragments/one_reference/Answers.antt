use Rattle.std.proofs.Common.{arith}
use Rattle.dt_source_fragments.proofs.FragmentSteps.{one_piece, no_bytes}
use Rattle.dt_source_fragments.proofs.fragments.one_reference.Goals as goal

pub returns-then-len-ne1 : goal.returns-then-len-ne1
returns-then-len-ne1 c = λ r e. let one = one_piece c.args.value.now r e in absurd (omega (arith, one, c.len.ensures, c.if-len-ne1.true))

pub returns-then-len-gt0 : goal.returns-then-len-gt0
returns-then-len-gt0 c = λ r e. absurd (omega (arith, no_bytes c.args.value.now r e, c.len-2.ensures, c.if-len-gt0.true))
