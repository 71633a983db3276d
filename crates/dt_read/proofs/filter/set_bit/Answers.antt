use Rattle.dt_read.proofs.TableBits.{with_bit_at, number_put, number_kept}
use Rattle.dt_read.proofs.filter.set_bit.Goals as goal

pub returns-clause-put : goal.returns-clause-put
unfolding with_bit_at
returns-clause-put c = number_put c.args.words.now c.args.number c.requires.some

pub returns-clause-kept : goal.returns-clause-kept
unfolding with_bit_at
returns-clause-kept c = λ n. number_kept c.args.words.now c.args.number n c.requires.some
