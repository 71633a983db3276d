use Rattle.std.proofs.Common.{sym}
use Rattle.std.proofs.lemmas.List.{take_rest}
use Rattle.dt_marks_read.proofs.MirrorWalks.{first_word, no_word}
use Rattle.dt_marks_read.proofs.listed_locals.next_word.Goals as goal

pub returns-in_err-word : goal.returns-in_err-word
returns-in_err-word c = rw c.from_residual.ensures (no_word c.args.bytes.now (sym c.in_err-word.ensures))

pub returns : goal.returns
returns c = rw (take_rest c.args.bytes.now 4) (first_word c.args.bytes.now c.in_ok-word.word (sym c.in_ok-word.ensures))
