use Rattle.std.proofs.Common.{refl, codes}
use Rattle.clap.specs.Words.{found_of}
use Rattle.dt_run_words.proofs.WordLemmas.{is_text, no_text}
use Rattle.dt_run_words.proofs.words.dma_of.Goals as goal

pub returns-in_default : goal.returns-in_default
returns-in_default c = λ path address size words. no_text (found_of c.args.found.now) (codes "PATH") path.now c.in_default.ensures words.0

pub returns-in_default-number_of : goal.returns-in_default-number_of
returns-in_default-number_of c = λ path address size words. c.in_default-number_of.ensures address words.1

pub returns-in_default-number_of-2 : goal.returns-in_default-number_of-2
returns-in_default-number_of-2 c = λ path address size words. c.in_default-number_of-2.ensures size words.2

pub returns : goal.returns
returns c = (refl, refl, (is_text (found_of c.args.found.now) (codes "PATH") c.in-Some.path.now c.in-Some.ensures, c.in-Some-number_of.ensures, c.in-Some-number_of-2.ensures))
