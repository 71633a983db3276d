-- The words that are left give all.
use Rattle.std.proofs.Common.{◌≡◌, drop, false}
use Rattle.clap.specs.Words.{app_of}
use Rattle.clap.specs.declared.builder.command.Command.{out-Command}
use Rattle.dt_run_words.specs.Usages.{with_words}
use Rattle.dt_run_words.proofs.commands.with_words.Given as goal

abbrev pub invariant-loop-word : goal.invariant-loop-word
invariant-loop-word l = record {
  same : with_words (app_of l.command) (drop l.word-index l.words) ≡ with_words (app_of l.fn.command) l.words;
  plain : (out-Command l.command).has_globals ≡ false;
}
