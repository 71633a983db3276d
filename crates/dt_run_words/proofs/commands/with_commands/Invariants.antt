-- The commands that are left give all.
use Rattle.std.proofs.Common.{◌≡◌, drop}
use Rattle.clap.specs.Words.{app_of}
use Rattle.dt_run_words.specs.Usages.{with_commands}
use Rattle.dt_run_words.proofs.commands.with_commands.Given as goal

abbrev pub invariant-loop-usage : goal.invariant-loop-usage
invariant-loop-usage l = record {
  same : with_commands (app_of l.tool) (drop l.usage-index l.usages) ≡ with_commands (app_of l.fn.tool) l.usages;
}
