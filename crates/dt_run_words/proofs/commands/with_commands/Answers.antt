use Rattle.std.proofs.Common.{◌≡◌, ◌+◌, ◌∙◌, [], drop, sym, ap}
use Rattle.std.proofs.lemmas.List.{drop_more, drop_all}
use Rattle.clap.specs.Words.{App, app_of, with_subcommand}
use Rattle.dt_run_words.specs.Usages.{with_commands}
use Rattle.dt_run_words.specs.declared.commands.Usage.{Usage}
use Rattle.dt_run_words.proofs.WordLemmas.{nothing}
use Rattle.dt_run_words.proofs.commands.with_commands.Goals as goal

-- no command
abbrev none : Usage
none = record { name = nothing; about = nothing; end = nothing; words = record { ref_ptr = (0, 0); now = [] } }

pub loop-usage-preserved : goal.loop-usage-preserved
loop-usage-preserved c =
    let us = c.args.usages.now in
    let i = c.loop-usage.usage-index in
    let before = app_of c.loop-usage.tool in
    let made = c.in_ok-command.ensures in
    let added : app_of c.in_ok-tool.tool ≡ with_subcommand before _ = c.in_ok-tool.ensures.shape made.1 ∙ ap (λ (part : App). with_subcommand before part.top) made.0 in
    record {
      same = ap (λ (app : App). with_commands app (drop (i + 1) us)) added ∙ ap (with_commands before) (sym (drop_more us i none c.loop-usage-test.true)) ∙ c.loop-usage.invariant.same;
    }

pub returns : goal.returns
returns c = ap (with_commands (app_of c.loop-usage.tool)) (sym (drop_all c.loop-usage.usage-index c.args.usages.now c.loop-usage-test.false)) ∙ c.loop-usage.invariant.same
