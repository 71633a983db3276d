-- The tool's commands, as the table of them says.
use Rattle.std.specs.Prelude.{List, [], ◌∷◌}
use Rattle.clap.specs.Words.{App, Rule, Text, new_app, with_rule, with_subcommand}
use Rattle.dt_run_words.specs.Words.{each_word, flag, number_word, text_word}
use Rattle.dt_run_words.specs.declared.commands.Kind.{Kind}
use Rattle.dt_run_words.specs.declared.commands.Kind.TheVariants.{Flag, One, Number, Each}
use Rattle.dt_run_words.specs.declared.commands.Usage.{Usage}
use Rattle.dt_run_words.specs.declared.commands.Word.{Word}

-- how a word is read
abbrev pub rule_by : Kind → Text → Rule
rule_by Flag id = flag id
rule_by One id = text_word id
rule_by Number id = number_word id
rule_by Each id = each_word id

abbrev pub rule_of_word : Word → Rule
rule_of_word w = rule_by w.kind w.id.now

-- a command with these words
abbrev pub with_words : App → List Word → App
with_words app [] = app
with_words app (w ∷ ws) = with_words (with_rule app (rule_of_word w)) ws

abbrev pub command_said : Usage → App
command_said u = with_words (new_app u.name.now) u.words.now

-- a tool with these commands
abbrev pub with_commands : App → List Usage → App
with_commands app [] = app
with_commands app (u ∷ us) = with_commands (with_subcommand app (command_said u).top) us
