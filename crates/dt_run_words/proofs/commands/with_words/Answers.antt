use Rattle.std.proofs.Common.{◌≡◌, ◌+◌, ◌∙◌, ◌||◌, drop, sym, ap}
use Rattle.std.proofs.lemmas.List.{drop_more, drop_all}
use Rattle.clap.specs.Words.{App, Rule, app_of, with_rule}
use Rattle.dt_run_words.specs.Usages.{with_words}
use Rattle.dt_run_words.specs.declared.commands.Kind.TheVariants.{Flag}
use Rattle.dt_run_words.specs.declared.commands.Word.{Word}
use Rattle.dt_run_words.proofs.WordLemmas.{nothing}
use Rattle.dt_run_words.proofs.commands.with_words.Goals as goal

-- no word
abbrev none : Word
none = record { kind = Flag; id = nothing; help = nothing }

pub loop-word-preserved : goal.loop-word-preserved
loop-word-preserved c =
    let ws = c.args.words.now in
    let i = c.loop-word.word-index in
    let before = app_of c.loop-word.command in
    let adds = c.in_ok-command.ensures in
    let added : app_of c.in_ok-command.command ≡ with_rule before _ = adds.shape c.arg.ensures.own ∙ ap (λ (rule : Rule). with_rule before rule) c.arg.ensures.rule in
    record {
      same = ap (λ (app : App). with_words app (drop (i + 1) ws)) added ∙ ap (with_words before) (sym (drop_more ws i none c.loop-word-test.true)) ∙ c.loop-word.invariant.same;
      plain = adds.globals ∙ (λ j. c.loop-word.invariant.plain j || c.arg.ensures.own j);
    }

pub returns : goal.returns
returns c = (
  ap (with_words (app_of c.loop-word.command)) (sym (drop_all c.loop-word.word-index c.args.words.now c.loop-word-test.false)) ∙ c.loop-word.invariant.same,
  c.loop-word.invariant.plain,
)
