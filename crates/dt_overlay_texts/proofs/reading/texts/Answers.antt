use Rattle.std.proofs.Common.{rules, ◌≢◌}
use Rattle.dt_overlay_texts.proofs.TextCuts.{texts_there, none_of_nothing, none_of_other}
use Rattle.dt_overlay_texts.proofs.reading.texts.Goals.{in_default-via-in-Some+in_default, in_default-via-in_default}
use Rattle.dt_overlay_texts.proofs.reading.texts.Goals as goal

pub returns-in_default : goal.returns-in_default
returns-in_default c =
    elim c.in_default.branch [
      | in_default-via-in-Some+in_default w ↦
          let last = w.in_default.field-0 in
          let is = rw w.in_default.is at c.split_last.ensures.cases in
          let other : last.0.now ≢ 0 = search rules in
          none_of_other c.args.value.now last.1.now last.0.now is.0 other
      | in_default-via-in_default w ↦ none_of_nothing c.args.value.now (rw w.in_default.is at c.split_last.ensures.cases)
    ]

pub returns : goal.returns
returns c =
    let last = c.in-Some-eq0-default in
    texts_there c.args.value.now last.field-0-1.now last.field-0-0.now last.ensures.cases.0 last.field-0-0-test
