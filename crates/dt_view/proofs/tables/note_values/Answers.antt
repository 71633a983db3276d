use Rattle.std.proofs.Common.{codes, sym, ap, ◌∙◌}
use Rattle.std.specs.Option.{option_copied}
use Rattle.dt_model.specs.Tree.{Property, value_of}
use Rattle.dt_read.specs.Walked.{leading, past_leading}
use Rattle.dt_view.proofs.Kinded.{keeping_next, keeping_all}
use Rattle.dt_view.proofs.Led.{past_none}
use Rattle.dt_view.proofs.Valued.{noting_next, noting_all, found_next, found_all}
use Rattle.dt_view.proofs.tables.note_values.Goals as goal

pub loop-name-preserved : goal.loop-name-preserved
loop-name-preserved c =
    let whole = leading c.args.steps.now in
    let left = leading c.loop-name.steps in
    let rest = leading c.next_property.new.self in
    let e = ap leading c.in-Some.ensures in
    let property : Property = record { name = c.in-Some.name.now; value = c.in-Some.value.now } in (
      noting_next c.args.values.now.items c.loop-name.values.items c.note_property.new.values.items property left rest whole e c.loop-name.invariant.0 c.in_ok-note_property.ensures.noted,
      keeping_next c.args.node whole property left rest c.args.kinds.now.entries c.loop-name.kinds.entries c.note_property.new.kinds.entries c.requires e c.loop-name.invariant.1 c.in_ok-note_property.ensures.kept,
      found_next (option_copied c.loop-name.phandle) (option_copied c.phandle_after-phandle.result) (value_of whole (codes "phandle")) property left rest (codes "phandle") e c.phandle_after-phandle.ensures c.loop-name.invariant.2,
      sym (ap past_leading c.in-Some.ensures) ∙ c.loop-name.invariant.3,
    )

pub returns-clause-left : goal.returns-clause-left
returns-clause-left c = c.in_default.ensures.1 ∙ sym (past_none c.loop-name.steps c.in_default.ensures.0) ∙ c.loop-name.invariant.3

pub returns-clause-noted : goal.returns-clause-noted
returns-clause-noted c = noting_all c.args.values.now.items c.loop-name.values.items (leading c.loop-name.steps) (leading c.args.steps.now) c.in_default.ensures.0 c.loop-name.invariant.0

pub returns-clause-kept : goal.returns-clause-kept
returns-clause-kept c = keeping_all c.args.node (leading c.args.steps.now) (leading c.loop-name.steps) c.args.kinds.now.entries c.loop-name.kinds.entries c.in_default.ensures.0 c.loop-name.invariant.1

pub returns-clause-phandle : goal.returns-clause-phandle
returns-clause-phandle c =
    found_all (option_copied c.loop-name.phandle) (value_of (leading c.args.steps.now) (codes "phandle")) (leading c.loop-name.steps) (codes "phandle") c.in_default.ensures.0 c.loop-name.invariant.2
