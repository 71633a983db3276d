use Rattle.std.proofs.Common.{sym, ◌∙◌, true, false}
use Rattle.std.proofs.lemmas.Bool.{not-true, not-false}
use Rattle.dt_grammar.specs.Faults.{outside}
use Rattle.dt_parse.specs.Reading.{IsBroken}
use Rattle.dt_grammar.specs.Wanted.{Whole, AfterVersion, AfterHeader, PluginEnd, MoreHeaders}
use Rattle.dt_grammar.proofs.SameKinds.{same_next, other_next}
use Rattle.dt_parse.proofs.Leading.{handed_on, leads_then, leads_stop}
use Rattle.dt_parse.proofs.ReadHeaders.{whole_stop, whole_leads, version_stop, version_leads, first_plugin_leads, no_plugin_leads, plugin_stop, plugin_leads}
use Rattle.dt_parse.proofs.parser.first_header.Goals as goal

pub returns-in_err-expect-clause-err : goal.returns-in_err-expect-clause-err
returns-in_err-expect-clause-err c =
    let e = c.in_err-expect.ensures.err in
    handed_on c.from_residual.result c.in_err-expect.field-0.0 (IsBroken outside Whole c.args.cursor.now) c.from_residual.ensures.1 (whole_stop c.args.cursor.now _ e.0 e.1 e.2)

pub returns-in_err-expect-2-clause-err : goal.returns-in_err-expect-2-clause-err
returns-in_err-expect-2-clause-err c =
    let e = c.in_err-expect-2.ensures.err in
    let o = c.in_ok-expect.ensures.ok in
    handed_on c.from_residual-in_err-expect-2.result c.in_err-expect-2.field-0.0 (IsBroken outside Whole c.args.cursor.now) c.from_residual-in_err-expect-2.ensures.1
    (leads_stop outside Whole c.args.cursor.now outside AfterVersion _ _ (whole_leads _ _ o.0 o.1) (version_stop _ _ e.0 e.1 e.2))

pub returns-then-ne-clause-ok : goal.returns-then-ne-clause-ok
returns-then-ne-clause-ok c =
    let o = c.in_ok-expect.ensures.ok in
    let s = c.in_ok-expect-2.ensures.ok in
    leads_then outside Whole c.args.cursor.now outside AfterVersion c.expect.new.self outside (MoreHeaders false) _ (whole_leads _ _ o.0 o.1)
    (leads_then outside AfterVersion c.expect.new.self outside AfterHeader c.expect-2.new.self outside (MoreHeaders false) _ (version_leads _ _ s.0 s.1)
    (no_plugin_leads _ (λ e. other_next c.kind.result _ (not-true _ (sym c.if-ne.ensures)) (c.kind.ensures ∙ e))))

pub returns-in_err-expect-3-clause-err : goal.returns-in_err-expect-3-clause-err
returns-in_err-expect-3-clause-err c =
    let e = c.in_err-expect-3.ensures.err in
    let o = c.in_ok-expect.ensures.ok in
    let s = c.in_ok-expect-2.ensures.ok in
    handed_on c.from_residual-in_err-expect-3.result c.in_err-expect-3.field-0.0 (IsBroken outside Whole c.args.cursor.now) c.from_residual-in_err-expect-3.ensures.1
    (leads_stop outside Whole c.args.cursor.now outside AfterVersion c.expect.new.self _ (whole_leads _ _ o.0 o.1)
    (leads_stop outside AfterVersion c.expect.new.self outside AfterHeader c.expect-2.new.self _ (version_leads _ _ s.0 s.1)
    (leads_stop outside AfterHeader c.expect-2.new.self outside PluginEnd c.advance.new.self _
    (first_plugin_leads _ _ (sym c.kind.ensures ∙ same_next c.kind.result _ (not-false _ (sym c.if-ne.ensures))) c.advance.ensures)
    (plugin_stop _ _ e.0 e.1 e.2))))

pub returns-clause-ok : goal.returns-clause-ok
returns-clause-ok c =
    let o = c.in_ok-expect.ensures.ok in
    let s = c.in_ok-expect-2.ensures.ok in
    let t = c.in_ok-expect-3.ensures.ok in
    leads_then outside Whole c.args.cursor.now outside AfterVersion c.expect.new.self outside (MoreHeaders true) _ (whole_leads _ _ o.0 o.1)
    (leads_then outside AfterVersion c.expect.new.self outside AfterHeader c.expect-2.new.self outside (MoreHeaders true) _ (version_leads _ _ s.0 s.1)
    (leads_then outside AfterHeader c.expect-2.new.self outside PluginEnd c.advance.new.self outside (MoreHeaders true) _
    (first_plugin_leads _ _ (sym c.kind.ensures ∙ same_next c.kind.result _ (not-false _ (sym c.if-ne.ensures))) c.advance.ensures)
    (plugin_leads _ _ t.0 t.1)))
