use Rattle.std.proofs.Common.{sym, ◌∙◌, arith}
use Rattle.dt_grammar.specs.Faults.{outside}
use Rattle.dt_parse.specs.Reading.{IsBroken}
use Rattle.dt_grammar.specs.Wanted.{Whole, MoreHeaders, NextVersion}
use Rattle.dt_grammar.proofs.SameKinds.{same_next, other_next}
use Rattle.dt_parse.proofs.Leading.{handed_on, leads_then, leads_stop, shorter}
use Rattle.dt_parse.proofs.ReadHeaders.{header_leads, behind_headers, behind_headers_breaks}
use Rattle.dt_parse.proofs.parser.headers.Goals as goal

pub headers-init : goal.headers-init
headers-init c = c.in_ok-plugin.ensures.ok

pub headers-smaller : goal.headers-smaller
headers-smaller c =
    let e = sym c.kind.ensures ∙ same_next c.kind.result _ (sym c.headers-test.ensures) in
    let less = shorter c.headers.cursor _ _ e c.advance.ensures in
    let least = c.in_ok-next_header.ensures.shorter in
    omega (arith, less, least)

pub headers-preserved : goal.headers-preserved
headers-preserved c =
    let e = sym c.kind.ensures ∙ same_next c.kind.result _ (sym c.headers-test.ensures) in
    let p = c.in_ok-plugin.plugin in
    leads_then outside Whole c.args.cursor.now outside (MoreHeaders p) c.headers.cursor outside (MoreHeaders p) c.next_header.new.cursor c.headers.invariant
    (leads_then outside (MoreHeaders p) c.headers.cursor outside (NextVersion p) c.advance.new.self outside (MoreHeaders p) c.next_header.new.cursor
    (header_leads p _ _ e c.advance.ensures) c.in_ok-next_header.ensures.ok)

pub returns-in_err-next_header-clause-err : goal.returns-in_err-next_header-clause-err
returns-in_err-next_header-clause-err c =
    let e = sym c.kind.ensures ∙ same_next c.kind.result _ (sym c.headers-test.ensures) in
    let p = c.in_ok-plugin.plugin in
    handed_on c.from_residual-in_err-next_header.result c.in_err-next_header.field-0.0 (IsBroken outside Whole c.args.cursor.now) c.from_residual-in_err-next_header.ensures.1
    (leads_stop outside Whole c.args.cursor.now outside (MoreHeaders p) c.headers.cursor _ c.headers.invariant
    (leads_stop outside (MoreHeaders p) c.headers.cursor outside (NextVersion p) c.advance.new.self _
    (header_leads p _ _ e c.advance.ensures) c.in_err-next_header.ensures.err))

pub returns-clause-found : goal.returns-clause-found
returns-clause-found c =
    λ m left d. c.headers.invariant.follows _ (behind_headers c.in_ok-plugin.plugin c.headers.cursor (λ e. other_next c.kind.result _ (sym c.headers-test.ensures) (c.kind.ensures ∙ e)) m left d)

pub returns-clause-breaks : goal.returns-clause-breaks
returns-clause-breaks c =
    λ k left d. c.headers.invariant.breaks k left (behind_headers_breaks c.in_ok-plugin.plugin c.headers.cursor (λ e. other_next c.kind.result _ (sym c.headers-test.ensures) (c.kind.ensures ∙ e)) k left d)
