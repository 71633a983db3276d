use Rattle.std.proofs.Common.{sym, ◌∙◌, ap, subst, ◌++◌, map}
use Rattle.std.proofs.lemmas.Result.{err_from_is_err_and}
use Rattle.dt_source_items.specs.Gathered.{Gathered}
use Rattle.dt_grammar.specs.Unchecked.{place_meant}
use Rattle.dt_grammar.specs.Wanted.{StatementThen, Top, Whole}
use Rattle.dt_grammar.specs.Faults.{outside}
use Rattle.dt_parse.specs.Reading.{IsBroken}
use Rattle.dt_parse.proofs.Stopping.{stops_too}
use Rattle.dt_parse.proofs.Parsing.{whole_read, whole_says, whole_spelled}
use Rattle.dt_parse.proofs.parser.source.Goals as goal

pub returns-in_err-reservations-clause-err : goal.returns-in_err-reservations-clause-err
returns-in_err-reservations-clause-err c =
    let e = err_from_is_err_and c.from_residual-in_err-reservations.result c.from_residual-in_err-reservations.ensures.1 in
    let b = stops_too outside outside Top Whole c.headers.new.cursor c.args.cursor.now c.in_err-reservations.field-0.0 c.in_ok-plugin.ensures.breaks c.in_err-reservations.ensures.err in
    rw e.1 (subst (IsBroken outside Whole c.args.cursor.now) (sym e.2) b)

pub returns-in_err-statements-clause-err : goal.returns-in_err-statements-clause-err
returns-in_err-statements-clause-err c =
    let r = c.in_ok-reservations.ensures.ok in
    let e = err_from_is_err_and c.from_residual-in_err-statements.result c.from_residual-in_err-statements.ensures.1 in
    let a = c.in_err-statements.ensures.err r.1 r.5 r.3 in
    let b = stops_too outside outside (StatementThen r.1) Whole c.reservations.new.cursor c.args.cursor.now c.in_err-statements.field-0.0 (λ k left d. c.in_ok-plugin.ensures.breaks k left (r.7 k left d)) a in
    rw e.1 (subst (IsBroken outside Whole c.args.cursor.now) (sym e.2) b)

pub of-requires : goal.of-requires
of-requires c =
    let r = c.in_ok-reservations.ensures.ok in
    let s = c.in_ok-statements.ensures.ok r.1 r.5 r.3 in
    let read = whole_read c.args.cursor.now c.headers.new.cursor c.reservations.new.cursor c.in_ok-plugin.plugin r.0 r.1 s.0 c.in_ok-plugin.ensures.found r.6 r.2 s.1 in
    let places = ap (λ (g : Gathered). g.places) c.shrink_to_fit.ensures ∙ s.2 ∙ ap (λ (g : Gathered). g.places ++ map place_meant s.0) c.new-items.ensures in
    (c.args.cursor.now, c.requires, whole_spelled c.args.cursor.now c.in_ok-plugin.plugin c.in_ok-reservations.reservations.items c.shrink_to_fit.new.self.places r.0 s.0 r.4 places read)

pub returns-clause-ok : goal.returns-clause-ok
returns-clause-ok c =
    let r = c.in_ok-reservations.ensures.ok in
    let s = c.in_ok-statements.ensures.ok r.1 r.5 r.3 in
    let read = whole_read c.args.cursor.now c.headers.new.cursor c.reservations.new.cursor c.in_ok-plugin.plugin r.0 r.1 s.0 c.in_ok-plugin.ensures.found r.6 r.2 s.1 in
    let places = ap (λ (g : Gathered). g.places) c.shrink_to_fit.ensures ∙ s.2 ∙ ap (λ (g : Gathered). g.places ++ map place_meant s.0) c.new-items.ensures in (
      record { plugin = c.in_ok-plugin.plugin; reserves = r.0; places = s.0 },
      read,
      c.of.ensures ∙ whole_says c.in_ok-plugin.plugin c.in_ok-reservations.reservations.items c.shrink_to_fit.new.self.places r.0 s.0 r.4 places,
    )
