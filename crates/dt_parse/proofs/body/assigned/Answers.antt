use Rattle.std.proofs.Common.{sym, ◌∙◌, ap, subst, ◌≡◌, ◌∷◌, ◌<◌, [], false, length}
use Rattle.std.proofs.lemmas.Result.{err_from_is_err_and, IfErr-weaker, on_ok_weaker}
use Rattle.dt_parse.specs.declared.body.Behind.TheVariants as behind
use Rattle.dt_grammar.specs.Words.{Words}
use Rattle.dt_grammar.specs.Unchecked.{raw_property}
use Rattle.dt_grammar.specs.Wanted.{kind_at, OneValue, made_value, made_places, AfterName}
use Rattle.dt_grammar.specs.Descent.{first, found, Descends}
use Rattle.dt_grammar.specs.Faults.{outside}
use Rattle.dt_parse.specs.Reading.{IsBroken}
use Rattle.dt_parse.specs.Nested.{behind_of, in_body}
use Rattle.dt_parse.proofs.Members.{err_is, ok_is_none, with_value, flag_shorter, flag_read, assigned_shorter, assigned_read, value_stops, unended}
use Rattle.dt_parse.proofs.body.assigned.Goals as goal

pub returns-in_err-value-in_default : goal.returns-in_err-value-in_default
returns-in_err-value-in_default c =
    let e = with_value c.behind_of.result c.kind.result (kind_at (first c.args.cursor.now)) c.behind_of.ensures c.kind.ensures c.in_default.not-End c.requires in
    let p = err_from_is_err_and c.from_residual.result c.from_residual.ensures.1 in
    record {
      ok = ok_is_none _ c.from_residual.result p.0 p.1;
      err = err_is _ c.from_residual.result _ p.0 p.1 p.2 (λ ls n outer. value_stops outer ls n c.args.cursor.now _ e (subst (λ (x : Words). IsBroken (in_body false outer) OneValue x c.in_err-value-in_default.field-0.0) c.advance-in_default.ensures (c.in_err-value-in_default.ensures.err (in_body false outer))));
    }

pub returns-in-End-clause-ok : goal.returns-in-End-clause-ok
returns-in-End-clause-ok c =
    let e : behind_of (kind_at (first c.args.cursor.now)) ≡ behind.End = sym (c.behind_of.ensures ∙ ap behind_of c.kind.ensures) ∙ c.in-End.is in (
      [],
      tt,
      c.begin_value.ensures,
      subst (λ (x : Words). length x < length c.args.cursor.now) (sym c.advance.ensures) (flag_shorter c.args.cursor.now e),
      λ ls n. subst (λ (x : Words). Descends (AfterName ls n) c.args.cursor.now (found (made_places (raw_property ls n [] ∷ [])) x)) (sym c.advance.ensures) (flag_read ls n c.args.cursor.now e),
    )

pub returns-in_ok-value-in_default : goal.returns-in_ok-value-in_default
returns-in_ok-value-in_default c =
    let e = with_value c.behind_of.result c.kind.result (kind_at (first c.args.cursor.now)) c.behind_of.ensures c.kind.ensures c.in_default.not-End c.requires in
    let h = c.in_ok-value-in_default.ensures.ok in
    let d = subst (λ (x : Words). Descends OneValue x (found (made_value h.0) c.value.new.cursor)) c.advance-in_default.ensures (h.1 outside).read in
    record {
      ok = on_ok_weaker c.expect.result
          (λ s. (
            h.0,
            (h.1 outside).fine,
            h.2,
            subst (λ (x : Words). length x < length c.args.cursor.now) (sym s.1) (assigned_shorter c.args.cursor.now c.value.new.cursor h.0 e d s.0),
            λ ls n. subst (λ (x : Words). Descends (AfterName ls n) c.args.cursor.now (found (made_places (raw_property ls n h.0 ∷ [])) x)) (sym s.1) (assigned_read ls n c.args.cursor.now c.value.new.cursor h.0 e d s.0),
          ))
          c.expect.ensures.ok;
      err = IfErr-weaker c.expect.result _ _
          (λ stop b ls n outer. unended outer ls n c.args.cursor.now c.value.new.cursor h.0 stop e d (h.1 outside).fine b.0 b.1 b.2)
          c.expect.ensures.err;
    }
