use Rattle.std.proofs.Common.{◌∙◌, ap, subst, List, arith}
use Rattle.dt_flat.specs.Rows.{Held, held, put, IsEntered}
use Rattle.dt_flat.proofs.TableLemmas.{place-within, put-place, put-push}
use Rattle.dt_flat.proofs.properties.PropertyTable.set.Goals as goal

pub move_last-requires : goal.move_last-requires
move_last-requires c =
    (c.self.inside.values, c.args.value.now, c.in_ok-push.ensures.ok, omega (arith, place-within c.args.node c.args.name c.in-Ok-Some.place c.self.inside.rows (subst (IsEntered c.args.node c.args.name c.self.inside.rows c.enter.new.self) c.in-Ok-Some.field-0-is c.in-Ok-Some.ensures.entered).0, c.self.invariant))

pub returns-in-Ok-None-clause-ok : goal.returns-in-Ok-None-clause-ok
returns-in-Ok-None-clause-ok c =
    let v = c.args.value.now in
    let row = subst (IsEntered c.args.node c.args.name c.self.inside.rows c.enter.new.self) c.in-Ok-None.field-0-is c.in-Ok-None.ensures.entered in
    (λ i. held (row.1 i) (c.in_ok-push.ensures.ok i)) ∙ put-push c.args.node c.args.name c.self.inside.rows c.self.inside.values v c.self.invariant row.0 ∙ ap (λ (hs : List Held). put hs c.args.node c.args.name v) c.self.view_is

pub returns-in-Ok-Some-clause-ok : goal.returns-in-Ok-Some-clause-ok
returns-in-Ok-Some-clause-ok c =
    let v = c.args.value.now in
    let row = subst (IsEntered c.args.node c.args.name c.self.inside.rows c.enter.new.self) c.in-Ok-Some.field-0-is c.in-Ok-Some.ensures.entered in
    (λ i. held (row.1 i) (c.move_last.ensures c.self.inside.values v c.in_ok-push.ensures.ok i))
    ∙ put-place c.args.node c.args.name c.in-Ok-Some.place c.self.inside.rows c.self.inside.values v c.self.invariant row.0
    ∙ ap (λ (hs : List Held). put hs c.args.node c.args.name v) c.self.view_is
