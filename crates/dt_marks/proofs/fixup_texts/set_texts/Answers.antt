use Rattle.std.proofs.Common.{◌≡◌, true, false, sym, ◌∙◌, subst}
use Rattle.std.specs.List.{AllByRecursion}
use Rattle.std.proofs.lemmas.Result.{err_from_is_err_and}
use Rattle.dt_model.specs.Names.{IsLabel}
use Rattle.dt_model.specs.Tree.{Property}
use Rattle.dt_flat.proofs.Linking.{drop_item}
use Rattle.dt_flat.proofs.PlainProperties.{plain_refused}
use Rattle.dt_marks.proofs.Setting.{label_is_name, property_turn_left}
use Rattle.dt_marks.proofs.fixup_texts.set_texts.Goals as goal

pub returns-in_err-name-clause-refused : goal.returns-in_err-name-clause-refused
returns-in_err-name-clause-refused c =
    let next = drop_item c.args.table.now c.loop-place.place _ c.at.ensures in
    let labels = subst (AllByRecursion (λ (p : Property). IsLabel p.name)) next c.loop-place.invariant.labels in
    let impossible : false ≡ true = c.in_err-name.ensures.valid.1 (label_is_name _ labels.0) in
    cc

pub returns-in_err-set_prop-clause-refused : goal.returns-in_err-set_prop-clause-refused
returns-in_err-set_prop-clause-refused c =
    let next = drop_item c.args.table.now c.loop-place.place _ c.at.ensures in
    let labels = subst (AllByRecursion (λ (p : Property). IsLabel p.name)) next c.loop-place.invariant.labels in
    let label = subst IsLabel (sym c.in_ok-name.ensures.value) labels.0 in
    let why = c.in_err-set_prop.ensures.refused in
    let p = err_from_is_err_and c.from_residual-in_err-set_prop.result c.from_residual-in_err-set_prop.ensures.1 in
    rw (p.1, p.2) (plain_refused _ _ _ _ _ label.not_phandle why.0, why.1)

pub loop-place-preserved : goal.loop-place-preserved
loop-place-preserved c =
    let x : Property = record { name = c.at.result.0.now; value = c.at.result.1.now } in
    let next = drop_item c.args.table.now c.loop-place.place x c.at.ensures in
    let labels = subst (AllByRecursion (λ (p : Property). IsLabel p.name)) next c.loop-place.invariant.labels in
    let turn = property_turn_left c.loop-place.tree c.set_prop.new.self c.args.node c.args.table.now c.loop-place.place x c.in_ok-name.name c.loop-place.invariant.there
    c.in_ok-name.ensures.value next c.in_ok-set_prop.ensures.ok in
    record { there = turn.0; labels = labels.1; same = turn.1 ∙ c.loop-place.invariant.same }
