use Rattle.std.proofs.Common.{◌≡◌, None, Some, true, false, refl, codes, ◌∙◌}
use Rattle.dt_overlay_read.proofs.FragmentsTargets.{value_there, number_target, no_number, no_path}
use Rattle.dt_overlay_read.proofs.fragments.target_of.Goals as goal

pub returns-in-Some : goal.returns-in-Some
returns-in-Some g c f at =
    let t = g.V.TreeView.tree c.args.object.now in
    let value = c.in-Some.value.now in
    number_target t c.validity.ensures.places f c.args.node at value
    (value_there t c.validity.ensures.places f c.args.node at (codes "target") c.as_slice.result.now (Some value) c.as_slice.ensures c.in-Some.ensures) c.if-value-eq4.true

pub returns-in-Some-2 : goal.returns-in-Some-2
returns-in-Some-2 g c f at =
    let t = g.V.TreeView.tree c.args.object.now in
    let value = c.in-Some.value.now in
    no_number t c.validity.ensures.places f c.args.node at value
    (value_there t c.validity.ensures.places f c.args.node at (codes "target") c.as_slice.result.now (Some value) c.as_slice.ensures c.in-Some.ensures) c.if-value-eq4.false

pub returns-in_err-value-in-None : goal.returns-in_err-value-in-None
returns-in_err-value-in-None g c f at =
    let t = g.V.TreeView.tree c.args.object.now in
    let apart = c.validity.ensures.places in
    rw c.from_residual.ensures
    (no_path t apart f c.args.node at None (value_there t apart f c.args.node at (codes "target") c.as_slice.result.now None c.as_slice.ensures c.in-None.ensures)
    (value_there t apart f c.args.node at (codes "target-path") c.as_slice-in-None.result.now None c.as_slice-in-None.ensures c.in_err-value-in-None.ensures)
    (λ p w. let none : None ≡ Some w.0 = w.1 in absurd cc))

pub returns-then-not-is_path_value : goal.returns-then-not-is_path_value
returns-then-not-is_path_value g c f at =
    let t = g.V.TreeView.tree c.args.object.now in
    let apart = c.validity.ensures.places in
    let value = c.in_ok-value-in-None.value.now in
    no_path t apart f c.args.node at (Some value) (value_there t apart f c.args.node at (codes "target") c.as_slice.result.now None c.as_slice.ensures c.in-None.ensures)
    (value_there t apart f c.args.node at (codes "target-path") c.as_slice-in-None.result.now (Some value) c.as_slice-in-None.ensures c.in_ok-value-in-None.ensures)
    (λ p w.
    let same : value ≡ w.0 = (let both : Some value ≡ Some w.0 = w.1 in cc) in
    let yes : false ≡ true = c.if-not-is_path_value.ensures.1 (p, record { text = same ∙ w.2.text; named = w.2.named }) in
    absurd cc)

pub returns-else-not-is_path_value : goal.returns-else-not-is_path_value
returns-else-not-is_path_value g c f at =
    let t = g.V.TreeView.tree c.args.object.now in
    let apart = c.validity.ensures.places in
    let value = c.in_ok-value-in-None.value.now in (
      value_there t apart f c.args.node at (codes "target") c.as_slice.result.now None c.as_slice.ensures c.in-None.ensures,
      value_there t apart f c.args.node at (codes "target-path") c.as_slice-in-None.result.now (Some value) c.as_slice-in-None.ensures c.in_ok-value-in-None.ensures,
      c.if-not-is_path_value.ensures.0 refl,
    )
