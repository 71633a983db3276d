use Rattle.std.proofs.Common.{◌≡◌, Some, slice_get, sym, ap, ◌∙◌}
use Rattle.std.proofs.lemmas.Result.{err_from_is_err_and}
use Rattle.std.proofs.lemmas.Option.{slice_get-get_or}
use Rattle.dt_source_growing.specs.declared.growing.Property.{Property}
use Rattle.dt_source_nodes.proofs.ContentSteps.{property_read, unread_property}
use Rattle.dt_source_nodes.proofs.values.Resolver.property_there.Goals as goal

pub returns-in_err-value : goal.returns-in_err-value
returns-in_err-value c =
    let properties = c.args.self.now.growing.now.properties.items in
    let q = c.index-property.result.now in
    let there : slice_get properties c.args.index ≡ Some q =
    slice_get-get_or properties c.args.index q c.requires.inside ∙ ap (λ (p : Property). Some p) (sym c.index-property.ensures) in
    let e = err_from_is_err_and c.from_residual.result c.from_residual.ensures.1 in
    rw (e.1, e.2) (unread_property c.args.self.now.unnamed c.args.self.now.growing.now c.args.index q c.in_err-value.field-0.0 there c.in_err-value.ensures)

pub returns : goal.returns
returns c =
    let properties = c.args.self.now.growing.now.properties.items in
    let q = c.index-property.result.now in
    let there : slice_get properties c.args.index ≡ Some q =
    slice_get-get_or properties c.args.index q c.requires.inside ∙ ap (λ (p : Property). Some p) (sym c.index-property.ensures) in
    property_read c.args.self.now.unnamed c.args.self.now.growing.now c.args.self.now.belongings.now.places.items c.args.index q c.in_ok-value.value there c.in_ok-value.ensures
