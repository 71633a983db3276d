use Rattle.std.proofs.Common.{◌≡◌, ◌+◌, Some, slice_get, sym, subst, get_or}
use Rattle.dt_source_nodes.specs.declared.listing.Row.{Row}
use Rattle.std.proofs.lemmas.Option.{slice_get-get_or}
use Rattle.dt_source_nodes.proofs.Places.{AreFirstPlaces, ordered-more, all_ordered}
use Rattle.dt_source_nodes.proofs.listing.places.Goals as goal

pub loop-place-preserved : goal.loop-place-preserved
loop-place-preserved c =
    let rows = c.args.rows.now in
    let n = c.loop-place.place in
    let d : Row = record { node = 0; parent = 0 } in
    let there : slice_get rows n ≡ Some (get_or rows n d) = slice_get-get_or rows n d c.loop-place-test.true in
    subst (AreFirstPlaces rows (n + 1) c.args.count) (sym c.set_place.ensures) (ordered-more rows n c.args.count c.loop-place.places.items (get_or rows n d) there c.loop-place.invariant)

pub returns : goal.returns
returns c = all_ordered c.args.rows.now c.loop-place.place c.args.count c.loop-place.places.items c.loop-place-test.false c.loop-place.invariant
