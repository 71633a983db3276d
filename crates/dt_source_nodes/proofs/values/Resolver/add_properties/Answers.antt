use Rattle.std.proofs.Common.{◌≡◌, ℕ, List, map, take, get_or, subst}
use Rattle.std.proofs.lemmas.Result.{err_from_is_err_and}
use Rattle.std.proofs.lemmas.List.{take_all}
use Rattle.dt_source_named_tree.specs.Said.{property_said}
use Rattle.dt_source_nodes.specs.Resolving.{EachNaming, ArePropertiesRead}
use Rattle.dt_source_nodes.proofs.ContentSteps.{in_read, unread_among, properties_more}
use Rattle.dt_source_nodes.proofs.values.Resolver.add_properties.Goals as goal

pub property_there-requires : goal.property_there-requires
property_there-requires c =
    let indices = c.args.indices.now in
    let i = c.loop-index.index-index in
    record { inside = c.requires.inside (get_or indices i 0) (in_read indices i 0 c.loop-index-test.true) }

pub returns-in_err-property : goal.returns-in_err-property
returns-in_err-property c =
    let e = err_from_is_err_and c.from_residual.result c.from_residual.ensures.1 in
    rw (e.1, e.2) (unread_among c.args.self.now.unnamed c.args.self.now.growing.now c.args.indices.now c.loop-index.index-index 0 c.in_err-property.field-0.0 c.loop-index-test.true c.in_err-property.ensures)

pub loop-index-preserved : goal.loop-index-preserved
loop-index-preserved c =
    properties_more c.args.self.now.unnamed c.args.self.now.growing.now c.args.self.now.belongings.now.places.items c.args.indices.now c.loop-index.index-index 0 c.loop-index.properties.items c.push.new.self.items c.in_ok-property.property
    c.loop-index-test.true c.in_ok-push.ensures.items c.loop-index.invariant c.in_ok-property.ensures

pub returns : goal.returns
returns c =
    let indices = c.args.indices.now in
    let all : take c.loop-index.index-index indices ≡ indices = take_all c.loop-index.index-index indices c.loop-index-test.false in
    subst (λ (ks : List ℕ). EachNaming c.args.self.now.growing.now c.args.self.now.belongings.now.places.items (λ es place.
    ArePropertiesRead c.args.self.now.unnamed es place c.args.self.now.growing.now.properties.items ks (map property_said c.loop-index.properties.items))) all c.loop-index.invariant
